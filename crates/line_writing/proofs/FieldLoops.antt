-- One turn of going over the fields of a shape: those left.
use Rattle.basics.proofs.Basics.{◌≡◌, List, [], ◌∷◌, ◌++◌, ◌≤◌, ℕ, ◌-◌, ◌+◌, ◌<◌, suc, add-one, arith, length, get_or}
use Rattle.line_text.specs.Between.Appending.{Appended}
use Rattle.line_text.proofs.Appends.{rest_start, rest_next, rest_done}
use Rattle.line_fields.specs.Fields.{field, field_text, fields_text}
use Rattle.line_fields.specs.Between.Shapes.{sort_at, fields_from}
use Rattle.line_fields.proofs.FieldTexts.{field_append}

pub fields_next : (second n i : ℕ) (vs : List ℕ) → i < n →
    fields_from second i (n - i) vs ≡ field (sort_at second i) (get_or vs i 0) ∷ fields_from second (i + 1) (n - (i + 1)) vs
unfolding fields_from
fields_next second n i vs h = let e : n - i ≡ suc (n - (i + 1)) = omega arith in rw (e, add-one i)

pub fields_none : (second n i : ℕ) (vs : List ℕ) → n ≤ i → fields_from second i (n - i) vs ≡ []
unfolding fields_from
fields_none second n i vs h = let e : n - i ≡ 0 = omega arith in rw e

pub text_next : (second n i : ℕ) (vs : List ℕ) → i < n →
    fields_text (fields_from second i (n - i) vs) ≡
    field_text (sort_at second i) (get_or vs i 0) [] ++ fields_text (fields_from second (i + 1) (n - (i + 1)) vs)
text_next second n i vs h = rw (fields_next second n i vs h) (field_append (sort_at second i) (get_or vs i 0) _)

-- the `;`, and then a value
pub field_put : (at : ℕ) (u o o₁ o₂ : List ℕ) (a₁ a₂ : ℕ) → at + length (59 ∷ u) ≤ length o → Appended at (59 ∷ []) o o₁ a₁ →
    Appended a₁ u o₁ o₂ a₂ → Appended at (59 ∷ u) o o₂ a₂
field_put at u o o₁ o₂ a₁ a₂ h v w =
    rest_done at (59 ∷ u) o a₁ u o₁ a₂ o₂ (rest_next at (59 ∷ u) o at (59 ∷ []) u o a₁ o₁ (rest_start at (59 ∷ u) o h) v) w
