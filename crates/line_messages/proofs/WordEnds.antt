-- Where the first word of a line ends.
use Rattle.basics.proofs.Basics.{◌≡◌, refl, true, not, and-eq-true_iff, List, [], ◌∷◌, ◌++◌, ◌≤◌, ℕ}
use Rattle.basics.proofs.Basics.{eqb, length}
use Rattle.basics.proofs.Basics.{not-true, arith, ltb, ltb-false, cases}
use Rattle.std.specs.Prelude.{position, ◌==◌}
use Rattle.std.specs.List.{position_or_len}
use Rattle.std.specs.Option.{unwrap_or}
use Rattle.std.proofs.Math.Numerals.{one-add}
use Rattle.std.proofs.lemmas.List.Recursion.{is_position_or_len}
use Rattle.line_fields.specs.declared.{Sort.Sort}
use Rattle.line_fields.specs.Fields.{Field, field_text, fields_text}
use Rattle.line_kinds.proofs.KindTable.{lacks}
use Rattle.line_messages.specs.Pinned.Reading.{word_end}

pub word_le : (l : List ℕ) → word_end l ≤ length l
unfolding word_end
word_le [] = omega arith
word_le (c ∷ l) = let rest = word_le l in cases (eqb c 59) (λ e. rw e (omega arith)) (λ e. rw e (omega arith))

-- it is the place of the first `;`, or the line's end
pub word_place : (l : List ℕ) → unwrap_or (position (λ c. c == 59) l) (length l) ≡ word_end l
unfolding word_end
word_place l = let e : word_end l ≡ position_or_len (λ c. c == 59) l =
    is_position_or_len word_end (λ c. c == 59) refl (λ x xs. rw (one-add (word_end xs))) l in
    cases (ltb (word_end l) (length l)) (λ t. rw (← e, t)) (λ f. rw (← e, f) (omega (arith, word_le l, ltb-false (word_end l) (length l) f)))

-- a word without `;` in front of fields
pub fields_begin : (fs : List Field) → word_end (fields_text fs) ≡ 0
unfolding word_end
fields_begin [] = refl
fields_begin (f ∷ fs) =
    elim f.sort as (λ k. word_end (field_text k f.value (fields_text fs)) ≡ 0) [ Sort.Date ↦ refl | Sort.Number ↦ refl ]

pub word_ends : (w t : List ℕ) → lacks 59 w ≡ true → word_end t ≡ 0 → word_end (w ++ t) ≡ length w
unfolding word_end
word_ends [] t h e = e
word_ends (c ∷ w) t h e = let (other, rest) = (and-eq-true_iff (not (eqb c 59)) (lacks 59 w)).0 h in
    rw (not-true (eqb c 59) other, word_ends w t rest e)
