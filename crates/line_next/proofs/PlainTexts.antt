-- No line feed stands in the line of a message, so the line ends where its fields do.
use Rattle.std.specs.Prelude.{Some, None}
use Rattle.basics.proofs.Basics.{◌≡◌, refl, ap, true, false, not, and-eq-true_iff, List, [], ◌∷◌, ◌++◌, ℕ, ◌+◌, suc}
use Rattle.basics.proofs.Basics.{zero, ◌/◌, ◌%◌, arith, eqb, ltb, length, ne_eqb, not-true, cases}
use Rattle.dates.specs.Numbers.{date_answer}
use Rattle.line_text.specs.Decimal.{spell, fixed}
use Rattle.line_text.specs.Days.{answer_text, day_text}
use Rattle.line_fields.specs.declared.{Sort.Sort}
use Rattle.line_fields.specs.Fields.{Field, field_text, fields_text}
use Rattle.line_kinds.proofs.KindTable.{lacks}
use Rattle.input_lines.specs.Between.Feeds.{until_feed}

abbrev pub Plain : List ℕ → Type 0
Plain [] = Unit {0}
Plain (c ∷ l) = (eqb c 10 ≡ false) × Plain l

pub plain_end : (t r : List ℕ) → Plain t → until_feed (t ++ (10 ∷ r)) ≡ length t
unfolding until_feed
plain_end [] r p = refl
plain_end (c ∷ t) r p = rw p.0 (ap suc (plain_end t r p.1))

pub plain_append : (a b : List ℕ) → Plain a → Plain b → Plain (a ++ b)
plain_append [] b p q = q
plain_append (c ∷ a) b p q = (p.0, plain_append a b p.1 q)

-- digits
plain_digit : (n : ℕ) → eqb (48 + n) 10 ≡ false
plain_digit n = ne_eqb (48 + n) 10 (λ e. omega arith)

plain_number : (k n : ℕ) (l : List ℕ) → Plain l → Plain (spell k n l)
unfolding spell
plain_number zero n l p = p
plain_number (suc k) n l p = cases (ltb n 10) (λ e. rw e (plain_digit n, p))
    (λ e. rw e (plain_number k (n / 10) ((48 + n % 10) ∷ l) (plain_digit (n % 10), p)))

plain_fixed : (k n : ℕ) (l : List ℕ) → Plain l → Plain (fixed k n l)
unfolding fixed
plain_fixed zero n l p = p
plain_fixed (suc k) n l p = plain_fixed k (n / 10) ((48 + n % 10) ∷ l) (plain_digit (n % 10), p)

plain_day : (n : ℕ) (l : List ℕ) → Plain l → Plain (day_text n l)
plain_day n l p = elim (date_answer n) as (λ a. Plain (answer_text a l)) [
  | Some x ↦ plain_fixed 4 x.year _ (plain_fixed 2 x.month _ (plain_fixed 2 x.day l p))
  | None ↦ plain_fixed 8 0 l p
]

pub plain_fields : (fs : List Field) → Plain (fields_text fs)
plain_fields [] = tt
plain_fields (f ∷ fs) = let p = plain_fields fs in elim f.sort as (λ k. Plain (field_text k f.value (fields_text fs)))
    [ Sort.Date ↦ (refl, plain_day f.value (fields_text fs) p) | Sort.Number ↦ (refl, plain_number 20 f.value (fields_text fs) p) ]

pub plain_word : (w : List ℕ) → lacks 10 w ≡ true → Plain w
plain_word [] h = tt
plain_word (c ∷ w) h = let (other, rest) = (and-eq-true_iff (not (eqb c 10)) (lacks 10 w)).0 h in (not-true (eqb c 10) other, plain_word w rest)
