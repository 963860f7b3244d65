-- What the fields that were read say: the text behind them, and with a right known date the fields of the text.
use Rattle.std.specs.Prelude.{Result, Ok, Err}
use Rattle.basics.proofs.Basics.{◌≡◌, sym, ◌∙◌, true, false, cond, List, [], ℕ, ◌+◌, ◌-◌, arith, leb, length, drop, cases}
use Rattle.line_values.proofs.Places.{Ends, ends_self, end_place}
use Rattle.line_fields.specs.declared.{KnownDate.KnownDate, Shape.Shape}
use Rattle.line_fields.specs.Between.Known.{IsKnown}
use Rattle.line_fields.specs.Pinned.Reading.{values, unread, fields_in}
use Rattle.line_fields.specs.Between.Shapes.{most_fields, sorts_of}
use Rattle.line_fields.specs.Between.With.{AllWith, fields_in_with, ReadsFields}
use Rattle.line_fields.proofs.Handed.{fields_rest}
use Rattle.line_fields.proofs.KnownStays.{known_stays}

-- what follows the fields is the end of the text
pub fields_in_rest : (k : KnownDate) (s : Shape) (l : List ℕ) → Ends l (fields_in_with k s l).rest
unfolding fields_in_with
fields_in_rest k s l = cases (leb s.count most_fields) (λ e. rw e (fields_rest k (sorts_of s) [] l)) (λ e. rw e (ends_self l))

-- what the code read of the text s
module _ (last : KnownDate) (shape : Shape) (from : ℕ) (s : List ℕ) (then : KnownDate) (after : List ℕ) (r : Result ℕ ℕ)
    (h : ReadsFields last shape from s then after r) where
  abbrev x : AllWith
  x = fields_in_with last shape (drop from s)

  there : (n : ℕ) → n ≡ from + (length (drop from s) - length x.rest) → drop n s ≡ x.rest
  there n e = rw e (end_place s from x.rest (fields_in_rest last shape (drop from s)))

  -- all of them, up to n, or not
  pub fields_all : (n : ℕ) → r ≡ Ok n → (x.ok ≡ true) × (drop n s ≡ x.rest) × (n ≡ from + (length (drop from s) - length x.rest))
  fields_all n e = cases x.ok
      (λ p. let q : n ≡ from + (length (drop from s) - length x.rest) = let f = sym e ∙ rw p at h.result in cc in (p, there n q, q))
      (λ p. absurd (let f = sym e ∙ rw p at h.result in let z : ◌≡◌ {A = ℕ} 0 1 = cc in omega arith))

  pub fields_not : (n : ℕ) → r ≡ Err n → x.ok ≡ false
  fields_not n e = cases x.ok
      (λ p. absurd (let f = sym e ∙ rw p at h.result in let z : ◌≡◌ {A = ℕ} 0 1 = cc in omega arith)) (λ p. p)

  -- with a right known date they are the fields of the text
  pub fields_read : IsKnown last → fields_in shape (drop from s) ≡ cond x.ok (values x.read x.rest) unread
  fields_read k = sym (known_stays.same last shape (drop from s) k)
