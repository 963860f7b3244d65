-- One field at a position, and one turn of reading fields: what is left to read, and the place that its value
-- takes.
use Rattle.basics.proofs.Basics.{◌≡◌, sym, ◌∙◌, false, List, [], ◌∷◌, ◌++◌, ◌≤◌, ℕ, ◌-◌, ◌+◌, ◌<◌, suc, add-one, arith}
use Rattle.basics.proofs.Basics.{length, drop, take, get_or, set, replicate, drop-cons, drop-set-lt, take-suc-set, le-leb}
use Rattle.basics.proofs.Basics.{lt-leb}
use Rattle.line_fields.specs.declared.{Shape.Shape, KnownDate.KnownDate}
use Rattle.line_fields.specs.Pinned.Reading.{fields_of, fields_in}
use Rattle.line_fields.specs.Between.Shapes.{most_fields, sort_at, sorts_from, sorts_of}
use Rattle.line_fields.specs.Between.With.{with_all, fields_with, fields_in_with}

-- the sorts from the one at i on
pub sorts_next : (second n i : ℕ) → i < n →
    sorts_from second i (n - i) ≡ sort_at second i ∷ sorts_from second (i + 1) (n - (i + 1))
unfolding sorts_from
sorts_next second n i h = let e : n - i ≡ suc (n - (i + 1)) = omega arith in rw (e, add-one i)

pub sorts_none : (second n i : ℕ) → n ≤ i → sorts_from second i (n - i) ≡ []
unfolding sorts_from
sorts_none second n i h = let e : n - i ≡ 0 = omega arith in rw e

-- a value more in its place, and zeros behind it
pub one_more : (vs : List ℕ) (i v : ℕ) → i < length vs → take (i + 1) (set vs i v) ≡ take i vs ++ (v ∷ [])
one_more vs i v h = rw (add-one i) (take-suc-set vs i v h)

pub zeros_left : (vs : List ℕ) (i v : ℕ) → i < length vs → length vs ≡ most_fields → drop i vs ≡ replicate (most_fields - i) 0 →
    drop (i + 1) (set vs i v) ≡ replicate (most_fields - (i + 1)) 0
zeros_left vs i v h n e = let less : most_fields - i ≡ suc (most_fields - suc i) = omega arith in
    let parts : get_or vs i 0 ∷ drop (suc i) vs ≡ 0 ∷ replicate (most_fields - suc i) 0 = sym (drop-cons vs i 0 h) ∙ rw less at e in
    let rest : drop (suc i) vs ≡ replicate (most_fields - suc i) 0 = cc in
    rw (add-one i) (drop-set-lt (suc i) vs i v (omega arith) ∙ rest)

-- the result
module _ (k : KnownDate) (s : Shape) (l : List ℕ) where
  pub too_many : most_fields < s.count → fields_in_with k s l ≡ with_all false [] l k
  unfolding fields_in_with
  too_many h = rw (lt-leb s.count most_fields h)

  pub fields_in_is : s.count ≤ most_fields → fields_in_with k s l ≡ fields_with k (sorts_of s) [] l
  unfolding fields_in_with
  fields_in_is h = rw (le-leb s.count most_fields h)

pub fields_are : (s : Shape) (l : List ℕ) → s.count ≤ most_fields → fields_in s l ≡ fields_of (sorts_of s) [] l
unfolding fields_in
fields_are s l h = rw (le-leb s.count most_fields h)
