-- The fields behind a kind's word, by their number and by which of them are dates. Definitions only.
use Rattle.std.specs.Prelude.{ℕ, zero, suc, cond, List, [], ◌∷◌, eqb, get_or}
use Rattle.line_fields.specs.declared.{Sort.Sort, Shape.Shape}
use Rattle.line_fields.specs.Fields.{Field, field}

-- The most fields that are read; in the code `MOST_FIELDS`.
abbrev pub most_fields : ℕ
most_fields = 9

abbrev pub shape : ℕ → ℕ → Shape
shape count second = record { count = count; second = second }

-- The sorts of a shape's n fields from the one at i on: the first is a date, and so is the one at second.
abbrev pub sort_at : ℕ → ℕ → Sort
sort_at second i = cond (eqb i 0) Sort.Date (cond (eqb i second) Sort.Date Sort.Number)

unfoldable pub sorts_from : ℕ → ℕ → ℕ → List Sort
sorts_from second i zero = []
sorts_from second i (suc n) = sort_at second i ∷ sorts_from second (suc i) n

abbrev pub sorts_of : Shape → List Sort
sorts_of s = sorts_from s.second 0 s.count

-- The fields of a shape with these values.
unfoldable pub fields_from : ℕ → ℕ → ℕ → List ℕ → List Field
fields_from second i zero vs = []
fields_from second i (suc n) vs = field (sort_at second i) (get_or vs i 0) ∷ fields_from second (suc i) n vs

abbrev pub fields_as : Shape → List ℕ → List Field
fields_as s vs = fields_from s.second 0 s.count vs

-- The sorts and the values of fields.
abbrev pub sorts_in : List Field → List Sort
sorts_in [] = []
sorts_in (f ∷ fs) = f.sort ∷ sorts_in fs

abbrev pub values_in : List Field → List ℕ
values_in [] = []
values_in (f ∷ fs) = f.value ∷ values_in fs
