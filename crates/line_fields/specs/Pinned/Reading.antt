-- The fields that a text begins with. `OneLine` of line_messages pins these definitions to the texts. Definitions only.
use Rattle.std.specs.Prelude.{ℕ, cond, List, [], ◌∷◌, ◌++◌, leb, eqb}
use Rattle.line_values.specs.Pinned.Numbers.{Parsed, number, bad, number_of}
use Rattle.line_values.specs.Pinned.Days.{day_in}
use Rattle.line_fields.specs.declared.{Sort.Sort, Shape.Shape}
use Rattle.line_fields.specs.Between.Shapes.{most_fields, sorts_of}

-- The value that a text holds, as a field of its sort.
abbrev pub value_of : Sort → List ℕ → Parsed
value_of Sort.Date l = day_in l
value_of Sort.Number l = number_of l

-- The field that a text begins with.
unfoldable pub field_of : Sort → List ℕ → Parsed
field_of k [] = bad
field_of k (c ∷ l) = cond (eqb c 59) (value_of k l) bad

-- The values of fields and the text behind them, or none.
pub data AllParsed : Type 0 where
  values : List ℕ → List ℕ → AllParsed
  unread : AllParsed

abbrev pub and_then : Parsed → (ℕ → List ℕ → AllParsed) → AllParsed
and_then (number n r) f = f n r
and_then bad f = unread

-- The values of all the fields that a text begins with; acc has those already read.
unfoldable pub fields_of : List Sort → List ℕ → List ℕ → AllParsed
fields_of [] acc l = values acc l
fields_of (k ∷ ks) acc l = and_then (field_of k l) (λ n r. fields_of ks (acc ++ (n ∷ [])) r)

-- The fields of a shape that a text begins with; a shape of too many is not read.
unfoldable pub fields_in : Shape → List ℕ → AllParsed
fields_in s l = cond (leb s.count most_fields) (fields_of (sorts_of s) [] l) unread
