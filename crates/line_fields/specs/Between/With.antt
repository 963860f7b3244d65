-- Reading the fields of a line with a known date, whichever it is: a date whose bytes are the known ones has the known
-- day. `KnownStays` says that a right one changes nothing. Between crates only: `read_line` does not need it.
-- Definitions only.
use Rattle.std.specs.Prelude.{ℕ, ◌+◌, ◌-◌, ◌≡◌, Bool, true, false, cond, List, [], ◌∷◌, ◌++◌, leb, eqb, length, take, drop, replicate}
use Rattle.std.specs.Prelude.{Option, Some, None, Result, Ok, Err}
use Rattle.line_values.specs.Pinned.Words.{are_same}
use Rattle.line_values.specs.Pinned.Numbers.{Parsed, number, bad, number_of}
use Rattle.line_values.specs.Pinned.Days.{day_in}
use Rattle.line_fields.specs.declared.{Sort.Sort, Shape.Shape, KnownDate.KnownDate}
use Rattle.line_fields.specs.Between.Known.{packed, known_text}
use Rattle.line_fields.specs.Pinned.Reading.{AllParsed, values, unread}
use Rattle.line_fields.specs.Between.Shapes.{most_fields, sorts_of}

-- What a text begins with: a value, what follows it and the date that is known from then on; or none.
pub data ParsedWith : Type 0 where
  value : ℕ → List ℕ → KnownDate → ParsedWith
  none : ParsedWith

-- What is read, with the date that is known from then on: as before a number; a date itself, by its bytes b.
abbrev pub known_by : (ℕ → KnownDate) → Parsed → ParsedWith
known_by f (number n r) = value n r (f n)
known_by f bad = none

abbrev pub date_read : ℕ → Parsed → ParsedWith
date_read b x = known_by (λ n. record { bytes = b; day = n }) x

-- The number that a text begins with.
abbrev pub number_with : KnownDate → List ℕ → ParsedWith
number_with k l = known_by (λ n. k) (number_of l)

-- The date that a text begins with: the known day where the eight bytes are the known ones, else their own.
unfoldable pub date_with : KnownDate → List ℕ → ParsedWith
date_with k l =
    cond (are_same (take 8 l) (known_text k)) (value k.day (drop 8 l) k) (date_read (packed (take 8 l)) (day_in l))

-- The value that a text holds, as a field of its sort.
abbrev pub value_with : KnownDate → Sort → List ℕ → ParsedWith
value_with k Sort.Date l = date_with k l
value_with k Sort.Number l = number_with k l

-- The field that a text begins with.
unfoldable pub field_with : KnownDate → Sort → List ℕ → ParsedWith
field_with k s [] = none
field_with k s (c ∷ l) = cond (eqb c 59) (value_with k s l) none

-- What is read of fields: whether it is all of them, their values, what follows them, the date known then.
pub record AllWith : Type 0 where
  pub ok : Bool
  pub read : List ℕ
  pub rest : List ℕ
  pub known : KnownDate

abbrev pub with_all : Bool → List ℕ → List ℕ → KnownDate → AllWith
with_all ok vs l k = record { ok = ok; read = vs; rest = l; known = k }

abbrev pub on_with : ParsedWith → AllWith → (ℕ → List ℕ → KnownDate → AllWith) → AllWith
on_with (value n r k) x f = f n r k
on_with none x f = x

-- Fields, one after the other; acc has the values already read. Where one cannot be read all stays as it was before it.
unfoldable pub fields_with : KnownDate → List Sort → List ℕ → List ℕ → AllWith
fields_with k [] acc l = with_all true acc l k
fields_with k (s ∷ ss) acc l =
    on_with (field_with k s l) (with_all false acc l k) (λ n r d. fields_with d ss (acc ++ (n ∷ [])) r)

-- The fields of a shape; of a shape of too many nothing is read.
unfoldable pub fields_in_with : KnownDate → Shape → List ℕ → AllWith
fields_in_with k s l = cond (leb s.count most_fields) (fields_with k (sorts_of s) [] l) (with_all false [] l k)

-- The values of all fields, or none: what `fields_in` says.
abbrev pub all_of : AllWith → AllParsed
all_of x = cond x.ok (values x.read x.rest) unread

-- What the code hands back of what is read from a position on, l being the text from there on; positions lie as many
-- bytes on as were read.
abbrev pub found_with : ℕ → List ℕ → ParsedWith → Option (ℕ × ℕ)
found_with at l (value v r k) = Some (v, at + (length l - length r))
found_with at l none = None

-- The date that is known then.
abbrev pub known_with : KnownDate → ParsedWith → KnownDate
known_with k (value v r d) = d
known_with k none = k

-- The position behind all the fields, or that of the first that cannot be read.
abbrev pub place_of : Bool → ℕ → Result ℕ ℕ
place_of ok n = cond ok (Ok n) (Err n)

abbrev pub place_after : ℕ → List ℕ → AllWith → Result ℕ ℕ
place_after from l x = place_of x.ok (from + (length l - length x.rest))

-- The values then: those read, and zeros behind them.
abbrev pub values_after : AllWith → List ℕ
values_after x = x.read ++ replicate (most_fields - length x.read) 0

-- What it means that the fields of a shape are read from a position of a text on: the whole of what is handed back, the
-- date that is known then, and the whole of the values.
pub record ReadsFields (last : KnownDate) (shape : Shape) (from : ℕ) (s : List ℕ) (then : KnownDate) (after : List ℕ)
    (r : Result ℕ ℕ) : Type 0 where
  pub result : r ≡ place_after from (drop from s) (fields_in_with last shape (drop from s))
  pub known : then ≡ (fields_in_with last shape (drop from s)).known
  pub values : after ≡ values_after (fields_in_with last shape (drop from s))
