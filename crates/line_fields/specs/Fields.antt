-- 01, Message lines: "Fields are separated by `;`". The fields behind a line's kind, each with its `;`.
-- Definitions only.
use Rattle.std.specs.Prelude.{ℕ, ◌^◌, Bool, true, ◌&&◌, List, [], ◌∷◌, leb, ltb}
use Rattle.dates.specs.Dates.{last_day}
use Rattle.line_text.specs.Decimal.{decimal}
use Rattle.line_text.specs.Days.{day_text}
use Rattle.line_fields.specs.declared.{Sort.Sort}

-- A field: a date, whose value is its day, or a number.
pub record Field : Type 0 where
  pub sort : Sort
  pub value : ℕ

abbrev pub field : Sort → ℕ → Field
field s n = record { sort = s; value = n }

abbrev pub date : ℕ → Field
date d = field Sort.Date d

abbrev pub num : ℕ → Field
num n = field Sort.Number n

-- A field's text in front of l: 59 is the byte of `;`.
abbrev pub field_text : Sort → ℕ → List ℕ → List ℕ
field_text Sort.Date n l = 59 ∷ day_text n l
field_text Sort.Number n l = 59 ∷ decimal n l

-- What a field can hold: a day of the calendar, a number of at most 12 digits.
abbrev pub fits : Sort → ℕ → Bool
fits Sort.Date n = leb n last_day
fits Sort.Number n = ltb n (10 ^ 12)

-- The text of fields, and whether each fits.
abbrev pub fields_text : List Field → List ℕ
fields_text [] = []
fields_text (f ∷ fs) = field_text f.sort f.value (fields_text fs)

unfoldable pub fit_all : List Field → Bool
fit_all [] = true
fit_all (f ∷ fs) = fits f.sort f.value && fit_all fs
