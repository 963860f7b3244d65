-- The last date that was read, by its eight bytes: a line that gives it again need not be read digit by digit.
-- Definitions only.
use Rattle.std.specs.Prelude.{ℕ, zero, suc, ◌+◌, ◌*◌, ◌/◌, ◌%◌, ◌≤◌, ◌≡◌, List, [], ◌∷◌}
use Rattle.dates.specs.Dates.{last_day}
use Rattle.line_text.specs.Ascii.{ascii}
use Rattle.line_text.specs.Days.{day_text}
use Rattle.line_fields.specs.declared.{KnownDate.KnownDate}

-- The bytes of a text as one number, the first byte the lowest.
abbrev pub packed : List ℕ → ℕ
packed [] = 0
packed (c ∷ l) = c + 256 * packed l

-- The lowest n bytes of a number, the lowest first.
unfoldable pub unpacked : ℕ → ℕ → List ℕ
unpacked zero b = []
unpacked (suc n) b = b % 256 ∷ unpacked n (b / 256)

-- The eight bytes of a known date.
abbrev pub known_text : KnownDate → List ℕ
known_text k = unpacked 8 k.bytes

-- The date that is known before any is read: 1 January 2000, day 0.
abbrev pub first_known : KnownDate
first_known = record { bytes = packed (ascii "20000101"); day = 0 }

-- A known date is a right one: its bytes are those of its day's date.
pub record IsKnown (k : KnownDate) : Type 0 where
  pub inside : k.day ≤ last_day
  pub text : known_text k ≡ day_text k.day []
