-- Numbers and dates at a position of a text, as the code hands them back. Definitions only.
use Rattle.std.specs.Prelude.{ℕ, ◌+◌, ◌-◌, List, length, drop, Option, Some, None}
use Rattle.line_values.specs.Pinned.Numbers.{Parsed, number, bad, number_of}
use Rattle.line_values.specs.Pinned.Days.{day_in}

-- What is read from a position on, l being the text from there on: the value, and the position behind it, as many bytes
-- on as were read.
abbrev pub found_at : ℕ → List ℕ → Parsed → Option (ℕ × ℕ)
found_at at l (number v rest) = Some (v, at + (length l - length rest))
found_at at l bad = None

-- The number at a position of a text.
abbrev pub number_at : List ℕ → ℕ → Option (ℕ × ℕ)
number_at s at = found_at at (drop at s) (number_of (drop at s))

-- The date at a position of a text; its value is the day.
abbrev pub date_at : List ℕ → ℕ → Option (ℕ × ℕ)
date_at s at = found_at at (drop at s) (day_in (drop at s))
