-- 01, Message lines: "dates aaaammjj as real dates of the calendar". The value of a date is its day. Definitions only.
use Rattle.std.specs.Prelude.{ℕ, List, Option, Some, None}
use Rattle.dates.specs.Numbers.{day_answer}
use Rattle.line_values.specs.Pinned.Numbers.{fixed_of, Parsed, number, bad}

-- Reading one thing after another.
abbrev pub and_then : Parsed → (ℕ → List ℕ → Parsed) → Parsed
and_then (number n l) f = f n l
and_then bad f = bad

abbrev pub day_read : Option ℕ → List ℕ → Parsed
day_read (Some n) l = number n l
day_read None l = bad

-- The day of the date that a text begins with.
unfoldable pub day_in : List ℕ → Parsed
day_in l =
    and_then (fixed_of 4 0 l) (λ y l₁.
    and_then (fixed_of 2 0 l₁) (λ m l₂.
    and_then (fixed_of 2 0 l₂) (λ d r.
    day_read (day_answer y m d) r)))
