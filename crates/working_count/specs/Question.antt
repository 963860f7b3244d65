-- 02, F-5: the question how many working days lie between two days. Definitions only.
use Rattle.std.specs.Prelude.{ℕ, cond, ◌&&◌, leb, Option, Some, None}
use Rattle.dates.specs.Dates.{last_day}
use Rattle.holidays.specs.Working.{working_between}

-- 02, F-5: "For every two days of the calendar, the first not after the second, the count of working days strictly
-- between them"; "days off the calendar or out of order give 22."
unfoldable pub working_answer : ℕ → ℕ → Option ℕ
working_answer a b = cond (leb a b && leb b last_day) (Some (working_between a b)) None

-- The number that goes with an answer.
abbrev pub working_number : Option ℕ → ℕ
working_number (Some n) = 0
working_number None = 22
