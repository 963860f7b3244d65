-- 01, The calendar: working days, and how many lie between two days or from one to another.
-- Definitions only.
use Rattle.std.specs.Prelude.{ℕ, zero, suc, ◌+◌, ◌-◌, Bool, not, cond, ◌&&◌, leb, ltb}
use Rattle.dates.specs.Dates.{last_day, weekday}
use Rattle.holidays.specs.Holidays.{is_holiday}

-- 01: "A working day is Monday to Friday and no legal holiday." No number past the calendar's end is one.
unfoldable pub is_working : ℕ → Bool
is_working n = leb n last_day && (ltb (weekday n) 5 && not (is_holiday n))

-- The working days among the n days from day s on.
unfoldable pub working_from : ℕ → ℕ → ℕ
working_from s zero = 0
working_from s (suc n) = cond (is_working s) 1 0 + working_from (suc s) n

-- 01, call 7: the working days that "lie after today and before e": strictly after a and strictly before b.
unfoldable pub working_between : ℕ → ℕ → ℕ
working_between a b = working_from (a + 1) (b - (a + 1))

-- The working days from a first to a last day, both counted.
unfoldable pub working_days : ℕ → ℕ → ℕ
working_days first last = working_from first (last + 1 - first)
