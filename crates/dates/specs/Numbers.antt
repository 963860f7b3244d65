-- 01, The calendar: the number of a date, by sums of month lengths, which dates are real, and the two answers.
-- Definitions only.
use Rattle.std.specs.Prelude.{ℕ, zero, suc, ◌+◌, ◌-◌, Bool, cond, ◌&&◌, leb, Option, Some, None}
use Rattle.dates.specs.declared.{Date.Date}
use Rattle.dates.specs.Dates.{last_day, leap_row, month_length, date_of}

-- The days of a year before its month m, counted from 0; at 12, all its days.
unfoldable pub month_start : ℕ → ℕ → ℕ
month_start row zero = 0
month_start row (suc m) = month_start row m + month_length row m

-- The days from 1 January 2000 to 1 January 2000 + k.
unfoldable pub year_start : ℕ → ℕ
year_start zero = 0
year_start (suc k) = year_start k + month_start (leap_row (2000 + k)) 12

-- The number of a date: the days of the years before its year, of the months before its month, and before its day.
unfoldable pub day_number : ℕ → ℕ → ℕ → ℕ
day_number y m d = year_start (y - 2000) + month_start (leap_row y) (m - 1) + (d - 1)

-- 01: "0 is 1 January 2000, a Saturday, and 73,048 is 31 December 2199." The real dates from the one to the other.
unfoldable pub is_real : ℕ → ℕ → ℕ → Bool
is_real y m d =
    leb 2000 y && leb y 2199 && leb 1 m && leb m 12 && leb 1 d && leb d (month_length (leap_row y) (m - 1))

-- The answer to: which day has this date?
unfoldable pub day_answer : ℕ → ℕ → ℕ → Option ℕ
day_answer y m d = cond (is_real y m d) (Some (day_number y m d)) None

-- The answer to: which date has this day?
unfoldable pub date_answer : ℕ → Option Date
date_answer n = cond (leb n last_day) (Some (date_of n)) None
