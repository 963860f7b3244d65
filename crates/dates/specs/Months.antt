-- 01, The calendar: three months after a day.
-- Definitions only.
use Rattle.std.specs.Prelude.{ℕ, ◌+◌, ◌-◌, min, cond, leb}
use Rattle.dates.specs.declared.{Date.Date}
use Rattle.dates.specs.Dates.{last_day, leap_row, month_length, date_of}
use Rattle.dates.specs.Numbers.{day_number}

-- The number of day d of month m of year y, "or that month's last day if there is none".
unfoldable pub on_or_last : ℕ → ℕ → ℕ → ℕ
on_or_last y m d = day_number y m (min d (month_length (leap_row y) (m - 1)))

-- "the same day of the month three months on": from October on that is in the next year.
unfoldable pub three_months_on : Date → ℕ
three_months_on x =
    cond (leb x.month 9) (on_or_last x.year (x.month + 3) x.day)
    (on_or_last (x.year + 1) (x.month - 9) x.day)

-- 01: "“Three months after” a date is the same day of the month three months on, or that month's last day if there is
-- none; past the calendar's end no day is later than it." Of a number past the calendar's end it is the last day too.
unfoldable pub three_months_after : ℕ → ℕ
three_months_after n = cond (leb n last_day) (min last_day (three_months_on (date_of n))) last_day
