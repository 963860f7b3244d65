-- 01, The calendar: gas days, leap years, month lengths, and the date of each day, counted on from the first.
-- Definitions only.
use Rattle.std.specs.Prelude.{ℕ, zero, suc, ◌+◌, ◌-◌, ◌%◌, ◌≤◌, cond, List, [], ◌∷◌, ltb, eqb, get_or}
use Rattle.dates.specs.declared.{Date.Date}

-- 01: "A gas day is a number 0 to 73,048".
abbrev pub last_day : ℕ
last_day = 73048

-- 01: "0 is 1 January 2000, a Saturday". 0 is Monday, 6 is Sunday.
unfoldable pub weekday : ℕ → ℕ
weekday n = (n + 5) % 7

-- 01: "Leap years are Gregorian, so 2100 has none." The row of the month table: 1 in a leap year, else 0.
unfoldable pub leap_row : ℕ → ℕ
leap_row y = cond (eqb (y % 400) 0) 1 (cond (eqb (y % 100) 0) 0 (cond (eqb (y % 4) 0) 1 0))

-- 01: "Month lengths come as a table of two rows of twelve, common and leap."
abbrev pub month_lengths : List (List ℕ)
month_lengths =
    (31 ∷ 28 ∷ 31 ∷ 30 ∷ 31 ∷ 30 ∷ 31 ∷ 31 ∷ 30 ∷ 31 ∷ 30 ∷ 31 ∷ []) ∷
    (31 ∷ 29 ∷ 31 ∷ 30 ∷ 31 ∷ 30 ∷ 31 ∷ 31 ∷ 30 ∷ 31 ∷ 30 ∷ 31 ∷ []) ∷ []

-- The days of a month, counted from 0, in a row of the table.
unfoldable pub month_length : ℕ → ℕ → ℕ
month_length row m = get_or (get_or month_lengths row []) m 0

-- The date of day d of month m of year y: months and days count from 1.
abbrev pub date : ℕ → ℕ → ℕ → Date
date y m d = record { year = y; month = m; day = d }

-- The date of the day after.
unfoldable pub next : Date → Date
next x =
    cond (ltb x.day (month_length (leap_row x.year) (x.month - 1)))
    (date x.year x.month (suc x.day))
    (cond (ltb x.month 12)
    (date x.year (suc x.month) 1)
    (date (suc x.year) 1 1))

-- 01: "0 is 1 January 2000".
unfoldable pub date_of : ℕ → Date
date_of zero = date 2000 1 1
date_of (suc n) = next (date_of n)

-- The ranges of a calendar date's fields, on which the code's sums rely.
pub record InRange (x : Date) : Type 0 where
  pub from_2000 : 2000 ≤ x.year
  pub to_2199 : x.year ≤ 2199
  pub month_from_1 : 1 ≤ x.month
  pub month_to_12 : x.month ≤ 12
  pub day_from_1 : 1 ≤ x.day
  pub day_to_31 : x.day ≤ 31
