-- 01, The calendar: legal holidays.
-- Definitions only.
use Rattle.std.specs.Prelude.{ℕ, ◌+◌, Bool, false, ◌&&◌, ◌||◌, List, [], ◌∷◌, leb, eqb, Option, Some, None}
use Rattle.dates.specs.declared.{Date.Date}
use Rattle.dates.specs.Dates.{last_day, date_of}
use Rattle.holidays.specs.declared.{FixedHoliday.FixedHoliday}
use Rattle.holidays.specs.Easter.{easter_day}

abbrev pub fixed_holiday : ℕ → ℕ → ℕ → FixedHoliday
fixed_holiday m d y = record { month = m; day = d; since = y }

-- 01: "Holidays: 1 January, 1 May, 9 May, 23 June, 15 August, 1 November, 25 and 26 December".
-- 02, F-2: "By law 9 May became a legal holiday in Luxembourg in 2019. Working days in document 01 are to follow the
-- year." So each row says since which year it holds; the calendar begins in 2000.
abbrev pub fixed_holidays : List FixedHoliday
fixed_holidays =
    fixed_holiday 1 1 2000 ∷ fixed_holiday 5 1 2000 ∷ fixed_holiday 5 9 2019 ∷ fixed_holiday 6 23 2000 ∷
    fixed_holiday 8 15 2000 ∷ fixed_holiday 11 1 2000 ∷ fixed_holiday 12 25 2000 ∷ fixed_holiday 12 26 2000 ∷ []

-- A row of that table falls on a date: in its month, on its day, in its first year or a later one.
unfoldable pub falls_on : FixedHoliday → Date → Bool
falls_on f x = eqb f.month x.month && (eqb f.day x.day && leb f.since x.year)

abbrev pub any_falls_on : List FixedHoliday → Date → Bool
any_falls_on [] x = false
any_falls_on (f ∷ fs) x = falls_on f x || any_falls_on fs x

unfoldable pub is_fixed_holiday : Date → Bool
is_fixed_holiday x = any_falls_on fixed_holidays x

-- 01: "and 1, 39 and 50 days after Easter Sunday": Easter Monday, Ascension, Whit Monday.
unfoldable pub is_after_easter : ℕ → Option ℕ → Bool
is_after_easter n (Some e) = eqb n (e + 1) || (eqb n (e + 39) || eqb n (e + 50))
is_after_easter n None = false

-- A day with a date. 01: "Two holidays on one day count once": a day is a holiday or it is none.
unfoldable pub is_holiday_on : ℕ → Date → Bool
is_holiday_on n x = is_fixed_holiday x || is_after_easter n (easter_day x.year)

-- No number past the calendar's end is a holiday.
unfoldable pub is_holiday : ℕ → Bool
is_holiday n = leb n last_day && is_holiday_on n (date_of n)
