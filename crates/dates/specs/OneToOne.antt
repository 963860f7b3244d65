-- 01, The calendar: what it means that days and dates are one to one, over the whole calendar.
-- Definitions only: `one_to_one` of proofs/ proves it.
use Rattle.std.specs.Prelude.{ℕ, ◌≤◌, ◌<◌, ◌≡◌, true, false, Some, None}
use Rattle.dates.specs.Dates.{last_day, date, date_of}
use Rattle.dates.specs.Numbers.{is_real, day_number, day_answer, date_answer}

-- 01: "A gas day is a number 0 to 73,048: 0 is 1 January 2000, a Saturday, and 73,048 is 31 December 2199."
-- The n-th date from 1 January 2000 on has the number n, and the date with the number n is the n-th.
pub record OneToOne : Type 0 where
  -- a day of the calendar has a real date
  pub date_is_real : (n : ℕ) → n ≤ last_day → is_real (date_of n).year (date_of n).month (date_of n).day ≡ true
  -- and the day of that date is the day
  pub day_date_day : (n : ℕ) → n ≤ last_day → day_answer (date_of n).year (date_of n).month (date_of n).day ≡
      Some n
  -- a number past the last day has no date
  pub no_other_day : (n : ℕ) → last_day < n → date_answer n ≡ None
  -- a real date has a day of the calendar
  pub day_is_in : (y m d : ℕ) → is_real y m d ≡ true → day_number y m d ≤ last_day
  -- and the date of that day is the date
  pub date_day_date : (y m d : ℕ) → is_real y m d ≡ true → date_answer (day_number y m d) ≡ Some (date y m d)
  -- a date that is not real has no day
  pub no_other_date : (y m d : ℕ) → is_real y m d ≡ false → day_answer y m d ≡ None
  -- so a date has the day n exactly if n is a day of the calendar with that date
  pub day_has_date : (y m d n : ℕ) → day_answer y m d ≡ Some n → (n ≤ last_day) × (date_of n ≡ date y m d)
  pub date_has_day : (y m d n : ℕ) → n ≤ last_day → date_of n ≡ date y m d → day_answer y m d ≡ Some n
