-- The year of a day, with its ends. Definitions only.
use Rattle.std.specs.Prelude.{ℕ, suc, ◌-◌, ◌≤◌, ◌<◌, ◌≡◌, cond, leb, Option, Some, None}
use Rattle.dates.specs.Dates.{last_day, date_of}
use Rattle.dates.specs.Numbers.{year_start}
use Rattle.dates.specs.declared.{CalendarYear.CalendarYear}

abbrev pub year : ℕ → CalendarYear
year k = record { index = k; start = year_start k; end = year_start (suc k) }

-- The year of a day's date; only days of the calendar have one.
unfoldable pub year_answer : ℕ → Option CalendarYear
year_answer n = cond (leb n last_day) (Some (year ((date_of n).year - 2000))) None

-- Day n lies in a year of the calendar.
pub record InYear (n : ℕ) (y : CalendarYear) : Type 0 where
  pub in_calendar : y.index < 200
  pub start_is : y.start ≡ year_start y.index
  pub end_is : y.end ≡ year_start (suc y.index)
  pub from_start : y.start ≤ n
  pub before_end : n < y.end
