-- 01, The calendar: Easter Sunday, by the Gregorian computus.
-- Definitions only.
use Rattle.std.specs.Prelude.{ℕ, ◌+◌, ◌-◌, ◌*◌, ◌/◌, ◌%◌, ◌<◌, ◌≡◌, true, Option, Some}
use Rattle.dates.specs.Dates.{weekday}
use Rattle.dates.specs.Numbers.{is_real, day_number, day_answer}

-- A day of a month, in any year.
pub record MonthDay : Type 0 where
  pub month : ℕ
  pub day : ℕ

abbrev pub month_day : ℕ → ℕ → MonthDay
month_day m d = record { month = m; day = d }

-- The anonymous Gregorian algorithm (Meeus, Jones, Butcher), with its published letters: Easter Sunday of year y falls
-- on day p + 1 of month n. None of the differences falls below 0.
module _ (y : ℕ) where
  abbrev a : ℕ
  a = y % 19

  abbrev b : ℕ
  b = y / 100

  abbrev c : ℕ
  c = y % 100

  abbrev d : ℕ
  d = b / 4

  abbrev e : ℕ
  e = b % 4

  abbrev f : ℕ
  f = (b + 8) / 25

  abbrev g : ℕ
  g = (b - f + 1) / 3

  abbrev h : ℕ
  h = (19 * a + b - d - g + 15) % 30

  abbrev i : ℕ
  i = c / 4

  abbrev k : ℕ
  k = c % 4

  abbrev l : ℕ
  l = (32 + 2 * e + 2 * i - h - k) % 7

  abbrev m : ℕ
  m = (a + 11 * h + 22 * l) / 451

  abbrev n : ℕ
  n = (h + l - 7 * m + 114) / 31

  abbrev p : ℕ
  p = (h + l - 7 * m + 114) % 31

-- Easter Sunday's month and day of the month.
unfoldable pub easter_sunday : ℕ → MonthDay
easter_sunday y = month_day (n y) (p y + 1)

-- 01: "Easter is kept as a table of the 200 years, shown to follow the Gregorian computus."
-- The day of Easter Sunday; years off the calendar have none.
unfoldable pub easter_day : ℕ → Option ℕ
easter_day y = day_answer y (easter_sunday y).month (easter_sunday y).day

-- An entry r of the table of year y: 22 March and r days on is Easter Sunday, a real date.
pub record IsOffset (y r : ℕ) : Type 0 where
  pub is_real : is_real y (easter_sunday y).month (easter_sunday y).day ≡ true
  pub is_days_on : day_number y 3 22 + r ≡ day_number y (easter_sunday y).month (easter_sunday y).day
  pub is_small : r < 35

-- Easter Sunday is a Sunday in all 200 years: a check of the computus, the weekdays and the month lengths at once.
abbrev pub EasterIsSunday : Type 0
EasterIsSunday = (y n : ℕ) → easter_day y ≡ Some n → weekday n ≡ 6
