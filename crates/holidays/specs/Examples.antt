-- 01, Dated examples: those of Easter, holidays and working days, each with neighbours on the other side of its rule.
-- Definitions only: `examples` of proofs/ proves them.
use Rattle.std.specs.Prelude.{ℕ, ◌≤◌, ◌<◌, ◌≡◌, Bool, true, false, Some, None}
use Rattle.dates.specs.Dates.{last_day, date}
use Rattle.dates.specs.Numbers.{day_number, day_answer}
use Rattle.holidays.specs.Easter.{month_day, easter_sunday, easter_day}
use Rattle.holidays.specs.Holidays.{is_fixed_holiday, is_holiday}
use Rattle.holidays.specs.Working.{is_working, working_between, working_days}

-- A date is a holiday, a date is worked.
abbrev pub holiday_on : ℕ → ℕ → ℕ → Bool
holiday_on y m d = is_holiday (day_number y m d)

abbrev pub worked_on : ℕ → ℕ → ℕ → Bool
worked_on y m d = is_working (day_number y m d)

pub record Examples : Type 0 where
  -- "Easter 2021 is 4 April, day 7,764."
  pub easter_2021 : easter_sunday 2021 ≡ month_day 4 4
  pub easter_day_2021 : easter_day 2021 ≡ Some 7764
  pub its_date : day_answer 2021 4 4 ≡ Some 7764
  pub easter_2022 : easter_sunday 2022 ≡ month_day 4 17
  pub easter_2008_early : easter_sunday 2008 ≡ month_day 3 23
  pub easter_2038_late : easter_sunday 2038 ≡ month_day 4 25
  pub no_easter_1999 : easter_day 1999 ≡ None
  pub no_easter_2200 : easter_day 2200 ≡ None
  -- "In 2008 Ascension is 1 May": 39 days after day 3,004. "Two holidays on one day count once."
  pub easter_day_2008 : easter_day 2008 ≡ Some 3004
  pub ascension_2008 : day_answer 2008 5 1 ≡ Some 3043
  pub ascension_2008_is_one : holiday_on 2008 5 1 ≡ true
  pub day_after_ascension_2008 : holiday_on 2008 5 2 ≡ false
  pub ascension_2009 : holiday_on 2009 5 21 ≡ true
  pub day_after_ascension_2009 : holiday_on 2009 5 22 ≡ false
  -- "W = 2, e = 25 May 2021: cancel on 19 May accepted, on 20 May 26 (24 May is Whit Monday)."
  pub whit_monday_2021 : worked_on 2021 5 24 ≡ false
  pub between_19_and_25_may : working_between (day_number 2021 5 19) (day_number 2021 5 25) ≡ 2
  pub between_20_and_25_may : working_between (day_number 2021 5 20) (day_number 2021 5 25) ≡ 1
  pub between_18_and_25_may : working_between (day_number 2021 5 18) (day_number 2021 5 25) ≡ 3
  pub between_19_and_26_may : working_between (day_number 2021 5 19) (day_number 2021 5 26) ≡ 3
  -- the same days counted from the first to the last of them
  pub from_20_to_24_may : working_days (day_number 2021 5 20) (day_number 2021 5 24) ≡ 2
  pub from_21_to_24_may : working_days (day_number 2021 5 21) (day_number 2021 5 24) ≡ 1
  pub from_21_to_25_may : working_days (day_number 2021 5 21) (day_number 2021 5 25) ≡ 2
  -- both ends are left out, and a walk backwards counts none
  pub between_a_day_and_itself : working_between 7815 7815 ≡ 0
  pub between_a_day_and_the_next : working_between 7815 7816 ≡ 0
  pub between_backwards : working_between 7815 7809 ≡ 0
  pub between_past_the_end : (a b : ℕ) → last_day ≤ a → working_between a b ≡ 0
  -- "A working day is Monday to Friday and no legal holiday."
  pub friday : worked_on 2021 5 21 ≡ true
  pub saturday : worked_on 2021 5 22 ≡ false
  pub sunday : worked_on 2021 5 23 ≡ false
  pub tuesday : worked_on 2021 5 25 ≡ true
  pub the_last_day : worked_on 2199 12 31 ≡ true
  pub past_the_end : is_working 73049 ≡ false
  -- "Holidays: 1 January, 1 May, 9 May, 23 June, 15 August, 1 November, 25 and 26 December"
  pub january_1 : holiday_on 2020 1 1 ≡ true
  pub january_2 : holiday_on 2020 1 2 ≡ false
  pub may_1 : holiday_on 2020 5 1 ≡ true
  pub may_9_2020 : holiday_on 2020 5 9 ≡ true
  pub may_10 : holiday_on 2020 5 10 ≡ false
  pub june_23 : holiday_on 2020 6 23 ≡ true
  pub june_24 : holiday_on 2020 6 24 ≡ false
  pub august_15 : holiday_on 2020 8 15 ≡ true
  pub august_14 : holiday_on 2020 8 14 ≡ false
  pub november_1 : holiday_on 2020 11 1 ≡ true
  pub november_2 : holiday_on 2020 11 2 ≡ false
  pub december_24 : holiday_on 2020 12 24 ≡ false
  pub december_25 : holiday_on 2020 12 25 ≡ true
  pub december_26 : holiday_on 2020 12 26 ≡ true
  pub december_27 : holiday_on 2020 12 27 ≡ false
  -- 02, F-2: "By law 9 May became a legal holiday in Luxembourg in 2019. Working days in document 01 are to follow the
  -- year." 9 May 2016 is a Monday, of 2017 a Tuesday, of 2018 a Wednesday, of 2019 a Thursday.
  pub may_9_2017 : holiday_on 2017 5 9 ≡ false
  pub may_9_2018 : holiday_on 2018 5 9 ≡ false
  pub may_9_2019 : holiday_on 2019 5 9 ≡ true
  pub worked_on_may_9_2016 : worked_on 2016 5 9 ≡ true
  pub worked_on_may_9_2017 : worked_on 2017 5 9 ≡ true
  pub worked_on_may_9_2018 : worked_on 2018 5 9 ≡ true
  pub idle_on_may_9_2019 : worked_on 2019 5 9 ≡ false
  -- by its own row: in no year before 2019, in every year from 2019 on
  pub may_9_before_2019 : (y : ℕ) → y < 2019 → is_fixed_holiday (date y 5 9) ≡ false
  pub may_9_from_2019_on : (y : ℕ) → 2019 ≤ y → is_fixed_holiday (date y 5 9) ≡ true
  -- and in 2002 and 2013 it is Ascension
  pub ascension_2002 : holiday_on 2002 5 9 ≡ true
  pub ascension_2013 : holiday_on 2013 5 9 ≡ true
  pub idle_on_may_9_2002 : worked_on 2002 5 9 ≡ false
  pub idle_on_may_9_2013 : worked_on 2013 5 9 ≡ false
  -- "and 1, 39 and 50 days after Easter Sunday": of 2020, 12 April
  pub easter_sunday_2020 : holiday_on 2020 4 12 ≡ false
  pub easter_monday_2020 : holiday_on 2020 4 13 ≡ true
  pub ascension_2020 : holiday_on 2020 5 21 ≡ true
  pub whit_sunday_2020 : holiday_on 2020 5 31 ≡ false
  pub whit_monday_2020 : holiday_on 2020 6 1 ≡ true
