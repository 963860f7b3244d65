-- The dated examples of Easter, holidays and working days, computed from the definitions.
use Rattle.std.specs.Prelude.{Some}
use Rattle.basics.proofs.Basics.{◌≡◌, refl, ap, Bool, false, ◌&&◌, ◌||◌, not, ◌≤◌, ℕ, arith, ltb, le-leb, lt-leb}
use Rattle.dates.specs.Dates.{last_day, weekday, leap_row, month_length, date, next, date_of}
use Rattle.dates.specs.Numbers.{month_start, year_start, day_number, is_real, day_answer}
use Rattle.dates.proofs.OneToOne.{one_to_one}
use Rattle.holidays.specs.Easter.{easter_sunday, easter_day}
use Rattle.holidays.specs.Holidays.{falls_on, is_fixed_holiday, is_after_easter, is_holiday_on, is_holiday}
use Rattle.holidays.specs.Working.{is_working, working_from, working_between, working_days}
use Rattle.holidays.specs.Examples.{Examples}
use Rattle.holidays.proofs.Counting.{past_none}

-- a real date's day, from the date: no counting up to it
module _ (y m d : ℕ) (e : day_answer y m d ≡ Some (day_number y m d)) where
  holiday_on : is_holiday (day_number y m d) ≡ is_holiday_on (day_number y m d) (date y m d)
  unfolding is_holiday
  holiday_on = let h = one_to_one.day_has_date y m d (day_number y m d) e in rw (le-leb _ _ h.0, h.1)

  worked_on :
      is_working (day_number y m d) ≡
      (ltb (weekday (day_number y m d)) 5 && not (is_holiday_on (day_number y m d) (date y m d)))
  unfolding is_working
  worked_on = let h = one_to_one.day_has_date y m d (day_number y m d) e in rw (le-leb _ _ h.0, holiday_on)

-- the working days between two days of May 2021, by the definition alone
between_may : (working_between (day_number 2021 5 19) (day_number 2021 5 25) ≡ 2) ×
    (working_between (day_number 2021 5 20) (day_number 2021 5 25) ≡ 1) ×
    (working_between (day_number 2021 5 18) (day_number 2021 5 25) ≡ 3) ×
    (working_between (day_number 2021 5 19) (day_number 2021 5 26) ≡ 3) ×
    (working_days (day_number 2021 5 20) (day_number 2021 5 24) ≡ 2) ×
    (working_days (day_number 2021 5 21) (day_number 2021 5 24) ≡ 1) ×
    (working_days (day_number 2021 5 21) (day_number 2021 5 25) ≡ 2)
unfolding weekday leap_row month_length next date_of month_start year_start day_number is_real day_answer easter_sunday easter_day
    falls_on is_fixed_holiday is_after_easter is_holiday_on is_holiday is_working working_from working_between working_days
between_may = (refl, refl, refl, refl, refl, refl, refl)

none_past_the_end : (a b : ℕ) → last_day ≤ a → working_between a b ≡ 0
unfolding working_between
none_past_the_end a b h = past_none _ _ (omega arith)

pub examples : Examples
unfolding weekday leap_row month_length month_start year_start day_number is_real day_answer easter_sunday easter_day
    falls_on is_fixed_holiday is_after_easter is_holiday_on is_working working_from working_between
examples =
    record {
      easter_2021 = refl;
      easter_day_2021 = refl;
      its_date = refl;
      easter_2022 = refl;
      easter_2008_early = refl;
      easter_2038_late = refl;
      no_easter_1999 = refl;
      no_easter_2200 = refl;
      easter_day_2008 = refl;
      ascension_2008 = refl;
      ascension_2008_is_one = holiday_on 2008 5 1 refl;
      day_after_ascension_2008 = holiday_on 2008 5 2 refl;
      ascension_2009 = holiday_on 2009 5 21 refl;
      day_after_ascension_2009 = holiday_on 2009 5 22 refl;
      whit_monday_2021 = worked_on 2021 5 24 refl;
      between_19_and_25_may = between_may.0;
      between_20_and_25_may = between_may.1;
      between_18_and_25_may = between_may.2;
      between_19_and_26_may = between_may.3;
      from_20_to_24_may = between_may.4;
      from_21_to_24_may = between_may.5;
      from_21_to_25_may = between_may.6;
      between_a_day_and_itself = refl;
      between_a_day_and_the_next = refl;
      between_backwards = refl;
      between_past_the_end = none_past_the_end;
      friday = worked_on 2021 5 21 refl;
      saturday = worked_on 2021 5 22 refl;
      sunday = worked_on 2021 5 23 refl;
      tuesday = worked_on 2021 5 25 refl;
      the_last_day = worked_on 2199 12 31 refl;
      past_the_end = refl;
      january_1 = holiday_on 2020 1 1 refl;
      january_2 = holiday_on 2020 1 2 refl;
      may_1 = holiday_on 2020 5 1 refl;
      may_9_2020 = holiday_on 2020 5 9 refl;
      may_10 = holiday_on 2020 5 10 refl;
      june_23 = holiday_on 2020 6 23 refl;
      june_24 = holiday_on 2020 6 24 refl;
      august_15 = holiday_on 2020 8 15 refl;
      august_14 = holiday_on 2020 8 14 refl;
      november_1 = holiday_on 2020 11 1 refl;
      november_2 = holiday_on 2020 11 2 refl;
      december_24 = holiday_on 2020 12 24 refl;
      december_25 = holiday_on 2020 12 25 refl;
      december_26 = holiday_on 2020 12 26 refl;
      december_27 = holiday_on 2020 12 27 refl;
      may_9_2017 = holiday_on 2017 5 9 refl;
      may_9_2018 = holiday_on 2018 5 9 refl;
      may_9_2019 = holiday_on 2019 5 9 refl;
      worked_on_may_9_2016 = worked_on 2016 5 9 refl;
      worked_on_may_9_2017 = worked_on 2017 5 9 refl;
      worked_on_may_9_2018 = worked_on 2018 5 9 refl;
      idle_on_may_9_2019 = worked_on 2019 5 9 refl;
      may_9_before_2019 = λ y h. ap (λ (b : Bool). b || false) (lt-leb 2019 y h);
      may_9_from_2019_on = λ y h. ap (λ (b : Bool). b || false) (le-leb 2019 y h);
      ascension_2002 = holiday_on 2002 5 9 refl;
      ascension_2013 = holiday_on 2013 5 9 refl;
      idle_on_may_9_2002 = worked_on 2002 5 9 refl;
      idle_on_may_9_2013 = worked_on 2013 5 9 refl;
      easter_sunday_2020 = holiday_on 2020 4 12 refl;
      easter_monday_2020 = holiday_on 2020 4 13 refl;
      ascension_2020 = holiday_on 2020 5 21 refl;
      whit_sunday_2020 = holiday_on 2020 5 31 refl;
      whit_monday_2020 = holiday_on 2020 6 1 refl;
    }
