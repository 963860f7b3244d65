-- The dated examples of days and dates, computed from the definitions.
use Rattle.std.specs.Prelude.{Some}
use Rattle.basics.proofs.Basics.{◌≡◌, refl, ℕ, min, le-leb}
use Rattle.dates.specs.Dates.{last_day, weekday, leap_row, month_length, date, next, date_of}
use Rattle.dates.specs.Numbers.{month_start, year_start, day_number, is_real, day_answer, date_answer}
use Rattle.dates.specs.Months.{on_or_last, three_months_on, three_months_after}
use Rattle.dates.specs.Examples.{Examples}
use Rattle.dates.proofs.OneToOne.{one_to_one}

-- three months after a real date, from the date: no counting up to it
pub three_months_from :
    (y m d n : ℕ) → day_answer y m d ≡ Some n → three_months_after n ≡ min last_day (three_months_on (date y m d))
unfolding three_months_after
three_months_from y m d n e = let h = one_to_one.day_has_date y m d n e in rw (le-leb _ _ h.0, h.1)

pub examples : Examples
unfolding weekday leap_row month_length next date_of month_start year_start day_number is_real day_answer
    date_answer on_or_last three_months_on three_months_after
examples =
    record {
      first_day = refl;
      first_is_saturday = refl;
      second_is_sunday = refl;
      third_is_monday = refl;
      day_before_has_none = refl;
      the_last_day = refl;
      last_date = one_to_one.date_day_date 2199 12 31 refl;
      day_after_has_none = refl;
      past_the_last = refl;
      leap_day_2020 = refl;
      date_of_7364 = refl;
      then_1_march_2020 = refl;
      no_30_february = refl;
      no_leap_day_2100 = refl;
      last_of_february_2100 = refl;
      then_1_march_2100 = refl;
      leap_day_2000 = refl;
      last_of_april = refl;
      no_31_april = refl;
      no_month_0 = refl;
      no_month_13 = refl;
      no_day_0 = refl;
      after_30_november_2021 = refl;
      after_28_november_2021 = three_months_from 2021 11 28 _ refl;
      after_1_december_2021 = three_months_from 2021 12 1 _ refl;
      after_30_november_2023 = three_months_from 2023 11 30 _ refl;
      after_1_june_2021 = three_months_from 2021 6 1 _ refl;
      its_date = (one_to_one.day_has_date 2021 6 1 7822 refl).1;
      after_30_september_2199 = three_months_from 2199 9 30 _ refl;
      after_1_october_2199 = three_months_from 2199 10 1 _ refl;
      after_the_last_day = three_months_from 2199 12 31 _ refl;
      after_no_day = refl;
    }
