-- Working days between two days: those between are looked at by their dates, since days and dates are one to one; the
-- whole calendar by the years' words.
use Rattle.std.specs.Prelude.{Some}
use Rattle.basics.proofs.Basics.{◌≡◌, refl, ap, ℕ}
use Rattle.dates.specs.Dates.{weekday, leap_row, month_length, date, date_of}
use Rattle.dates.specs.Numbers.{month_start, year_start, day_number, is_real, day_answer}
use Rattle.dates.proofs.OneToOne.{one_to_one}
use Rattle.holidays.specs.Easter.{easter_sunday, easter_day}
use Rattle.holidays.specs.Holidays.{falls_on, is_fixed_holiday, is_after_easter, is_holiday_on, is_holiday}
use Rattle.holidays.specs.Working.{is_working, working_from, working_between}
use Rattle.year_words.proofs.Examples.{word_examples}
use Rattle.working_count.specs.Question.{working_answer}
use Rattle.working_count.specs.Examples.{WorkingExamples}

on : (y m d n : ℕ) → day_answer y m d ≡ Some n → date_of n ≡ date y m d
on y m d n e = (one_to_one.day_has_date y m d n e).1

whole : working_answer 0 73048 ≡ Some 50455
unfolding working_answer
whole = ap Some word_examples.between_first_and_last

pub working_examples : WorkingExamples
unfolding weekday leap_row month_length month_start year_start day_number is_real day_answer easter_sunday easter_day falls_on
    is_fixed_holiday is_after_easter is_holiday_on is_holiday is_working working_from working_between working_answer
working_examples =
    record {
      may_19_to_25_2021 = rw (on 2021 5 20 7810 refl, on 2021 5 21 7811 refl, on 2021 5 24 7814 refl);
      may_20_to_25_2021 = rw (on 2021 5 21 7811 refl, on 2021 5 24 7814 refl);
      may_19_to_26_2021 = rw (on 2021 5 20 7810 refl, on 2021 5 21 7811 refl, on 2021 5 24 7814 refl, on 2021 5 25 7815 refl);
      a_day_and_itself = refl;
      a_day_and_the_next = refl;
      one_worked_day_between = rw (on 2021 5 20 7810 refl);
      end_of_2021 = rw (on 2022 1 3 8038 refl);
      end_of_2021_with_its_last_day = rw (on 2021 12 31 8035 refl, on 2022 1 3 8038 refl);
      end_of_2020 = rw (on 2021 1 1 7671 refl, on 2021 1 4 7674 refl);
      end_of_2020_with_its_last_day = rw (on 2020 12 31 7670 refl, on 2021 1 1 7671 refl, on 2021 1 4 7674 refl);
      end_of_2099 = rw (on 2099 12 31 36524 refl, on 2100 1 1 36525 refl, on 2100 1 4 36528 refl);
      end_of_2100 = rw (on 2100 12 31 36889 refl, on 2101 1 3 36892 refl);
      february_2024 = rw (on 2024 2 29 8825 refl);
      february_2023 = refl;
      february_2100 = rw (on 2100 3 1 36584 refl);
      march_4_to_9_2021 = rw (on 2021 3 5 7734 refl, on 2021 3 8 7737 refl);
      march_5_to_9_2021 = rw (on 2021 3 8 7737 refl);
      march_4_to_6_2021 = rw (on 2021 3 5 7734 refl);
      may_8_to_10_2018 = rw (on 2018 5 9 6703 refl);
      may_8_to_10_2019 = rw (on 2019 5 9 7068 refl);
      first_days = rw (on 2000 1 3 2 refl, on 2000 1 4 3 refl);
      last_days = rw (on 2199 12 25 73042 refl, on 2199 12 26 73043 refl, on 2199 12 27 73044 refl, on 2199 12 30 73047 refl);
      last_day_and_the_one_before = refl;
      last_day_and_itself = refl;
      whole_calendar = whole;
      out_of_order = refl;
      in_order = refl;
      second_off_the_calendar = refl;
      both_off_the_calendar = refl;
      first_off_the_calendar = refl;
      its_number = refl;
      no_number = refl;
    }
