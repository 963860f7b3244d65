-- Days, their bits and words, by the table; the calendar's working days.
use Rattle.basics.proofs.Basics.{◌≡◌, refl, true, ℕ, ◌+◌, arith, ◌∙◌, ◌/◌, ◌%◌, ◌^◌}
use lib.Dec.{lit<}
use lib.Bits.{bit_and, and_high}
use lib.Count.{ones}
use Rattle.dates.specs.Dates.{weekday, leap_row, month_length}
use Rattle.dates.specs.Numbers.{month_start, year_start, day_number, is_real, day_answer}
use Rattle.holidays.specs.Easter.{easter_sunday, easter_day}
use Rattle.holidays.specs.Holidays.{falls_on, is_fixed_holiday, is_after_easter, is_holiday_on, is_holiday}
use Rattle.holidays.specs.Working.{is_working, working_from, working_days, working_between}
use Rattle.dates.proofs.OneToOne.{one_to_one}
use Rattle.holidays.proofs.Counting.{stretches_sum}
use Rattle.holidays.proofs.Examples.{examples}
use Rattle.year_words.specs.Bits.{word, mask}
use Rattle.year_words.specs.Examples.{WordExamples}
use Rattle.year_words.proofs.Bits.{ones_shifted}
use Rattle.year_words.proofs.Table.{year_right}
use Rattle.year_words.proofs.YearLaw.{past_words}
use Rattle.year_words.proofs.Total.{total}

-- 2 January 2023
worked_on_8402 : is_working (year_start 22 + 366) ≡ true
unfolding weekday leap_row month_length month_start year_start day_number is_real day_answer easter_sunday easter_day falls_on
    is_fixed_holiday is_after_easter is_holiday_on is_holiday is_working
worked_on_8402 = rw (one_to_one.day_has_date 2023 1 2 8402 refl).1

-- the first day, 1 January 2000, is a Saturday, and the last is worked
inner : (n : ℕ) → working_from 0 (1 + (n + 1)) ≡ working_from 0 1 + (working_from 1 n + working_from (1 + n) 1)
inner n = rw (stretches_sum 0 1 (n + 1), stretches_sum (0 + 1) n 1)

last_worked : is_working 73048 ≡ true
unfolding day_number year_start month_start leap_row month_length
last_worked = examples.the_last_day

between_ends : working_from 1 73047 ≡ 50455
between_ends =
    let all : working_from 0 73049 ≡ working_from 0 1 + (working_from 1 73047 + working_from 73048 1) = inner 73047 in
    let first : working_from 0 1 ≡ 0 = unfold working_from is_working weekday in refl in
    let last : working_from 73048 1 ≡ 1 = unfold working_from in rw last_worked in
    omega (arith, total, all, first, last)

-- the five days from 20 May 2021 on
five_days : word 21 2 / 2 ^ 11 % 2 ^ 5 ≡ 3
five_days = rw (← year_right 21 (lit< tt))

under_mask : bit_and (word 21 2) (mask 11 16) ≡ 2 ^ 11 + 2 ^ 12
under_mask = and_high (word 21 2) 5 11 ∙ rw five_days

pub word_examples : WordExamples
unfolding day_number year_start month_start leap_row month_length working_days working_between
word_examples =
    record {
      may_20_2021 = refl;
      its_word = refl;
      its_bit = refl;
      five_days_from_it = five_days;
      their_mask = refl;
      under_it = under_mask;
      ones_under_it = rw under_mask (ones_shifted 3 11 ∙ (unfold ones in refl));
      word_ends = refl;
      bit_63 = rw (← year_right 21 (lit< tt));
      next_begins = refl;
      bit_64 = rw (← year_right 21 (lit< tt));
      leap_day_2024 = rw (← year_right 24 (lit< tt));
      leap_day_2020 = rw (← year_right 20 (lit< tt));
      march_1_2023 = rw (← year_right 23 (lit< tt));
      march_1_2100 = rw (← year_right 100 (lit< tt));
      may_9_2018 = rw (← year_right 18 (lit< tt));
      may_9_2019 = rw (← year_right 19 (lit< tt));
      last_of_2020 = rw (← year_right 20 (lit< tt));
      last_of_2021 = rw (← year_right 21 (lit< tt));
      last_of_2199 = rw (← year_right 199 (lit< tt));
      day_366_worked = worked_on_8402;
      bit_366 = rw (← year_right 22 (lit< tt));
      word_of_2200 = rw (← past_words 200 (omega arith));
      all_days = total;
      between_first_and_last = between_ends;
    }
