-- 02, F-5: working days between two days, with neighbours on the other side of each rule. Definitions only:
-- `working_examples` of proofs/ proves them.
use Rattle.std.specs.Prelude.{◌≡◌, Some, None}
use Rattle.dates.specs.Numbers.{day_number}
use Rattle.working_count.specs.Question.{working_answer, working_number}

pub record WorkingExamples : Type 0 where
  -- 24 May 2021 is Whit Monday: W = 2, e = 25 May, a cancel on 19 May is in time and on 20 May too late
  pub may_19_to_25_2021 : working_answer (day_number 2021 5 19) (day_number 2021 5 25) ≡ Some 2
  pub may_20_to_25_2021 : working_answer (day_number 2021 5 20) (day_number 2021 5 25) ≡ Some 1
  pub may_19_to_26_2021 : working_answer (day_number 2021 5 19) (day_number 2021 5 26) ≡ Some 3
  -- "strictly between them": equal and neighbouring days, though both are worked
  pub a_day_and_itself : working_answer (day_number 2021 5 20) (day_number 2021 5 20) ≡ Some 0
  pub a_day_and_the_next : working_answer (day_number 2021 5 20) (day_number 2021 5 21) ≡ Some 0
  pub one_worked_day_between : working_answer (day_number 2021 5 19) (day_number 2021 5 21) ≡ Some 1
  -- across the end of a common year, a leap year, 2099, and 2100, which is none
  pub end_of_2021 : working_answer (day_number 2021 12 31) (day_number 2022 1 4) ≡ Some 1
  pub end_of_2021_with_its_last_day : working_answer (day_number 2021 12 30) (day_number 2022 1 4) ≡ Some 2
  pub end_of_2020 : working_answer (day_number 2020 12 31) (day_number 2021 1 5) ≡ Some 1
  pub end_of_2020_with_its_last_day : working_answer (day_number 2020 12 30) (day_number 2021 1 5) ≡ Some 2
  pub end_of_2099 : working_answer (day_number 2099 12 30) (day_number 2100 1 5) ≡ Some 2
  pub end_of_2100 : working_answer (day_number 2100 12 30) (day_number 2101 1 4) ≡ Some 2
  -- 29 February: a Thursday in 2024; there is none in 2023 and 2100
  pub february_2024 : working_answer (day_number 2024 2 28) (day_number 2024 3 1) ≡ Some 1
  pub february_2023 : working_answer (day_number 2023 2 28) (day_number 2023 3 1) ≡ Some 0
  pub february_2100 : working_answer (day_number 2100 2 26) (day_number 2100 3 2) ≡ Some 1
  -- from one word of a year to the next: 5 March 2021 is bit 63 of word 0
  pub march_4_to_9_2021 : working_answer (day_number 2021 3 4) (day_number 2021 3 9) ≡ Some 2
  pub march_5_to_9_2021 : working_answer (day_number 2021 3 5) (day_number 2021 3 9) ≡ Some 1
  pub march_4_to_6_2021 : working_answer (day_number 2021 3 4) (day_number 2021 3 6) ≡ Some 1
  -- 02, F-2: 9 May 2018 is a Wednesday, of 2019 a Thursday
  pub may_8_to_10_2018 : working_answer (day_number 2018 5 8) (day_number 2018 5 10) ≡ Some 1
  pub may_8_to_10_2019 : working_answer (day_number 2019 5 8) (day_number 2019 5 10) ≡ Some 0
  -- the calendar's ends
  pub first_days : working_answer (day_number 2000 1 1) (day_number 2000 1 5) ≡ Some 2
  pub last_days : working_answer (day_number 2199 12 24) (day_number 2199 12 31) ≡ Some 2
  pub last_day_and_the_one_before : working_answer (day_number 2199 12 30) (day_number 2199 12 31) ≡ Some 0
  pub last_day_and_itself : working_answer (day_number 2199 12 31) (day_number 2199 12 31) ≡ Some 0
  pub whole_calendar : working_answer 0 73048 ≡ Some 50455
  -- "days off the calendar or out of order give 22."
  pub out_of_order : working_answer 7810 7809 ≡ None
  pub in_order : working_answer 7809 7810 ≡ Some 0
  pub second_off_the_calendar : working_answer 0 73049 ≡ None
  pub both_off_the_calendar : working_answer 73049 73049 ≡ None
  pub first_off_the_calendar : working_answer 73049 73048 ≡ None
  pub its_number : working_number (working_answer 7810 7809) ≡ 22
  pub no_number : working_number (working_answer 7809 7810) ≡ 0
