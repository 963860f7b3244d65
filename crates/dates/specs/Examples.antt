-- 01, Dated examples: those of days and dates, each with neighbours that fall on the other side of its rule.
-- Definitions only: `examples` of proofs/ proves them.
use Rattle.std.specs.Prelude.{◌≡◌, Some, None}
use Rattle.dates.specs.Dates.{weekday, date, date_of}
use Rattle.dates.specs.Numbers.{day_number, day_answer, date_answer}
use Rattle.dates.specs.Months.{three_months_after}

pub record Examples : Type 0 where
  -- "0 is 1 January 2000, a Saturday"
  pub first_day : day_answer 2000 1 1 ≡ Some 0
  pub first_is_saturday : weekday 0 ≡ 5
  pub second_is_sunday : weekday 1 ≡ 6
  pub third_is_monday : weekday 2 ≡ 0
  pub day_before_has_none : day_answer 1999 12 31 ≡ None
  -- "and 73,048 is 31 December 2199"
  pub the_last_day : day_answer 2199 12 31 ≡ Some 73048
  pub last_date : date_answer 73048 ≡ Some (date 2199 12 31)
  pub day_after_has_none : day_answer 2200 1 1 ≡ None
  pub past_the_last : date_answer 73049 ≡ None
  -- "29 February 2020 is 7,364"
  pub leap_day_2020 : day_answer 2020 2 29 ≡ Some 7364
  pub date_of_7364 : date_of 7364 ≡ date 2020 2 29
  pub then_1_march_2020 : day_answer 2020 3 1 ≡ Some 7365
  pub no_30_february : day_answer 2020 2 30 ≡ None
  -- "there is no 29 February 2100"
  pub no_leap_day_2100 : day_answer 2100 2 29 ≡ None
  pub last_of_february_2100 : day_answer 2100 2 28 ≡ Some 36583
  pub then_1_march_2100 : day_answer 2100 3 1 ≡ Some 36584
  pub leap_day_2000 : day_answer 2000 2 29 ≡ Some 59
  -- "Month lengths come as a table"
  pub last_of_april : day_answer 2021 4 30 ≡ Some 7790
  pub no_31_april : day_answer 2021 4 31 ≡ None
  pub no_month_0 : day_answer 2021 0 1 ≡ None
  pub no_month_13 : day_answer 2021 13 1 ≡ None
  pub no_day_0 : day_answer 2021 4 0 ≡ None
  -- "Three months after 30 November 2021 is 28 February 2022."
  pub after_30_november_2021 : three_months_after (day_number 2021 11 30) ≡ day_number 2022 2 28
  pub after_28_november_2021 : three_months_after (day_number 2021 11 28) ≡ day_number 2022 2 28
  pub after_1_december_2021 : three_months_after (day_number 2021 12 1) ≡ day_number 2022 3 1
  pub after_30_november_2023 : three_months_after (day_number 2023 11 30) ≡ day_number 2024 2 29
  -- "r = 7,914 (1 September) is accepted", on 1 June 2021 (7,822)
  pub after_1_june_2021 : three_months_after 7822 ≡ 7914
  pub its_date : date_of 7822 ≡ date 2021 6 1
  -- "past the calendar's end no day is later than it"
  pub after_30_september_2199 : three_months_after (day_number 2199 9 30) ≡ day_number 2199 12 30
  pub after_1_october_2199 : three_months_after (day_number 2199 10 1) ≡ 73048
  pub after_the_last_day : three_months_after 73048 ≡ 73048
  pub after_no_day : three_months_after 73049 ≡ 73048
