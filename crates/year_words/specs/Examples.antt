-- 02, F-5: days, their bits and words, with neighbours on the other side of each rule; and the whole calendar counted.
-- Definitions only: `word_examples` of proofs/ proves them.
use Rattle.std.specs.Prelude.{◌+◌, ◌/◌, ◌%◌, ◌^◌, ◌≡◌, true}
use Rattle.std.specs.Int.Bits.{bit_and}
use Rattle.std.specs.Int.Count.{ones}
use Rattle.dates.specs.Numbers.{year_start, day_number}
use Rattle.holidays.specs.Working.{is_working, working_days, working_between}
use Rattle.year_words.specs.Words.{word_of, bit_of}
use Rattle.year_words.specs.Bits.{word, bit_in, mask}

pub record WordExamples : Type 0 where
  -- 20 May 2021 is day 139 of its year: word 2, bit 11
  pub may_20_2021 : day_number 2021 5 20 ≡ year_start 21 + 139
  pub its_word : word_of 139 ≡ 2
  pub its_bit : bit_of 139 ≡ 11
  -- of the five days from it on the first two are worked: a weekend and Whit Monday follow
  pub five_days_from_it : word 21 2 / 2 ^ 11 % 2 ^ 5 ≡ 3
  -- their mask, what stands under it, bits 11 and 12, and how many these are
  pub their_mask : mask 11 16 ≡ 63488
  pub under_it : bit_and (word 21 2) (mask 11 16) ≡ 2 ^ 11 + 2 ^ 12
  pub ones_under_it : ones (bit_and (word 21 2) (mask 11 16)) ≡ 2
  -- a word's last bit and the next one's first: Friday 5 March 2021, and Saturday
  pub word_ends : word_of 63 ≡ 0
  pub bit_63 : bit_in (word 21 0) 63 ≡ 1
  pub next_begins : word_of 64 ≡ 1
  pub bit_64 : bit_in (word 21 1) 0 ≡ 0
  -- 29 February is a Thursday in 2024 and a Saturday in 2020; in 2023, and in 2100, bit 59 is 1 March's
  pub leap_day_2024 : bit_in (word 24 0) 59 ≡ 1
  pub leap_day_2020 : bit_in (word 20 0) 59 ≡ 0
  pub march_1_2023 : bit_in (word 23 0) 59 ≡ 1
  pub march_1_2100 : bit_in (word 100 0) 59 ≡ 1
  -- 9 May of a common year is day 128
  pub may_9_2018 : bit_in (word 18 2) 0 ≡ 1
  pub may_9_2019 : bit_in (word 19 2) 0 ≡ 0
  -- 31 December is day 365 of a leap year and 364 of a common one
  pub last_of_2020 : bit_in (word 20 5) 45 ≡ 1
  pub last_of_2021 : bit_in (word 21 5) 44 ≡ 1
  pub last_of_2199 : bit_in (word 199 5) 44 ≡ 1
  -- bits past the year's end are 0: bit 366 of 2022 too, though 2 January 2023 is worked; and so are all of 2200
  pub day_366_worked : is_working (year_start 22 + 366) ≡ true
  pub bit_366 : bit_in (word 22 5) 46 ≡ 0
  pub word_of_2200 : word 200 0 ≡ 0
  -- the whole calendar
  pub all_days : working_days 0 73048 ≡ 50456
  pub between_first_and_last : working_between 0 73048 ≡ 50455
