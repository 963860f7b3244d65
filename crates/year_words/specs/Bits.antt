-- 02, F-5: where a day's bit stands, and the ones under a mask. proofs/Laws.antt proves the statement. Definitions
-- only.
use Rattle.std.specs.Prelude.{ℕ, ◌+◌, ◌-◌, ◌*◌, ◌/◌, ◌%◌, ◌^◌, ◌≤◌, ◌<◌, ◌≡◌, cond, length, get_or}
use Rattle.std.specs.Int.Bits.{bit_and}
use Rattle.std.specs.Int.Count.{ones}
use Rattle.dates.specs.Numbers.{year_start}
use Rattle.holidays.specs.Working.{working_from}
use Rattle.year_words.specs.Words.{year_length, word_of, bit_of, is_set, year_words}

-- Word w of a year.
abbrev pub word : ℕ → ℕ → ℕ
word k w = get_or (year_words k) w 0

-- Bit b of a number.
abbrev pub bit_in : ℕ → ℕ → ℕ
bit_in n b = n / 2 ^ b % 2

-- The bits lo to hi - 1.
abbrev pub mask : ℕ → ℕ → ℕ
mask lo hi = 2 ^ hi - 2 ^ lo

pub record YearsAsBits : Type 0 where
  -- "six 64-bit words"
  pub six : (k : ℕ) → length (year_words k) ≡ 6
  pub fits : (k w : ℕ) → word k w < 2 ^ 64
  -- "one bit for each day": all 384 bits of the six words
  pub bit : (k i : ℕ) → i < 384 → bit_in (word k (word_of i)) (bit_of i) ≡ cond (is_set k i) 1 0
  -- "count working days by counting ones under a mask": of the days of a word that the mask covers, as many are worked
  -- as ones stand under it
  pub masked : (k w lo hi : ℕ) → w < 6 → lo ≤ hi → hi ≤ 64 → 64 * w + hi ≤ year_length k
      → ones (bit_and (word k w) (mask lo hi)) ≡ working_from (year_start k + (64 * w + lo)) (hi - lo)
