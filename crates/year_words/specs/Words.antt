-- 02, F-5: a year of working days as bits. Definitions only.
use Rattle.std.specs.Prelude.{ℕ, zero, suc, ◌+◌, ◌*◌, ◌/◌, ◌%◌, Bool, cond, ◌&&◌, List, [], ◌∷◌, ltb}
use Rattle.dates.specs.Dates.{leap_row}
use Rattle.dates.specs.Numbers.{month_start, year_start}
use Rattle.holidays.specs.Working.{is_working}

-- The days of year 2000 + k.
abbrev pub year_length : ℕ → ℕ
year_length k = month_start (leap_row (2000 + k)) 12

-- "one bit for each day": day i of a year, 0 on 1 January, has bit i mod 64 of word i / 64.
abbrev pub word_of : ℕ → ℕ
word_of i = i / 64

abbrev pub bit_of : ℕ → ℕ
bit_of i = i % 64

-- It is set where the day is worked; bits past the year's end are not.
unfoldable pub is_set : ℕ → ℕ → Bool
is_set k i = ltb i (year_length k) && is_working (year_start k + i)

-- The bits of n days of year 2000 + k from day i on, the first day's lowest.
unfoldable pub bits_from : ℕ → ℕ → ℕ → ℕ
bits_from k i zero = 0
bits_from k i (suc n) = bits_from k (suc i) n * 2 + cond (is_set k i) 1 0

-- "Keep each year as six 64-bit words": word w has the bits of 64 days, from day 64 w on.
abbrev pub word_at : ℕ → ℕ → ℕ
word_at k w = bits_from k (64 * w) 64

unfoldable pub year_words : ℕ → List ℕ
year_words k = word_at k 0 ∷ word_at k 1 ∷ word_at k 2 ∷ word_at k 3 ∷ word_at k 4 ∷ word_at k 5 ∷ []
