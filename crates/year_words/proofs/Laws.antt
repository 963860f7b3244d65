-- Where a day's bit stands, and the ones under a mask.
use Rattle.basics.proofs.Basics.{◌≡◌, refl, ◌∙◌, cond, ◌≤◌, ℕ, ◌-◌, ◌+◌, ◌<◌, suc, zero, ◌*◌, ◌/◌, ◌%◌, ◌^◌, zero-add, arith, lt-ltb, le-ltb, ltb, cases}
use lib.Dec.{lit<}
use lib.Bits.{bit_and, and_high}
use lib.Count.{ones}
use Rattle.dates.specs.Numbers.{year_start}
use Rattle.holidays.specs.Working.{working_from}
use Rattle.year_words.specs.Words.{year_length, word_of, bit_of, is_set, bits_from, word_at, year_words}
use Rattle.year_words.specs.Bits.{word, bit_in, mask, YearsAsBits}
use Rattle.year_words.proofs.Bits.{bits_lt, bits_part, bits_ones, ones_shifted}

word_is : (k w : ℕ) → word k w ≡ cond (ltb w 6) (word_at k w) 0
unfolding year_words
word_is k zero = refl
word_is k (suc zero) = refl
word_is k (suc (suc zero)) = refl
word_is k (suc (suc (suc zero))) = refl
word_is k (suc (suc (suc (suc zero)))) = refl
word_is k (suc (suc (suc (suc (suc zero))))) = refl
word_is k (suc (suc (suc (suc (suc (suc w)))))) = rw (le-ltb (suc (suc (suc (suc (suc (suc w)))))) 6 (omega arith))

module _ (k w : ℕ) where
  fits : word k w < 2 ^ 64
  fits = rw (word_is k w) (cases (ltb w 6) (λ t. rw t (bits_lt k (64 * w) 64)) (λ t. rw t (lit< tt)))

  -- the n bits of a word above its m lowest
  part : (m n : ℕ) → w < 6 → m + n ≤ 64 → word k w / 2 ^ m % 2 ^ n ≡ bits_from k (64 * w + m) n
  part m n h g = let e : m + (n + (64 - (m + n))) ≡ 64 = omega arith in
      rw (word_is k w, lt-ltb w 6 h) (rw e at (bits_part k (64 * w) m n (64 - (m + n))))

  masked :
      (lo hi : ℕ) → w < 6 → lo ≤ hi → hi ≤ 64 → 64 * w + hi ≤ year_length k →
      ones (bit_and (word k w) (mask lo hi)) ≡ working_from (year_start k + (64 * w + lo)) (hi - lo)
  masked lo hi h a b c = let e : hi - lo + lo ≡ hi = omega arith in
      rw (
        rw e at (and_high (word k w) (hi - lo) lo),
        part lo (hi - lo) h (omega arith),
        ones_shifted (bits_from k (64 * w + lo) (hi - lo)) lo,
      ) (bits_ones k (64 * w + lo) (hi - lo) (omega arith))

bit : (k i : ℕ) → i < 384 → bit_in (word k (word_of i)) (bit_of i) ≡ cond (is_set k i) 1 0
unfolding bits_from
bit k i h = let at : 64 * (i / 64) + i % 64 ≡ i = omega arith in rw at at (part k (i / 64) (i % 64) 1 (omega arith) (omega arith)) ∙ zero-add _

pub years_as_bits : YearsAsBits
unfolding year_words
years_as_bits = record { six = λ k. refl; fits = fits; bit = bit; masked = masked }
