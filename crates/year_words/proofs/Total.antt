-- The working days of whole years, by the ones of their words; those of the calendar, by the table.
use Rattle.basics.proofs.Basics.{◌≡◌, refl, ◌∙◌, sym, ap, List, [], ◌∷◌, ◌≤◌, ℕ, ◌+◌, ◌<◌, suc, zero, ◌*◌, ◌/◌, ◌^◌, zero-add, add-zero, arith, get_or}
use native.Mathlib.Nat.{add_comm, pow-suc}
use lib.Count.{ones, ones_in, ones_step, ones_cat}
use Rattle.dates.specs.Numbers.{year_start}
use Rattle.dates.proofs.Years.{year_is, year_step}
use Rattle.holidays.specs.Working.{working_from}
use Rattle.holidays.proofs.Counting.{stretches_sum}
use Rattle.year_words.specs.Words.{year_length, bits_from, year_words}
use Rattle.year_words.proofs.Bits.{bits_lt, bits_sum, bits_ones}
use Rattle.year_words.proofs.YearLaw.{words_from, words_are, all_bits}
use Rattle.year_words.proofs.Table.{years, year_right}

-- n digits are enough for a number below 2 ^ n
enough : (n a : ℕ) → a < 2 ^ n → ones_in n a ≡ ones a
unfolding ones_in
enough zero a h = let e : a ≡ 0 = omega arith in rw e (unfold ones in refl)
enough (suc n) a h = rw (enough n (a / 2) (omega (arith, rw pow-suc at h))) (sym (ones_step a))

-- the ones of words
unfoldable ones_of : List ℕ → ℕ
ones_of [] = 0
ones_of (w ∷ ws) = ones_in 64 w + ones_of ws

ones_of_lem : (k i c : ℕ) → ones_of (words_from k i c) ≡ ones (bits_from k i (64 * c))
unfolding ones_of words_from
ones_of_lem k i zero = unfold ones bits_from in refl
ones_of_lem k i (suc c) = let e : 64 * suc c ≡ 64 + 64 * c = omega arith in
    rw (e, bits_sum k i 64 (64 * c), ones_cat 64 (bits_from k (i + 64) (64 * c)) (bits_from k i 64) (bits_lt k i 64))
    (rw (enough 64 (bits_from k i 64) (bits_lt k i 64), ones_of_lem k (i + 64) c) (add_comm _ _))

year_ones : (k : ℕ) → ones_of (year_words k) ≡ working_from (year_start k) (year_length k)
year_ones k = rw (← words_are k) (ones_of_lem k 0 6 ∙ ap ones (all_bits k) ∙ rw add-zero at (bits_ones k 0 (year_length k) (omega arith)))

-- the ones of the table's first n years
unfoldable ones_to : ℕ → ℕ
ones_to zero = 0
ones_to (suc n) = ones_to n + ones_of (get_or years n [])

ones_to_lem : (n : ℕ) → n ≤ 200 → ones_to n ≡ working_from 0 (year_start n)
unfolding ones_to
ones_to_lem zero h = unfold working_from year_start in refl
ones_to_lem (suc n) h = rw (ones_to_lem n (omega arith), year_right n (omega arith), year_ones n, year_step n)
    (sym (rw zero-add at (stretches_sum 0 (year_start n) (year_length n))))

pub total : working_from 0 73049 ≡ 50456
total = let e : year_start 200 ≡ 73049 = omega (arith, year_is 200 (omega arith)) in
    sym (rw e at (ones_to_lem 200 (omega arith))) ∙ (unfold ones_to ones_of ones_in in refl)
