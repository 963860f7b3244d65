-- The bits of a stretch of days: cut in two, counted, and past the year's end.
use Rattle.basics.proofs.Basics.{◌≡◌, refl, ◌∙◌, ap, true, false, Bool, cond, ◌&&◌, ◌≤◌, ℕ, ◌+◌, ◌<◌, suc, zero, ◌*◌, ◌^◌, ◌/◌, ◌%◌}
use Rattle.basics.proofs.Basics.{add-zero, zero-add, add_assoc, add-suc, suc-add, mul_assoc, arith, lt-ltb, le-ltb}
use native.Mathlib.Nat.{add_comm, add-mul, mul-one, pow-suc}
use lib.Dec.{lit<}
use lib.Pow.{pow_pos, high, low}
use lib.Count.{ones, ones_cat}
use Rattle.dates.specs.Numbers.{year_start}
use Rattle.holidays.specs.Working.{is_working, working_from}
use Rattle.year_words.specs.Words.{year_length, is_set, bits_from}

-- a bit is 0 or 1
pub bit_lt : (b : Bool) → cond b 1 0 < 2
bit_lt true = lit< tt
bit_lt false = lit< tt

bit_ones : (b : Bool) → ones (cond b 1 0) ≡ cond b 1 0
unfolding ones
bit_ones true = refl
bit_ones false = refl

-- a day's bit, by whether it lies in the year
and_worked : (k i : ℕ) {a b : Bool} → a ≡ b → (a && is_working (year_start k + i)) ≡ (b && is_working (year_start k + i))
and_worked k i e = ap (λ (x : Bool). x && is_working (year_start k + i)) e

module _ (k : ℕ) where
  -- n bits are below 2 ^ n
  pub bits_lt : (i n : ℕ) → bits_from k i n < 2 ^ n
  unfolding bits_from
  bits_lt i zero = lit< tt
  bits_lt i (suc n) = rw pow-suc (omega (arith, bits_lt (suc i) n, bit_lt (is_set k i)))

  -- two stretches, one after the other
  pub bits_sum : (i m n : ℕ) → bits_from k i (m + n) ≡ bits_from k (i + m) n * 2 ^ m + bits_from k i m
  unfolding bits_from
  bits_sum i zero n = rw (zero-add, add-zero, mul-one, add-zero)
  bits_sum i (suc m) n = rw (suc-add, bits_sum (suc i) m n, pow-suc, add-suc, suc-add, add-mul, mul_assoc, add_assoc)

  -- the n bits above the m lowest are those of n days, from the m-th on
  pub bits_part : (i m n r : ℕ) → bits_from k i (m + (n + r)) / 2 ^ m % 2 ^ n ≡ bits_from k (i + m) n
  bits_part i m n r =
      rw (bits_sum i m (n + r), high (bits_from k (i + m) (n + r)) m (bits_lt i m), bits_sum (i + m) n r)
      (low (bits_from k (i + m + n) r) n (bits_lt (i + m) n))

  -- within the year as many ones as working days
  pub bits_ones : (i n : ℕ) → i + n ≤ year_length k → ones (bits_from k i n) ≡ working_from (year_start k + i) n
  unfolding bits_from working_from ones
  bits_ones i zero h = refl
  bits_ones i (suc n) h =
      let set : is_set k i ≡ is_working (year_start k + i) = unfold is_set in and_worked k i (lt-ltb i (year_length k) (omega arith)) in
      ones_cat 1 (bits_from k (suc i) n) (cond (is_set k i) 1 0) (bit_lt (is_set k i))
      ∙ rw (bits_ones (suc i) n (omega arith), bit_ones (is_set k i), set, add-suc) (add_comm _ _)

  -- past the year's end none is set
  pub none_set : (i n : ℕ) → year_length k ≤ i → bits_from k i n ≡ 0
  unfolding bits_from
  none_set i zero h = refl
  none_set i (suc n) h = let none : is_set k i ≡ false = unfold is_set in and_worked k i (le-ltb i (year_length k) h) in
      rw (none, none_set (suc i) n (omega arith))

-- zeros below change no count
pub ones_shifted : (a n : ℕ) → ones (a * 2 ^ n) ≡ ones a
ones_shifted a n = let none : ones 0 ≡ 0 = unfold ones in refl in
    rw (← add-zero (a * 2 ^ n), ones_cat n a 0 (pow_pos n), none, add-zero)
