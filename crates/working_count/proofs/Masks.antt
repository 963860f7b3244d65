-- The mask of bits lo to hi - 1.
use Rattle.basics.proofs.Basics.{◌≡◌, ◌∙◌, ap, ◌≤◌, ℕ, ◌-◌, ◌+◌, ◌<◌, ◌*◌, ◌/◌, ◌%◌, ◌^◌, mod-eq_of_lt, arith}
use native.Mathlib.Nat.{one-mul}
use lib.Pow.{high, ones_split, ones_lt, pow-lt, pow_pos}
use Rattle.year_words.specs.Bits.{mask}

-- hi ones, from 64 of them
below_hi : (hi : ℕ) → hi ≤ 64 → 18446744073709551615 / 2 ^ (64 - hi) ≡ 2 ^ hi - 1
below_hi hi h = let e : hi + (64 - hi) ≡ 64 = omega arith in
    let s : 2 ^ 64 - 1 ≡ (2 ^ hi - 1) * 2 ^ (64 - hi) + (2 ^ (64 - hi) - 1) = rw e at (ones_split hi (64 - hi)) in
    ap (λ (x : ℕ). x / 2 ^ (64 - hi)) s ∙ high (2 ^ hi - 1) (64 - hi) (ones_lt (64 - hi))

one_at : (lo : ℕ) → lo < 64 → 1 * 2 ^ lo % 2 ^ 64 ≡ 2 ^ lo
one_at lo h = rw one-mul (mod-eq_of_lt (pow-lt h))

-- what is taken away is there, and the rest is the mask
module _ (lo hi : ℕ) (p : lo < hi) (q : hi ≤ 64) where
  pub some : 1 ≤ 1 * 2 ^ lo % 2 ^ 64
  some = rw (one_at lo (omega arith)) (pow_pos lo)

  pub less : 1 * 2 ^ lo % 2 ^ 64 - 1 ≤ 18446744073709551615 / 2 ^ (64 - hi)
  less = rw (one_at lo (omega arith), below_hi hi q) (omega (arith, pow-lt p))

  pub mask_is : 18446744073709551615 / 2 ^ (64 - hi) - (1 * 2 ^ lo % 2 ^ 64 - 1) ≡ mask lo hi
  mask_is = rw (one_at lo (omega arith), below_hi hi q) (omega (arith, pow-lt p, pow_pos lo))
