-- A test that antt computes at each number below a bound, and what it says of each of them.
use Rattle.basics.proofs.Basics.{◌≡◌, sym, subst, true, Bool, ◌&&◌, and-eq-true_iff, ℕ, ◌<◌, suc, zero, not-suc-le-zero}
use Rattle.basics.proofs.Basics.{le_of_suc-le-suc, eq-or-lt_of_le}
use mathlib.Core.Logic.{⊎_elim}

pub and_left : (a b : Bool) → (a && b) ≡ true → a ≡ true
and_left a b t = ((and-eq-true_iff a b).0 t).0

pub and_right : (a b : Bool) → (a && b) ≡ true → b ≡ true
and_right a b t = ((and-eq-true_iff a b).0 t).1

pub and_both : (a b : Bool) → a ≡ true → b ≡ true → (a && b) ≡ true
and_both a b s t = (and-eq-true_iff a b).1 (s, t)

-- the test holds at each number below n
abbrev pub every : (ℕ → Bool) → ℕ → Bool
every f zero = true
every f (suc n) = f n && every f n

pub every_below : (f : ℕ → Bool) (n : ℕ) → every f n ≡ true → (k : ℕ) → k < n → f k ≡ true
every_below f zero t k h = absurd (not-suc-le-zero h)
every_below f (suc n) t k h = ⊎_elim (λ e. subst (λ (m : ℕ). f m ≡ true) (sym e) (and_left (f n) (every f n) t))
    (λ l. every_below f n (and_right (f n) (every f n) t) k l) (eq-or-lt_of_le (le_of_suc-le-suc h))

-- the test holds at each pair of numbers below a and b
abbrev pub every₂ : (ℕ → ℕ → Bool) → ℕ → ℕ → Bool
every₂ f a b = every (λ i. every (f i) b) a

pub every₂_below : (f : ℕ → ℕ → Bool) (a b : ℕ) → every₂ f a b ≡ true → (i j : ℕ) → i < a → j < b → f i j ≡ true
every₂_below f a b t i j hi hj = every_below (f i) b (every_below (λ i. every (f i) b) a t i hi) j hj
