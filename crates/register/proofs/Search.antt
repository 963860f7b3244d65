-- A loop that looks at points 1 to 32 in turn: the points from i + 1 on are left.
use Rattle.basics.proofs.Basics.{◌≡◌, refl, true, false, Bool, List, ℕ, ◌-◌, ◌+◌, ◌<◌, suc, zero, add-one, arith, get_or}
use Rattle.rules.specs.declared.{Point.Point}
use Rattle.rules.specs.Rejections.{any_point}
use Rattle.rules.specs.Pinned.Register.{point_at, no_point}

module _ (f : ℕ → Bool) where
  -- the i-th is passed, and the next follows
  any_next : (p n : ℕ) → 0 < n → f p ≡ false → any_point p n f ≡ any_point (suc p) (n - 1) f
  unfolding any_point
  any_next p zero h e = absurd (omega arith)
  any_next p (suc n) h e = let k : suc n - 1 ≡ n = omega arith in rw (k, e)

  pub any_found : (p n : ℕ) → 0 < n → f p ≡ true → any_point p n f ≡ true
  unfolding any_point
  any_found p zero h e = absurd (omega arith)
  any_found p (suc n) h e = rw e

  pub any_passed : (i : ℕ) → i < 32 → f (i + 1) ≡ false → any_point (i + 1) (32 - i) f ≡ any_point (i + 1 + 1) (32 - (i + 1)) f
  any_passed i h e = let k : 32 - i - 1 ≡ 32 - (i + 1) = omega arith in
      rw (← k, add-one (i + 1)) (any_next (i + 1) (32 - i) (omega arith) e)

  pub any_none : (p : ℕ) → any_point p 0 f ≡ false
  unfolding any_point
  any_none p = refl

-- The point that the loop looks at is point i + 1.
pub point_next : (ps : List Point) (i : ℕ) → point_at (i + 1) ps ≡ get_or ps i no_point
point_next ps i = let k : i + 1 - 1 ≡ i = omega arith in rw k
