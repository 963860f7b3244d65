-- A number in range is a point's.
use Rattle.basics.proofs.Basics.{◌≡◌, refl, true, false, Bool, cond, ◌||◌, true≢false, ◌≤◌, ℕ, ◌-◌, ◌<◌, arith, ltb}
use Rattle.basics.proofs.Basics.{ltb-false}
use Rattle.rules.specs.Rejections.{not_point}

pub point_in : (p : ℕ) → not_point p ≡ false → (1 ≤ p) × (p ≤ 32)
point_in p e = go (ltb p 1) refl (ltb 32 p) refl e
  where
    go : (x : Bool) → ltb p 1 ≡ x → (y : Bool) → ltb 32 p ≡ y → (x || y) ≡ false → (1 ≤ p) × (p ≤ 32)
    go true u y v k = absurd (true≢false k)
    go false u true v k = absurd (true≢false k)
    go false u false v k = (ltb-false p 1 u, ltb-false 32 p v)

pub point_lt : (p : ℕ) → not_point p ≡ false → p - 1 < 32
point_lt p e = omega (arith, (point_in p e).1)

pub place_none : (p : ℕ) → not_point p ≡ true → 0 ≡ cond (not_point p) 0 (p - 1)
place_none p e = rw e
