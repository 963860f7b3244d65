-- Meters: what rows 22 and 40 let through, and the largest full turn, unit and factor, whatever the meter.
use Rattle.basics.proofs.Basics.{◌≡◌, refl, true, false, Bool, ◌&&◌, not, true≢false, ◌≤◌, ℕ, ◌-◌, ◌+◌, ◌*◌, ◌^◌, min}
use Rattle.basics.proofs.Basics.{pow-le-pow_right, arith, eqb, ltb, ltb-false, eq-eqb, eqb-true}
use lib.Pow.{pow-add}
use Rattle.rules.specs.declared.{Code.Code, Meter.Meter, NewMeter.NewMeter}
use Rattle.rules.specs.Volumes.{full_turn, turn_of, unit_of, factor_of}
use Rattle.rules.specs.Rejections.{outside, not_wheels, not_meter, bad_factor}
use Rattle.rules.proofs.Accept.{neither}

pub within : (lo hi n : ℕ) → outside lo hi n ≡ false → (lo ≤ n) × (n ≤ hi)
within lo hi n h = let k = neither (ltb n lo) (ltb hi n) h in (ltb-false n lo k.0, ltb-false hi n k.1)

module _ (m : NewMeter) where
  -- the wheels and the code of a meter that row 22 lets through
  pub meter_in_range : not_meter m ≡ false → (m.before ≤ 8) × (m.after ≤ 3) × (1 ≤ m.code) × (m.code ≤ 2)
  meter_in_range h = let n = neither (not_wheels m.before m.after) (outside 1 2 m.code) h in
      let w = neither (outside 1 8 m.before) (outside 0 3 m.after) n.0 in let c = within 1 2 m.code n.1 in
      ((within 1 8 m.before w.0).1, (within 0 3 m.after w.1).1, c.0, c.1)

  module _ (h : bad_factor m ≡ false) where
    both : ((eqb m.code 1 && outside 1 99999 m.factor) ≡ false) × ((eqb m.code 2 && not (eqb m.factor 0)) ≡ false)
    both = neither (eqb m.code 1 && outside 1 99999 m.factor) (eqb m.code 2 && not (eqb m.factor 0)) h

    -- its factor, where it counts m³ and where it counts Nm³
    pub factor_in_range : m.code ≡ 1 → (1 ≤ m.factor) × (m.factor ≤ 99999)
    factor_in_range q = within 1 99999 m.factor (rw (eq-eqb m.code 1 q) at both.0)

    pub factor_none : m.code ≡ 2 → m.factor ≡ 0
    factor_none q = go (eqb m.factor 0) refl (rw (eq-eqb m.code 2 q) at both.1)
      where
        go : (x : Bool) → eqb m.factor 0 ≡ x → not x ≡ false → m.factor ≡ 0
        go true e z = eqb-true m.factor 0 e
        go false e z = absurd (true≢false z)

power_up : (n k : ℕ) → n ≤ k → 10 ^ n ≤ 10 ^ k
power_up n k h = pow-le-pow_right (omega arith) h

pub turn_most : (m : Meter) → turn_of m ≤ 10 ^ 11
unfolding full_turn
turn_most m = power_up (min m.before 8 + min m.after 3) 11 (omega arith)

pub unit_most : (m : Meter) → unit_of m ≤ 10 ^ 3
unfolding unit_of
unit_most m = power_up (3 - m.after) 3 (omega arith)

-- A full turn is at most 10^11 thousandths.
pub turn_unit : (m : Meter) → turn_of m * unit_of m ≤ 10 ^ 11
unfolding full_turn unit_of
turn_unit m = rw (← (pow-add 10 (min m.before 8 + min m.after 3) (3 - m.after)))
    (power_up (min m.before 8 + min m.after 3 + (3 - m.after)) 11 (omega arith))

pub factor_most : (c : Code) → factor_of c ≤ 99999
unfolding factor_of
factor_most (Code.Cubic f) = omega arith
factor_most Code.Normal = omega arith
