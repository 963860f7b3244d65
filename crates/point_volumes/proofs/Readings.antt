-- A reading that goes forward to a day of the calendar is fair, whatever its index, so it is booked; and where the wheels
-- have its index it is the definition's.
use Rattle.basics.proofs.Basics.{◌≡◌, refl, true, false, Bool, cond, ◌&&◌, ◌≤◌, ℕ, ◌<◌, ◌*◌, le_trans, mul-le-mul_right}
use Rattle.basics.proofs.Basics.{mul_assoc, arith, ltb, leb, lt-ltb, le-leb, ltb-true, leb-true}
use Rattle.dates.specs.Dates.{last_day}
use Rattle.rules.specs.declared.{Fields.Fields, History.History, Meter.Meter, Period.Period, Reading.Reading}
use Rattle.rules.specs.Volumes.{turn_of, unit_of, advance_of, span_to}
use Rattle.rules.specs.Pinned.Register.{booked_period, booked}
use Rattle.point_volumes.specs.Between.{advance_read, span_read, most_volume, is_fair, booked_if_fair, booked_newest}
use Rattle.rules.proofs.Meters.{turn_most, unit_most, turn_unit, factor_most}

advance_most : (last x z turn : ℕ) → x < turn → z ≤ 1 → advance_of last x z turn ≤ 2 * turn
unfolding advance_of
advance_most last x z turn a b = omega (arith, mul-le-mul_right turn b)

-- V, or nothing: two full turns at the most.
read_most : (m : Meter) (last x z : ℕ) → advance_read last x z (turn_of m) ≤ 2 * turn_of m
read_most m last x z = go (ltb x (turn_of m)) (leb z 1) refl refl
  where
    go : (a b : Bool) → ltb x (turn_of m) ≡ a → leb z 1 ≡ b → cond (a && b) (advance_of last x z (turn_of m)) 0 ≤ 2 * turn_of m
    go true true p q = advance_most last x z (turn_of m) (ltb-true _ _ p) (leb-true _ _ q)
    go true false p q = omega arith
    go false b p q = omega arith

module _ (m : Meter) (last : Reading) (d x z : ℕ) where
  volume_most : (span_read m last d x z).advance * (span_read m last d x z).unit ≤ most_volume
  unfolding span_read
  volume_most = le_trans (mul-le-mul_right (unit_of m) (read_most m last.index x z))
      (rw (mul_assoc 2 (turn_of m) (unit_of m)) (omega (arith, turn_unit m)))

  module _ (forward : last.day < d) (within : d ≤ last_day) where
    fair_read : is_fair (span_read m last d x z) ≡ true
    unfolding span_read
    fair_read = let v = volume_most in let a = read_most m last.index x z in rw (
      lt-ltb _ _ forward,
      le-leb _ _ within,
      le-leb _ _ (unit_most m),
      le-leb _ _ (factor_most m.code),
      le-leb (advance_read last.index x z (turn_of m)) most_volume (omega (arith, a, turn_most m)),
      le-leb _ _ v,
    )

    pub read_booked : (h : History) → booked_if_fair (span_read m last d x z) h ≡ booked (span_read m last d x z) h
    unfolding booked_if_fair
    read_booked h = rw fair_read

    pub read_newest : (q : Period) → booked_newest (span_read m last d x z) q ≡ booked_period (span_read m last d x z) d q
    unfolding booked_newest span_read
    read_newest q = rw fair_read

-- An index that the wheels have.
pub read_span : (f : Fields) (d x z : ℕ) → x < turn_of f.meter → z ≤ 1 → span_read f.meter f.reading d x z ≡ span_to f d x z
unfolding span_read span_to
read_span f d x z a b = rw (lt-ltb _ _ a, le-leb _ _ b)
