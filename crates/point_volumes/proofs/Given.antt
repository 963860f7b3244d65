-- What a reading has given before a day, at its ends and between them.
use Rattle.basics.proofs.Basics.{◌≡◌, ◌≤◌, ℕ, ◌-◌, ◌*◌, min, ◌/◌, le_trans, mul-le-mul_right, mul-le-mul_left}
use Rattle.basics.proofs.Basics.{mul-div_left, mul_comm, mul-zero, zero-mul, zero-div, div-le_of_le-mul}
use Rattle.basics.proofs.Basics.{arith}
use Rattle.rules.specs.declared.{Span.Span}
use Rattle.rules.specs.Volumes.{up_to, given}
use Rattle.point_volumes.specs.Between.{Fair, most_volume}

module _ (s : Span) (f : Fair s) (d : ℕ) where
  pub given_none : d ≤ s.from → given s d ≡ 0
  unfolding given up_to
  given_none le = let k : min (d - s.from) (s.to - s.from) ≡ 0 = omega arith in rw (k, mul-zero, zero-div, zero-mul)

  pub given_all : s.to ≤ d → given s d ≡ s.advance * s.unit
  unfolding given up_to
  given_all le = let k : min (d - s.from) (s.to - s.from) ≡ s.to - s.from = omega arith in
      let z : s.advance * (s.to - s.from) / (s.to - s.from) ≡ s.advance = mul-div_left s.advance (omega (arith, f.forward)) in
      rw (k, z)

  pub given_part : d ≤ s.to → given s d ≡ s.advance * (d - s.from) / (s.to - s.from) * s.unit
  unfolding given up_to
  given_part le = let k : min (d - s.from) (s.to - s.from) ≡ d - s.from = omega arith in rw k

  pub part_most : d ≤ s.to → s.advance * (d - s.from) / (s.to - s.from) * s.unit ≤ most_volume
  part_most le = le_trans (mul-le-mul_right s.unit
      (div-le_of_le-mul _ (rw (mul_comm (s.to - s.from) s.advance) (mul-le-mul_left s.advance (omega arith)))))
      f.volume
