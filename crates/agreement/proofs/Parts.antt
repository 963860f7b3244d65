-- The parts of a reading add up to its total, by any factor. The statement is specs/Parts.antt.
use Rattle.basics.proofs.Basics.{◌≡◌, ◌∙◌, ap, ℕ, ◌-◌, ◌+◌, ◌<◌, suc, zero, ◌*◌, ◌/◌, add-zero, arith}
use Rattle.rules.specs.declared.{Span.Span}
use Rattle.rules.specs.Volumes.{day_volume, day_normal, normal_given, factor_of, span_to}
use Rattle.rules.specs.Periods.{sum_days}
use Rattle.agreement.specs.Sound.{Side, wheels, normal}
use Rattle.agreement.specs.Parts.{PartsAddUp}
use Rattle.agreement.proofs.Shares.{factor_on, given_on, day_on, by, by_same, given_step, whole_by, before_on, after_on, step_on}

-- The steps of a running total, added up.
sum_steps : (c v : ℕ → ℕ) → ((d : ℕ) → c (suc d) ≡ c d + v d) → (d n : ℕ) → c d + sum_days v d n ≡ c (d + n)
unfolding sum_days
sum_steps c v step d zero = rw (add-zero d) (omega arith)
sum_steps c v step d (suc n) = let e : suc d + n ≡ d + suc n = omega arith in
    rw (← e) (omega (arith, sum_steps c v step (suc d) n, step d))

parts : (x : Side) (s : Span) → s.from < s.to
    → sum_days (day_on x s) s.from (s.to - s.from) ≡ s.advance * s.unit * factor_on x s / 10000
parts x s h = let e : s.from + (s.to - s.from) ≡ s.to = omega arith in
    let k = rw e at (sum_steps (given_on x s) (day_on x s) (step_on x s h) s.from (s.to - s.from)) in
    omega (arith, k, before_on x s h s.from (omega arith), after_on x s h s.to (omega arith), whole_by s h x)

passed_on : (s : Span) → s.from < s.to → s.factor ≡ 10000 → (d : ℕ) → day_normal s d ≡ day_volume s d
unfolding day_normal normal_given
passed_on s h q d = ap (λ (f : ℕ). by f s (suc d) - by f s d) q ∙ rw (by_same, by_same) (given_step s h d)

pub parts_add_up : PartsAddUp
unfolding span_to factor_of
parts_add_up = record {
  normals = parts normal;
  volumes = λ s h. parts wheels s h ∙ by_same (s.advance * s.unit);
  passed_on = passed_on;
  normal_meter = λ f d x z q. ap factor_of q;
}
