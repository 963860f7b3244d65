use Rattle.basics.proofs.Basics.{◌≡◌, ◌-◌, ◌+◌}
use Rattle.rules.specs.declared.{Settings.Settings}
use Rattle.rules.specs.Rejections.{any_point}
use Rattle.rules.specs.Pinned.Register.{point_at}
use Rattle.register.specs.Between.Calls.{failure_fills}
use Rattle.register.proofs.points.any_filled.Given as goal

abbrev pub invariant-loop-g : goal.invariant-loop-g
invariant-loop-g l =
    (S : Settings) →
    any_point 1 32 (λ p. failure_fills S l.t l.s (point_at p l.fn.ps)) ≡ any_point (l.g-index + 1) (32 - l.g-index) (λ p. failure_fills S l.t l.s (point_at p l.fn.ps))
