use Rattle.basics.proofs.Basics.{◌≡◌, ◌<◌, ◌^◌}
use Rattle.line_values.proofs.Steps.{more_at}
use Rattle.line_values.proofs.more_digits.Given as goal

abbrev pub invariant-loop-i : goal.invariant-loop-i
invariant-loop-i l = (l.v < 10 ^ 12) × (more_at l.first l.s l.at ≡ more_at l.v l.s l.i)
