use Rattle.basics.proofs.Basics.{◌≡◌, ◌-◌, ◌+◌, ◌<◌, ◌^◌}
use Rattle.line_values.proofs.Steps.{fixed_at}
use Rattle.line_values.proofs.fixed_at.Given as goal

abbrev pub invariant-loop-c : goal.invariant-loop-c
invariant-loop-c l = (l.v < 10 ^ l.c-index) × (fixed_at l.count 0 l.s l.at ≡ fixed_at (l.count - l.c-index) l.v l.s (l.at + l.c-index))
