use Rattle.basics.proofs.Basics.{◌≡◌, ◌-◌, ◌+◌}
use Rattle.holidays.specs.Working.{working_from}
use Rattle.working_count.proofs.count.Given as goal

abbrev pub invariant-loop-d : goal.invariant-loop-d
invariant-loop-d l = l.sum + working_from l.d (l.end - l.d) ≡ working_from l.first (l.end - l.first)

abbrev pub decreases-loop-d : goal.decreases-loop-d
decreases-loop-d l = l.end - l.d
