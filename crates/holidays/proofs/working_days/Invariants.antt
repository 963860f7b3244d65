-- The days counted and the working days left are all of them.
use Rattle.basics.proofs.Basics.{◌≡◌, ◌≤◌, ◌-◌, ◌+◌}
use Rattle.holidays.specs.Working.{working_days}
use Rattle.holidays.proofs.working_days.Given as goal

abbrev pub invariant-loop-d : goal.invariant-loop-d
invariant-loop-d l = (l.count ≤ l.d) × (l.count + working_days l.d (l.end - 1) ≡ working_days l.first (l.end - 1))
