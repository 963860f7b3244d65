use Rattle.basics.proofs.Basics.{◌≡◌}
use Rattle.register.specs.Between.Calls.{failed_on}
use Rattle.register.proofs.Sweep.{swept}
use Rattle.register.proofs.points.all_failed.Given as goal

abbrev pub invariant-loop-point : goal.invariant-loop-point
invariant-loop-point l = l.point-items ≡ swept (failed_on l.set l.t l.s) l.point-index l.fn.ps
