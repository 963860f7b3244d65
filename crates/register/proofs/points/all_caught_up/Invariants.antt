use Rattle.basics.proofs.Basics.{◌≡◌}
use Rattle.point_effects.specs.Between.{caught_up}
use Rattle.register.proofs.Sweep.{swept}
use Rattle.register.proofs.points.all_caught_up.Given as goal

abbrev pub invariant-loop-g : goal.invariant-loop-g
invariant-loop-g l = l.g-items ≡ swept (caught_up l.set l.t) l.g-index l.fn.ps
