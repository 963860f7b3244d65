-- `ways::closed` ends. The measure is the number of points left, which falls because a turn that lists none is the last.
use Rattle.basics.proofs.Basics.{◌-◌}
use Rattle.vectors.proofs.ways.closed.Given as goal

abbrev pub decreases-loop-from : goal.decreases-loop-from
decreases-loop-from l = 32 - l.from
