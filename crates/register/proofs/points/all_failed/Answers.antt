-- The failure goes over every point in turn.
use Rattle.basics.proofs.Basics.{rules}
use Rattle.rules.specs.Pinned.Register.{no_point}
use Rattle.register.specs.Between.Calls.{failed_on}
use Rattle.register.proofs.Sweep.{swept_more}
use Rattle.register.proofs.points.all_failed.Goals as goal

pub loop-point-preserved : goal.loop-point-preserved
unfolding failed_on
loop-point-preserved c = rw (c.note.ensures, c.fail.ensures, c.loop-point.invariant)
    (swept_more _ c.args.ps c.loop-point.point-index no_point (search rules))
