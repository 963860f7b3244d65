-- Each call but the last leaves fewer points.
use Rattle.basics.proofs.Basics.{◌-◌}
use Rattle.registre.proofs.write_closing.Given as goal

abbrev pub decreases-loop-from : goal.decreases-loop-from
decreases-loop-from g l = 32 - l.from
