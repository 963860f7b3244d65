-- `ways::answered` is safe and ends. The measure is the number of bytes left of the input, which falls because a turn that
-- takes none is the last.
use Rattle.basics.proofs.Basics.{length}
use Rattle.vectors.proofs.ways.answered.Given as goal

abbrev pub decreases-loop-rest : goal.decreases-loop-rest
decreases-loop-rest l = length l.rest
