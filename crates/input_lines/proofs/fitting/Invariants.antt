use Rattle.basics.proofs.Basics.{◌≡◌, ◌+◌, drop}
use Rattle.input_lines.specs.Between.Feeds.{fitting}
use Rattle.input_lines.proofs.fitting.Given as goal

abbrev pub invariant-loop-i : goal.invariant-loop-i
invariant-loop-i l = l.i + fitting l.left (drop l.i l.piece) ≡ fitting l.n l.piece
