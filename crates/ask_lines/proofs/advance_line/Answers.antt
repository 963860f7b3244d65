-- The answer to the advance question, by its cases: `ok;`, and the two volumes behind it.
use Rattle.basics.proofs.Basics.{arith}
use Rattle.line_text.proofs.Within.{within_more, within_wider}
use Rattle.ask_lines.specs.Lines.{advance_reply}
use Rattle.ask_lines.proofs.Written.{room}
use Rattle.ask_lines.proofs.advance_line.Goals as goal

pub returns : goal.returns
unfolding advance_reply
returns c = rw c.in-Some.is
    (within_wider (within_more 8 42 c.begun-line.ensures c.volumes.ensures (omega (arith, room))) (omega arith))
