-- A date or `-`, and the byte behind it.
use Rattle.basics.proofs.Basics.{arith}
use Rattle.line_text.proofs.Within.{within, within_more, within_wider}
use Rattle.ask_lines.proofs.Line.end.Goals as goal

pub returns-in_default : goal.returns-in_default
returns-in_default c = rw c.in_default.is (within_wider (within_more 1 1 (within c.put_byte-next.ensures (omega arith))
    (within c.put_byte-self.ensures (omega arith)) (omega arith)) (omega arith))
