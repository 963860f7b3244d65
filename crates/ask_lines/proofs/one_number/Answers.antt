-- A word, and a number behind it.
use Rattle.basics.proofs.Basics.{arith}
use Rattle.line_text.proofs.Within.{within_more, within_wider}
use Rattle.ask_lines.proofs.Written.{room}
use Rattle.ask_lines.proofs.one_number.Goals as goal

pub returns : goal.returns
returns c = within_wider (within_more 8 21 c.begun-line.ensures c.field.ensures (omega (arith, room))) (omega arith)
