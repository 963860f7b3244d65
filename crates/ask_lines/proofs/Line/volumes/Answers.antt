-- The two volumes, one behind the other.
use Rattle.basics.proofs.Basics.{arith}
use Rattle.line_text.proofs.Within.{within_more, room_left}
use Rattle.ask_lines.proofs.Line.volumes.Goals as goal

pub field-requires-2 : goal.field-requires-2
field-requires-2 c = room_left 21 c.field.ensures (omega arith)

pub returns : goal.returns
returns c = within_more 21 21 c.field.ensures c.field-2.ensures (omega arith)
