-- A word and two numbers, one behind the other.
use Rattle.basics.proofs.Basics.{arith}
use Rattle.line_text.proofs.Within.{within_more, within_wider, room_left}
use Rattle.ask_lines.proofs.Written.{room}
use Rattle.ask_lines.proofs.two_numbers.Goals as goal

pub field-requires-2 : goal.field-requires-2
field-requires-2 c = let first = within_more 8 21 c.begun-line.ensures c.field.ensures (omega (arith, room)) in
    room_left 21 first (omega (arith, room))

pub returns : goal.returns
returns c = let first = within_more 8 21 c.begun-line.ensures c.field.ensures (omega (arith, room)) in
    within_wider (within_more 29 21 first c.field-2.ensures (omega (arith, room))) (omega arith)
