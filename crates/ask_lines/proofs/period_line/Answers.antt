-- The answer to the period question: `ok;`, the start, the holder and the volumes, one behind the other.
use Rattle.basics.proofs.Basics.{append_assoc, arith}
use Rattle.line_text.proofs.Within.{within, within_more, room_left}
use Rattle.ask_lines.specs.Lines.{period_reply}
use Rattle.ask_lines.proofs.Written.{room}
use Rattle.ask_lines.proofs.period_line.Goals as goal

pub field-requires : goal.field-requires
field-requires c =
    let start = within_more 3 9 (within c.begun-line.ensures.text (omega arith)) c.date.ensures (omega (arith, room)) in
    room_left 21 start (omega (arith, room))

pub volumes-requires : goal.volumes-requires
volumes-requires c =
    let start = within_more 3 9 (within c.begun-line.ensures.text (omega arith)) c.date.ensures (omega (arith, room)) in
    room_left 42 (within_more 12 21 start c.field.ensures (omega (arith, room))) (omega (arith, room))

pub returns : goal.returns
unfolding period_reply
returns c =
    let start = within_more 3 9 (within c.begun-line.ensures.text (omega arith)) c.date.ensures (omega (arith, room)) in
    let holder = within_more 12 21 start c.field.ensures (omega (arith, room)) in
    let line = simp append_assoc at (within_more 33 42 holder c.volumes.ensures (omega (arith, room))) in
    rw c.in-Some.is (rw (c.from.ensures, c.from-2.ensures) at line)
