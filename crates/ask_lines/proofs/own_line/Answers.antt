-- `ok;`, a period's start, its end and its volumes, one behind the other.
use Rattle.basics.proofs.Basics.{append_assoc, arith}
use Rattle.line_text.proofs.Within.{within, within_more, within_wider, room_left}
use Rattle.ask_lines.proofs.Written.{room}
use Rattle.ask_lines.proofs.own_line.Goals as goal

pub end-requires : goal.end-requires
end-requires c =
    let start = within_more 3 9 (within c.begun-line.ensures.text (omega arith)) c.date.ensures (omega (arith, room)) in
    room_left 9 start (omega (arith, room))

pub volumes-requires : goal.volumes-requires
volumes-requires c =
    let start = within_more 3 9 (within c.begun-line.ensures.text (omega arith)) c.date.ensures (omega (arith, room)) in
    room_left 42 (within_more 12 9 start c.end.ensures (omega (arith, room))) (omega (arith, room))

pub returns : goal.returns
returns c =
    let start = rw c.from.ensures at (within_more 3 9 (within c.begun-line.ensures.text (omega arith)) c.date.ensures (omega (arith, room))) in
    let end = within_more 12 9 start c.end.ensures (omega (arith, room)) in
    within_wider (simp append_assoc at (within_more 21 42 end c.volumes.ensures (omega (arith, room)))) (omega arith)
