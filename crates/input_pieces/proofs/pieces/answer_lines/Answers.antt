-- The lines in turn.
use Rattle.basics.proofs.Basics.{refl, ◌-◌, arith, length, drop, length-drop, take_all}
use Rattle.line_fields.proofs.KnownStays.{first_is_known}
use Rattle.line_next.proofs.NextLines.{next_right}
use Rattle.input_pieces.proofs.Turns.{going_start, going_end, line_done}
use Rattle.input_pieces.proofs.pieces.answer_lines.Goals as goal

pub loop-at-init : goal.loop-at-init
loop-at-init c = let s = c.args.session.now in (
  going_start c.args.piece.now c.args.out.now _ s.part c.requires.room,
  first_is_known _ c.first_known-known.ensures,
  record { sized = c.requires.sized; due = omega (arith, c.first_due-quiet.ensures) },
)

pub slice_bounds-whole_message-count : goal.slice_bounds-whole_message-count
slice_bounds-whole_message-count c = omega (arith, (next_right _ _ _ _ c.next_line-line.ensures c.loop-at.invariant.1).end)

pub slice_bounds-whole_message-start : goal.slice_bounds-whole_message-start
slice_bounds-whole_message-start c = omega (arith, (next_right _ _ _ _ c.next_line-line.ensures c.loop-at.invariant.1).end)

pub loop-at-smaller : goal.loop-at-smaller
loop-at-smaller c = omega (arith, (next_right _ _ _ _ c.next_line-line.ensures c.loop-at.invariant.1).end, c.if-piece-line.false)

pub loop-at-preserved : goal.loop-at-preserved
loop-at-preserved c = let l = c.loop-at in let t = c.answer-answer.ensures in
    let read = next_right _ _ _ _ c.next_line-line.ensures l.invariant.1 in (
      rw t.part (line_done l.invariant.0 read c.if-piece-line.false c.whole_message-whole.ensures
          (record { answer = t.answer; after = t.after }) c.put_answer-written.ensures),
      read.known,
      t.calm,
    )

pub returns : goal.returns
returns c = let piece = c.args.piece.now in
    let rest = take_all (length piece - c.loop-at.at) (drop c.loop-at.at piece) (omega (arith, length-drop c.loop-at.at piece)) in
    going_end c.loop-at.invariant.0 (elim c.loop-at-test.branch [
      | goal.else-loop-at-test w ↦ omega (arith, w.loop-at-test.false)
      | goal.then-loop-at-test+then-piece-line w ↦
          omega (arith, (next_right _ _ _ _ w.next_line-line.ensures c.loop-at.invariant.1).end, w.if-piece-line.true)
    ])
    rest c.append-session.ensures refl refl
