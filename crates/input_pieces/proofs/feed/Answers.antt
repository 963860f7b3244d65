-- As much of the piece as there is room for.
use Rattle.basics.proofs.Basics.{sym, ◌/◌, arith, length, length-take-le}
use Rattle.line_answers.specs.Answers.{longest_answer}
use Rattle.input_lines.proofs.Feeds.{fitting_le}
use Rattle.input_pieces.proofs.Turns.{taken_room}
use Rattle.input_pieces.proofs.feed.Goals as goal

pub slice_bounds-answer_lines-end : goal.slice_bounds-answer_lines-end
slice_bounds-answer_lines-end c = let fits = c.fitting-taken in
    let a = c.args in
    sym (length-take-le fits.result a.piece.now (omega (arith, fits.ensures, fitting_le (length a.out.now / longest_answer) a.piece.now)))

pub answer_lines-written-requires-clause-room : goal.answer_lines-written-requires-clause-room
answer_lines-written-requires-clause-room c = let fits = c.fitting-taken in
    let a = c.args in
    taken_room a.piece.now a.out.now fits.result fits.ensures

pub returns : goal.returns
returns c = let fits = c.fitting-taken in
    record { taken = fits.ensures; runs = rw (← fits.ensures) c.answer_lines-written.ensures }
