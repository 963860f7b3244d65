use Rattle.basics.proofs.Basics.{◌-◌, length}
use Rattle.line_fields.specs.Between.Known.{IsKnown}
use Rattle.input_lines.specs.Between.Begun.{kept}
use Rattle.input_pieces.specs.Pinned.Session.{desk_of}
use Rattle.input_pieces.specs.Between.Pieces.{Calm}
use Rattle.input_pieces.proofs.Turns.{Going}
use Rattle.input_pieces.proofs.pieces.answer_lines.Given as goal

abbrev pub invariant-loop-at : goal.invariant-loop-at
invariant-loop-at l = let first = l.initial.session in
    Going l.piece l.initial.out (desk_of first) (kept first.part) l.out l.session.part (desk_of l.session) l.at l.written
    × IsKnown l.known × Calm l.session l.quiet

abbrev pub decreases-loop-at : goal.decreases-loop-at
decreases-loop-at l = length l.piece - l.at
