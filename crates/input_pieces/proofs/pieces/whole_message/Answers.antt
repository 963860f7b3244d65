-- The line by itself, or with the part before it.
use Rattle.input_pieces.proofs.Capped.{read_whole, read_joined}
use Rattle.input_pieces.proofs.pieces.whole_message.Goals as goal

pub returns-then-part-eq0 : goal.returns-then-part-eq0
returns-then-part-eq0 c = λ h. read_whole c.args.part.now c.args.line.now c.args.read c.if-part-eq0.true h

pub returns : goal.returns
returns c = λ h. read_joined c.args.part.now c.args.line.now c.append-whole.result c.read_line.result c.append-whole.ensures
    (rw c.held.ensures at c.read_line.ensures)
