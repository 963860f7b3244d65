-- A later opening is none.
use Rattle.input_point.proofs.answers.opening_said.Goals as goal

pub returns : goal.returns
returns c = rw c.if-ready.false c.opening_answer.ensures
