-- The answer, message by message.
use Rattle.input_point.specs.Between.Answers.{said_by}
use Rattle.input_point.proofs.answers.answer_of.Goals as goal

pub returns-then-ready : goal.returns-then-ready
returns-then-ready c = unfold said_by in rw (c.in-Ask.is, c.if-ready.true) c.call_said.ensures

pub returns-in-Open : goal.returns-in-Open
returns-in-Open c = unfold said_by in rw (c.in-Open.is, c.opening_said.ensures)

pub returns-else-ready : goal.returns-else-ready
returns-else-ready c = unfold said_by in rw (c.in-Ask.is, c.if-ready.false)

pub returns-in-Unreadable : goal.returns-in-Unreadable
returns-in-Unreadable c = unfold said_by in rw c.in-Unreadable.is
