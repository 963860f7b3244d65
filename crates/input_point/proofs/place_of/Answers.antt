-- The place, message by message.
use Rattle.basics.proofs.Basics.{arith}
use Rattle.input_point.specs.Between.Answers.{place_of}
use Rattle.input_point.proofs.place_of.Goals as goal

pub returns-in-Open : goal.returns-in-Open
returns-in-Open c = (unfold place_of in rw c.in-Open.is, omega arith)

pub returns-in-Ask : goal.returns-in-Ask
returns-in-Ask c = (unfold place_of in rw c.in-Ask.is c.place_in.ensures.0, c.place_in.ensures.1)

pub returns-in-Unreadable : goal.returns-in-Unreadable
returns-in-Unreadable c = (unfold place_of in rw c.in-Unreadable.is, omega arith)
