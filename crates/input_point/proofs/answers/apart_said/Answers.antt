-- A failure, or any other call that names no point.
use Rattle.basics.proofs.Basics.{sym, ◌∙◌}
use Rattle.input_point.specs.Between.Answers.{apart_said}
use Rattle.input_point.proofs.Apart.{not_failing}
use Rattle.input_point.proofs.answers.apart_said.Goals as goal

pub returns-in_default : goal.returns-in_default
returns-in_default c = unfold apart_said in rw (← c.answer_apart-first.ensures)
    (not_failing _ _ c.args.a c.in_default.not-Failure)

pub returns-then-is_accepted : goal.returns-then-is_accepted
returns-then-is_accepted c = unfold apart_said in
    rw (← c.answer_apart-first.ensures, c.in-Failure.is, sym c.is_accepted.ensures ∙ c.if-is_accepted.true)

pub returns : goal.returns
returns c = unfold apart_said in
    rw (← c.answer_apart-first.ensures, c.in-Failure.is, sym c.is_accepted.ensures ∙ c.if-is_accepted.false)
