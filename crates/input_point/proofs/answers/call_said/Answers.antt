-- The answer, at a point and apart from all.
use Rattle.basics.proofs.Basics.{◌∙◌}
use Rattle.input_point.specs.Between.Answers.{call_said}
use Rattle.input_point.proofs.Apart.{not_at}
use Rattle.input_point.proofs.answers.call_said.Goals as goal

pub returns-in_default : goal.returns-in_default
returns-in_default c = unfold call_said in c.apart_said.ensures
    ∙ not_at _ _ c.args.a c.in_default.not-At

pub returns : goal.returns
returns c = unfold call_said in rw (c.in-At.is, ← c.view_on.ensures, c.ruling_at.ensures)
