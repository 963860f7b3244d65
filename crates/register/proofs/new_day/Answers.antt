-- A day: the register brought up to it, or refused.
use Rattle.basics.proofs.Basics.{sym, ◌∙◌}
use Rattle.rules.specs.declared.{Action.Action}
use Rattle.rules.specs.Pinned.Register.{done}
use Rattle.point_answers.proofs.Apart.{day_apart}
use Rattle.register.proofs.Plain.{plain_accepted}
use Rattle.register.proofs.new_day.Goals as goal

pub returns-then-is_accepted : goal.returns-then-is_accepted
unfolding done
returns-then-is_accepted c = let a = c.args in c.outcome.ensures
    ∙ plain_accepted a.r a.today Action.Day (day_apart _ _ _ _) _ c.answer_apart-answer.ensures _ c.brought_up.ensures
    (sym c.is_accepted.ensures ∙ c.if-is_accepted.true)
