-- A contract: refused by its rows, or signed on the register brought up to today.
use Rattle.basics.proofs.Basics.{sym, ◌∙◌}
use Rattle.rules.specs.declared.{Action.Action}
use Rattle.rules.specs.Pinned.Register.{done}
use Rattle.point_answers.proofs.Apart.{contract_apart}
use Rattle.register.proofs.Plain.{plain_accepted}
use Rattle.register.proofs.contract.Goals as goal

pub returns : goal.returns
unfolding done
returns c = let a = c.args in c.outcome-2.ensures
    ∙ plain_accepted a.r a.today (Action.Contract a.s) (λ v. contract_apart _ _ _ _ v a.s) _ c.answer_apart-answer.ensures _
    c.brought_up-next.ensures (sym c.is_accepted.ensures ∙ c.if-not-is_accepted.false)
