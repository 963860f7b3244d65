-- A failure: the rows before number 30, number 30, then last resort at each of its points.
use Rattle.basics.proofs.Basics.{sym, ◌∙◌, arith}
use Rattle.register.proofs.Failing.{failure_in, failure_full}
use Rattle.register.proofs.fail.Goals as goal

pub returns-then-any_filled : goal.returns-then-any_filled
returns-then-any_filled c = let a = c.args in c.outcome-then-any_filled.ensures
    ∙ failure_full a.today a.s a.r _ c.answer_apart-first.ensures (sym c.is_accepted.ensures ∙ c.if-not-is_accepted.false)
    _ c.brought_up-next.ensures _ c.any_filled.ensures c.if-any_filled.true

pub bounds-next-i : goal.bounds-next-i
bounds-next-i c = let a = c.args in
    let w = failure_in a.today a.s a.r _ c.answer_apart-first.ensures
    (sym c.is_accepted.ensures ∙ c.if-not-is_accepted.false) _ c.brought_up-next.ensures in omega (arith, w.1)

pub overflow_cast-today : goal.overflow_cast-today
overflow_cast-today c = let a = c.args in
    let w = failure_in a.today a.s a.r _ c.answer_apart-first.ensures
    (sym c.is_accepted.ensures ∙ c.if-not-is_accepted.false) _ c.brought_up-next.ensures in omega (arith, w.2)
