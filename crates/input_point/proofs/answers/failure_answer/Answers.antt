-- The points are looked at in turn: what is left to look at decides.
use Rattle.basics.proofs.Basics.{◌≡◌, refl, sym, ◌∙◌, ap, true, Bool, ◌&&◌, List, ℕ, ◌-◌, ◌+◌, arith, rules}
use Rattle.rules.specs.declared.{Fields.Fields, Period.Period, Settings.Settings}
use Rattle.rules.specs.Effects.{failed}
use Rattle.rules.specs.Rejections.{any_point, shown, touches, is_full}
use Rattle.register.proofs.Search.{any_found, any_passed, any_none}
use Rattle.input_point.specs.Between.Answers.{shows, failure_answer}
use Rattle.input_point.proofs.Settled.{shown_next}
use Rattle.input_point.proofs.answers.failure_answer.Goals as goal

abbrev filled : Settings → ℕ → ℕ → ℕ → List Fields → List ℕ → List Period → ℕ → Bool
filled S day t s fs ns ss p = touches s (shown (shows S day t fs ns ss) p).fields
    && is_full (shown (shows S day t fs ns ss) p) (failed S t s (shown (shows S day t fs ns ss) p).fields)

pub loop-i-init : goal.loop-i-init
loop-i-init c = refl

pub returns-then-fills : goal.returns-then-fills
unfolding failure_answer
returns-then-fills c = let a = c.args in let w = a.tables.now in
    let f : ℕ → Bool = filled a.set a.day a.today a.s w.fields w.counts w.slots in
    let v = shown_next a.set a.day a.today w.fields w.counts w.slots c.loop-i.i _ _ (search rules)
    refl (rw c.of-newest.ensures at c.view_on-v.ensures) in
    let x : f (c.loop-i.i + 1) ≡ true = rw v (sym (c.fills.ensures a.set a.today) ∙ c.if-fills.true) in
    rw (c.loop-i.invariant ∙ any_found f (c.loop-i.i + 1) (32 - c.loop-i.i) (omega arith) x)

pub loop-i-preserved : goal.loop-i-preserved
loop-i-preserved c = let a = c.args in let w = a.tables.now in
    let f : ℕ → Bool = filled a.set a.day a.today a.s w.fields w.counts w.slots in
    let v = shown_next a.set a.day a.today w.fields w.counts w.slots c.loop-i.i _ _ (search rules)
    refl (rw c.of-newest.ensures at c.view_on-v.ensures) in
    c.loop-i.invariant ∙ any_passed f c.loop-i.i (omega arith) (rw v (sym (c.fills.ensures a.set a.today) ∙ c.if-fills.false))

pub returns : goal.returns
unfolding failure_answer
returns c = let l = c.loop-i in let a = c.args in let w = a.tables.now in
    let f : ℕ → Bool = filled a.set a.day a.today a.s w.fields w.counts w.slots in
    let z : 32 - l.i ≡ 0 = omega arith in
    rw (l.invariant ∙ ap (λ (n : ℕ). any_point (l.i + 1) n f) z ∙ any_none f (l.i + 1))
