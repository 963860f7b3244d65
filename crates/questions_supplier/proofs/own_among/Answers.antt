-- The periods are looked at from the oldest on: what is left to look at decides.
use Rattle.basics.proofs.Basics.{◌≡◌, sym, ◌∙◌, ap, ◌<◌, ℕ, ◌-◌, arith, rules, length}
use Rattle.questions_supplier.specs.Pinned.Own.{own_in, nth_own}
use Rattle.questions_supplier.proofs.Slots.{own_found, own_passed, own_other, own_none}
use Rattle.questions_supplier.proofs.own_among.Goals as goal

pub loop-i-init : goal.loop-i-init
loop-i-init c = let a = c.args in let z : a.n - 0 ≡ a.n = omega arith in
    (search rules, ap (λ (m : ℕ). nth_own m (own_in a.s a.ps.now)) z)

pub returns-then-seen-n : goal.returns-then-seen-n
returns-then-seen-n c = let a = c.args in
    rw (c.own_period.ensures, c.end_of.ensures) (sym (own_found a.ps.now a.s a.n
    c.loop-i.seen c.loop-i.i (search rules) (sym c.from.ensures ∙ c.if-from-s.true) c.if-seen-n.true) ∙ c.loop-i.invariant.1)

pub loop-i-preserved : goal.loop-i-preserved
loop-i-preserved c = let a = c.args in
    let lt : c.loop-i.i < length a.ps.now = search rules in elim c.if-from-s.branch [
      | goal.then-from-s+else-seen-n w ↦ (
        omega (arith, w.seen-is),
        rw w.seen-is (sym (own_passed a.ps.now a.s a.n
            c.loop-i.seen c.loop-i.i lt (sym c.from.ensures ∙ w.if-from-s.true) w.if-seen-n.false) ∙ c.loop-i.invariant.1),
      )
      | goal.else-from-s w ↦ (
        omega (arith, w.seen-is),
        rw w.seen-is (sym (own_other a.ps.now a.s a.n
            c.loop-i.seen c.loop-i.i lt (λ h. w.if-from-s.false (c.from.ensures ∙ h))) ∙ c.loop-i.invariant.1),
      )
    ]

pub returns : goal.returns
returns c = let a = c.args in
    sym (own_none a.ps.now a.s a.n c.loop-i.seen c.loop-i.i c.loop-i-test.false) ∙ c.loop-i.invariant.1
