-- The points are looked at in turn: what is left to look at decides.
use Rattle.basics.proofs.Basics.{◌≡◌, refl, sym, ◌∙◌, ap, Bool, ℕ, ◌-◌, ◌+◌, arith}
use Rattle.rules.specs.Rejections.{any_point}
use Rattle.rules.specs.Pinned.Register.{point_at}
use Rattle.register.specs.Between.Calls.{failure_fills}
use Rattle.register.proofs.Search.{point_next, any_found, any_passed, any_none}
use Rattle.register.proofs.points.any_filled.Goals as goal

pub loop-g-init : goal.loop-g-init
loop-g-init c = λ S. refl

pub returns-then-fills : goal.returns-then-fills
unfolding failure_fills
returns-then-fills c = λ S. let a = c.args in
    let i = c.loop-g.g-index in let f : ℕ → Bool = λ p. failure_fills S a.t a.s (point_at p a.ps) in
    sym (c.loop-g.invariant S ∙ any_found f (i + 1) (32 - i) (omega arith)
    (rw (point_next a.ps i) (rw c.view_of.ensures at (sym (c.fills.ensures S a.t)) ∙ c.if-fills.true)))

pub loop-g-preserved : goal.loop-g-preserved
unfolding failure_fills
loop-g-preserved c = λ S. let a = c.args in
    let i = c.loop-g.g-index in let f : ℕ → Bool = λ p. failure_fills S a.t a.s (point_at p a.ps) in
    c.loop-g.invariant S ∙ any_passed f i (omega arith)
    (rw (point_next a.ps i) (rw c.view_of.ensures at (sym (c.fills.ensures S a.t)) ∙ c.if-fills.false))

pub returns : goal.returns
returns c = λ S. let a = c.args in let i = c.loop-g.g-index in
    let f : ℕ → Bool = λ p. failure_fills S a.t a.s (point_at p a.ps) in let z : 32 - i ≡ 0 = omega arith in
    sym (c.loop-g.invariant S ∙ ap (λ (n : ℕ). any_point (i + 1) n f) z ∙ any_none f (i + 1))
