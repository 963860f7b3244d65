-- One slot is booked, and it is the last or the next older one follows.
use Rattle.basics.proofs.Basics.{◌≡◌, sym, ◌∙◌, ap, ℕ, arith}
use Rattle.rules.specs.Pinned.Register.{booked_slots}
use Rattle.point_volumes.proofs.Slots.{slots_last, slots_on, slots_none}
use Rattle.point_volumes.proofs.booking.FairSpan.book_slots.Goals as goal

pub returns-then-q-self : goal.returns-then-q-self
returns-then-q-self c = rw c.booked_period.ensures
    (sym (slots_last _ c.loop-i.end c.loop-i.i c.loop-i.ps (omega arith) c.if-q-self.true) ∙ c.loop-i.invariant)

pub loop-i-preserved : goal.loop-i-preserved
loop-i-preserved c = rw c.booked_period.ensures
    (sym (slots_on _ c.loop-i.end c.loop-i.i c.loop-i.ps (omega arith) c.if-q-self.false) ∙ c.loop-i.invariant)

pub returns : goal.returns
returns c = let l = c.loop-i in let s = c.args.self.span in let z : l.i ≡ 0 = omega arith in
    sym (slots_none s l.end l.ps) ∙ ap (λ (n : ℕ). booked_slots s l.end n l.ps) (sym z) ∙ l.invariant
