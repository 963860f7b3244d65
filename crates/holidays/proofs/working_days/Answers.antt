-- `working_days` meets its contract: the days counted and the working days left are all of them; past the calendar's end
-- no day counts, so it may end there.
use Rattle.basics.proofs.Basics.{◌≡◌, ◌∙◌, ◌+◌, ◌-◌, sym, arith}
use Rattle.holidays.specs.Working.{working_days}
use Rattle.holidays.proofs.Counting.{walk_step, walk_end, to_the_end}
use Rattle.holidays.proofs.working_days.Goals as goal
use Rattle.holidays.proofs.working_days.Goals.{then-is_working, else-is_working}

pub loop-d-preserved : goal.loop-d-preserved
loop-d-preserved c = let l = c.loop-d in
    let step = walk_step l.d (c.min-end.result + 1 - 1) (omega (arith, c.loop-d-test.true)) in elim c.if-is_working.branch [
      | then-is_working w ↦ let s = rw (sym c.is_working.ensures ∙ w.if-is_working.true) at step in omega (arith, l.invariant, w.count-is)
      | else-is_working w ↦ let s = rw (sym c.is_working.ensures ∙ w.if-is_working.false) at step in omega (arith, l.invariant, w.count-is)
    ]

pub returns : goal.returns
returns c = let l = c.loop-d in let n = c.min-end.result in
    let none = walk_end l.d (n + 1 - 1) (omega (arith, c.loop-d-test.false)) in
    let all : l.count ≡ working_days c.args.first (n + 1 - 1) = omega (arith, l.invariant) in
    let e : n + 1 - 1 ≡ n = omega arith in
    rw (e, c.min-end.ensures, c.from.ensures) at all ∙ to_the_end c.args.first c.args.last
