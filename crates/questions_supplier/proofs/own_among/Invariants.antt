use Rattle.basics.proofs.Basics.{◌≡◌, ◌≤◌, ◌-◌, drop}
use Rattle.questions_supplier.specs.Pinned.Own.{own_in, nth_own}
use Rattle.questions_supplier.proofs.own_among.Given as goal

abbrev pub invariant-loop-i : goal.invariant-loop-i
invariant-loop-i l =
    (l.seen ≤ l.i) × (nth_own (l.n - l.seen) (own_in l.s (drop l.i l.ps)) ≡ nth_own l.n (own_in l.s l.ps))
