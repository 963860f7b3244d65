use Rattle.basics.proofs.Basics.{◌≡◌, length}
use Rattle.input_tables.specs.Between.Tables.{points_of, Sized}
use Rattle.register.specs.Between.Calls.{failed_on}
use Rattle.register.proofs.Sweep.{swept}
use Rattle.input_point.proofs.failures.failed_tables.Given as goal

abbrev pub invariant-loop-i : goal.invariant-loop-i
invariant-loop-i l = let t = l.tables in let first = points_of l.initial.tables.fields l.initial.tables.counts l.initial.tables.slots in
    Sized t.fields t.counts t.slots × (length first ≡ 32)
    × (points_of t.fields t.counts t.slots ≡ swept (failed_on l.set l.t l.s) l.i first)
