use Rattle.input_tables.specs.Between.Tables.{Sized, points_of}
use Rattle.input_tables.proofs.Filled.{Filled}
use Rattle.input_tables.proofs.tables_of.Given as goal

abbrev pub invariant-loop-i : goal.invariant-loop-i
invariant-loop-i l = Sized l.fields l.counts l.slots × Filled 32 l.points (points_of l.fields l.counts l.slots) l.i
