use Rattle.input_tables.specs.Between.Tables.{points_of}
use Rattle.input_tables.proofs.Filled.{Filled}
use Rattle.input_tables.proofs.points_of.Given as goal

abbrev pub invariant-loop-p : goal.invariant-loop-p
invariant-loop-p l = Filled 32 (points_of l.tables.fields l.tables.counts l.tables.slots) l.points l.p
