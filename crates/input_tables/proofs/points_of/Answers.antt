-- The points, joined in turn.
use Rattle.basics.proofs.Basics.{refl, sym, arith, rules}
use Rattle.rules.specs.Fields.{blank}
use Rattle.rules.specs.Pinned.Register.{no_point}
use Rattle.input_tables.proofs.Points.{points_length, points_get}
use Rattle.input_tables.proofs.Filled.{filled_next, filled_all}
use Rattle.input_tables.proofs.points_of.Goals as goal

pub loop-p-init : goal.loop-p-init
loop-p-init c = (points_length _ _ _ 32 (search rules) (search rules), refl, refl)

pub loop-p-preserved : goal.loop-p-preserved
loop-p-preserved c = let t = c.args.tables.now in
    let at = points_get no_point blank 0 t.fields t.counts t.slots c.loop-p.p (omega arith) (omega arith) in
    filled_next _ _ c.loop-p.p no_point (omega arith) c.loop-p.invariant (rw c.history_at-in-loop-p.ensures (sym at))

pub returns : goal.returns
returns c = filled_all _ _ c.loop-p.p (omega arith) c.loop-p.invariant
