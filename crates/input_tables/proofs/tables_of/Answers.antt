-- The tables, filled in turn.
use Rattle.basics.proofs.Basics.{◌≡◌, refl, ◌*◌, length, get_or, arith, rules}
use Rattle.rules.specs.Pinned.Register.{no_point}
use Rattle.input_tables.proofs.Points.{points_length, pasted_points, pasted_sized}
use Rattle.input_tables.proofs.Filled.{filled_next, filled_all, pasted_mid}
use Rattle.input_tables.proofs.tables_of.Goals as goal

pub loop-i-init : goal.loop-i-init
loop-i-init c = (record { fields = refl; counts = refl; slots = refl }, (search rules, points_length _ _ _ 32 refl refl, refl))

pub loop-i-preserved : goal.loop-i-preserved
loop-i-preserved c = let l = c.loop-i in let row = (get_or c.args.points.now l.i no_point).history.periods in
    let n : length row ≡ 24 = search rules in
    let w = pasted_mid l.slots row _ (24 * l.i) c.copy_from_slice.ensures.after n in (
      pasted_sized _ _ row (omega arith) n l.invariant.0 w,
      rw (pasted_points _ _ row (omega arith) n l.invariant.0 w) (filled_next _ _ l.i no_point (omega arith) l.invariant.1 refl),
    )

pub returns : goal.returns
returns c = record { sized = c.loop-i.invariant.0; points = filled_all _ _ c.loop-i.i (omega arith) c.loop-i.invariant.1 }
