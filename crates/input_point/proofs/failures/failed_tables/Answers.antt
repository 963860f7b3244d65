-- The failure goes over every point in turn.
use Rattle.basics.proofs.Basics.{refl, ◌∙◌, [], arith, rules}
use Rattle.rules.specs.Pinned.Register.{no_point}
use Rattle.input_tables.proofs.Points.{points_length}
use Rattle.register.proofs.Sweep.{swept_more, swept_all}
use Rattle.input_point.proofs.DeedsDone.{slot_within}
use Rattle.input_point.proofs.Stored.{slot_sized, failed_stored}
use Rattle.input_point.proofs.failures.failed_tables.Goals as goal

pub loop-i-init : goal.loop-i-init
loop-i-init c = (
  record { fields = search rules; counts = search rules; slots = search rules },
  points_length _ _ _ 32 (search rules) (search rules),
  refl,
)

pub overflow_add-i : goal.overflow_add-i
overflow_add-i c = omega (arith, slot_within _ _ _ _ c.failed_entry-x.ensures)

pub offset_bounds-tables-i-in-loop-i-3 : goal.offset_bounds-tables-i-in-loop-i-3
offset_bounds-tables-i-in-loop-i-3 c = omega (arith, slot_within _ _ _ _ c.failed_entry-x.ensures)

pub bounds-tables-i-in-loop-i-3 : goal.bounds-tables-i-in-loop-i-3
bounds-tables-i-in-loop-i-3 c = omega (arith, slot_within _ _ _ _ c.failed_entry-x.ensures)

pub loop-i-preserved : goal.loop-i-preserved
loop-i-preserved c = let a = c.args in let s = c.loop-i.invariant.0 in let n = c.of-newest.ensures in (
  slot_sized a.set 0 [] _ _ _ s c.loop-i.i (search rules) _ _ _ _,
  c.loop-i.invariant.1,
  failed_stored a.set 0 [] _ _ _ s c.loop-i.i (search rules) a.t a.s (rw n at c.failed_entry-x.ensures)
      ∙ rw c.loop-i.invariant.2 (swept_more _ _ c.loop-i.i no_point (omega (arith, c.loop-i.invariant.1))),
)

pub returns : goal.returns
returns c = let l = c.loop-i in
    record { sized = l.invariant.0; points = l.invariant.2 ∙ swept_all _ _ l.i (omega (arith, l.invariant.1)) }
