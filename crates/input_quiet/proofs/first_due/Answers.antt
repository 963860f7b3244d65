use Rattle.basics.proofs.Basics.{arith}
use Rattle.input_quiet.proofs.Dues.{walk_start, walk_next, walk_end}
use Rattle.input_quiet.proofs.first_due.Goals as goal

pub loop-f-init : goal.loop-f-init
loop-f-init c = walk_start c.args.fields.now

pub loop-f-preserved : goal.loop-f-preserved
loop-f-preserved c = walk_next c.args.fields.now c.loop-f.f-index _ _ _ (omega arith) c.loop-f.invariant c.due_day.ensures c.min-first.ensures

pub returns : goal.returns
returns c = walk_end c.args.fields.now c.loop-f.f-index _ (omega arith) c.loop-f.invariant
