-- The volumes passed so far, added up, each kind by itself.
use Rattle.basics.proofs.Basics.{sym}
use Rattle.questions.proofs.Walks.{sum_next, sum_none}
use Rattle.questions.proofs.sums_of.Invariants.{booked, converted}
use Rattle.questions.proofs.sums_of.Goals as goal

pub loop-q-init : goal.loop-q-init
loop-q-init c = (sym (sum_none booked c.args.ps.now), sym (sum_none converted c.args.ps.now))

pub loop-q-preserved : goal.loop-q-preserved
loop-q-preserved c = let ps = c.args.ps.now in let i = c.loop-q.q-index in (
  sum_next booked ps i _ _ c.loop-q.invariant.0 c.plus-volume.ensures,
  sum_next converted ps i _ _ c.loop-q.invariant.1 c.plus-normal.ensures,
)
