-- A holder named: the newest period's, a new one's, or none where all slots are taken.
use Rattle.basics.proofs.Basics.{sym, ◌∙◌, lt-ltb, le-ltb}
use Rattle.input_quiet.specs.Between.Quiet.{named_seen}
use Rattle.input_quiet.proofs.seen.Seen.named.Goals as goal

pub returns-then-self-lt24 : goal.returns-then-self-lt24
unfolding named_seen
returns-then-self-lt24 c = rw (rw c.from.ensures at (sym c.is_marked.ensures ∙ c.if-not-is_marked.true), lt-ltb _ _ c.if-self-lt24.true)

pub returns-else-not-is_marked : goal.returns-else-not-is_marked
unfolding named_seen
returns-else-not-is_marked c = elim c.else-not-is_marked.branch [
  | goal.else-not-is_marked-via-then-not-is_marked+else-self-lt24 w ↦
      rw (rw c.from.ensures at (sym c.is_marked.ensures ∙ w.if-not-is_marked.true), le-ltb _ _ w.if-self-lt24.false)
  | goal.else-not-is_marked-via-else-not-is_marked w ↦ rw (rw c.from.ensures at (sym c.is_marked.ensures ∙ w.if-not-is_marked.false))
]
