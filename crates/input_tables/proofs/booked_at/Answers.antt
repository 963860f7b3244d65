-- The row taken out, booked, and put back.
use Rattle.basics.proofs.Basics.{lt-ltb, le-ltb, rules, ◌*◌, ◌∙◌, ap, paste}
use Rattle.rules.specs.declared.{History.History}
use Rattle.point_volumes.specs.Between.{booked_if_fair}
use Rattle.input_tables.specs.Between.Tables.{booked_at}
use Rattle.input_tables.proofs.Filled.{pasted_mid}
use Rattle.input_tables.proofs.booked_at.Goals as goal

pub returns-then-i-lt-POINTS : goal.returns-then-i-lt-POINTS
unfolding booked_at
returns-then-i-lt-POINTS c = let ss = c.args.slots.now in let at = 24 * c.args.i in rw (lt-ltb _ _ c.if-i-lt-POINTS.true)
    (pasted_mid ss c.book-booked.result.periods _ at c.copy_from_slice.ensures.after (search rules)
    ∙ ap (λ (h : History). paste ss at h.periods 24) (c.book-booked.ensures ∙ ap (booked_if_fair c.args.s) c.history_at.ensures))

pub returns-else-i-lt-POINTS : goal.returns-else-i-lt-POINTS
returns-else-i-lt-POINTS c = unfold booked_at in rw (le-ltb _ _ c.if-i-lt-POINTS.false)
