-- The register opened, or the call done; else nothing.
use Rattle.basics.proofs.Basics.{not-true, not-false}
use Rattle.input_desk.specs.Pinned.Desk.{desk_after}
use Rattle.input_desk.proofs.Openings.{opening_after}
use Rattle.input_desk.proofs.after.Goals as goal

pub returns-then-d : goal.returns-then-d
returns-then-d c = unfold desk_after in rw (c.in-Open.is, c.if-d.true)

pub returns-else-d : goal.returns-else-d
returns-else-d c = rw c.in-Open.is (opening_after _ _ _ _ c.if-d.false c.open-x.ensures c.is_accepted-opened.ensures)

pub returns-then-not-d : goal.returns-then-not-d
returns-then-not-d c = unfold desk_after in rw (c.in-Ask.is, not-true _ c.if-not-d.true)

pub returns-else-not-d : goal.returns-else-not-d
unfolding desk_after
returns-else-not-d c = rw (c.in-Ask.is, not-false _ c.if-not-d.false, c.apply.ensures)

pub returns-in-Unreadable : goal.returns-in-Unreadable
returns-in-Unreadable c = unfold desk_after in rw c.in-Unreadable.is
