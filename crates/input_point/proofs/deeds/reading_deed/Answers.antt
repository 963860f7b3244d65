-- The newest period is booked, or the reading reaches back.
use Rattle.basics.proofs.Basics.{sym, ◌∙◌}
use Rattle.input_point.specs.Between.Deeds.{reading_deed}
use Rattle.input_point.proofs.deeds.reading_deed.Goals as goal

pub returns-then-lies_in : goal.returns-then-lies_in
unfolding reading_deed
returns-then-lies_in c = rw (sym c.lies_in.ensures ∙ c.if-lies_in.true, ← c.book_newest.ensures) c.kept_entry.ensures

pub returns : goal.returns
returns c = unfold reading_deed in rw (sym c.lies_in.ensures ∙ c.if-lies_in.false)
