-- The deed, message by message.
use Rattle.basics.proofs.Basics.{lt-ltb, le-ltb}
use Rattle.input_point.specs.Between.Deeds.{deed_of}
use Rattle.input_point.proofs.deeds.deed_of.Goals as goal

pub returns-then-c-from : goal.returns-then-c-from
returns-then-c-from c = unfold deed_of in rw (c.in-Ask.is, lt-ltb _ _ (rw c.from.ensures at c.if-c-from.true)) c.call_deed.ensures

pub returns-in-Open : goal.returns-in-Open
returns-in-Open c = unfold deed_of in rw c.in-Open.is

pub returns-else-c-from : goal.returns-else-c-from
returns-else-c-from c = unfold deed_of in rw (c.in-Ask.is, le-ltb _ _ (rw c.from.ensures at c.if-c-from.false))

pub returns-in-Unreadable : goal.returns-in-Unreadable
returns-in-Unreadable c = unfold deed_of in rw c.in-Unreadable.is
