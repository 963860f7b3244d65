-- The deed, call by call.
use Rattle.basics.proofs.Basics.{lt-ltb, le-ltb}
use Rattle.input_point.specs.Between.Deeds.{call_deed}
use Rattle.input_point.proofs.deeds.call_deed.Goals as goal

pub returns-then-supplier-lt100 : goal.returns-then-supplier-lt100
returns-then-supplier-lt100 c = unfold call_deed in rw (c.in-Contract.is, lt-ltb _ _ c.if-supplier-lt100.true)

pub returns-then-supplier-lt100-2 : goal.returns-then-supplier-lt100-2
returns-then-supplier-lt100-2 c = unfold call_deed in rw (c.in-Failure.is, lt-ltb _ _ c.if-supplier-lt100-2.true)

pub returns-else-supplier-lt100 : goal.returns-else-supplier-lt100
returns-else-supplier-lt100 c = unfold call_deed in rw (c.in-Contract.is, le-ltb _ _ c.if-supplier-lt100.false)

pub returns-else-supplier-lt100-2 : goal.returns-else-supplier-lt100-2
returns-else-supplier-lt100-2 c = unfold call_deed in rw (c.in-Failure.is, le-ltb _ _ c.if-supplier-lt100-2.false)

pub returns-in-At : goal.returns-in-At
returns-in-At c = unfold call_deed in rw c.in-At.is c.ruled_deed.ensures

pub returns-in-Day : goal.returns-in-Day
returns-in-Day c = unfold call_deed in rw c.in-Day.is
