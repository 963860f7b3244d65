-- The deed of a ruling.
use Rattle.input_point.specs.Between.Deeds.{ruled_deed}
use Rattle.input_point.proofs.deeds.ruled_deed.Goals as goal

pub returns-in-Known : goal.returns-in-Known
returns-in-Known c = unfold ruled_deed in rw c.in-Known.is

pub returns-in-Ruled : goal.returns-in-Ruled
returns-in-Ruled c = unfold ruled_deed in rw c.in-Ruled.is c.effect_deed.ensures

pub returns-in-Fails : goal.returns-in-Fails
returns-in-Fails c = unfold ruled_deed in rw c.in-Fails.is
