-- The deed, effect by effect.
use Rattle.input_point.specs.Between.Deeds.{effect_deed}
use Rattle.input_point.proofs.deeds.effect_deed.Goals as goal

pub returns-in-Keep : goal.returns-in-Keep
returns-in-Keep c = unfold effect_deed in rw c.in-Keep.is c.kept_entry.ensures

pub returns-in-Name : goal.returns-in-Name
returns-in-Name c = unfold effect_deed in rw c.in-Name.is c.naming_entry.ensures

pub returns-in-Enrol : goal.returns-in-Enrol
returns-in-Enrol c = unfold effect_deed in rw c.in-Enrol.is c.naming_entry-in-Enrol.ensures

pub returns-in-Read : goal.returns-in-Read
returns-in-Read c = unfold effect_deed in rw c.in-Read.is c.reading_deed.ensures

pub returns-in-Request : goal.returns-in-Request
returns-in-Request c = unfold effect_deed in rw c.in-Request.is c.kept_entry-in-Request.ensures
