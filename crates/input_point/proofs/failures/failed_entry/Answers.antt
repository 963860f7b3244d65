-- A failure names the last-resort supplier or keeps the slots: it books no reading.
use Rattle.basics.proofs.Basics.{sym, ◌∙◌}
use Rattle.input_point.specs.Between.Deeds.{effect_deed}
use Rattle.input_point.proofs.FailedSlots.{no_reading}
use Rattle.input_point.proofs.failures.failed_entry.Goals as goal

pub returns-in-Keep : goal.returns-in-Keep
returns-in-Keep c = unfold effect_deed in rw (sym c.fail.ensures ∙ c.in-Keep.is) c.kept_entry.ensures

pub returns-in-Name : goal.returns-in-Name
returns-in-Name c = unfold effect_deed in rw (sym c.fail.ensures ∙ c.in-Name.is) c.naming_entry.ensures

pub returns-in-Enrol : goal.returns-in-Enrol
returns-in-Enrol c = unfold effect_deed in rw (sym c.fail.ensures ∙ c.in-Enrol.is) c.naming_entry-in-Enrol.ensures

pub returns-in-Read : goal.returns-in-Read
returns-in-Read c = absurd (no_reading _ _ _ _ (sym c.fail.ensures ∙ c.in-Read.is))

pub returns-in-Request : goal.returns-in-Request
returns-in-Request c = unfold effect_deed in rw (sym c.fail.ensures ∙ c.in-Request.is) c.kept_entry-in-Request.ensures
