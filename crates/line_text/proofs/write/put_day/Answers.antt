-- `line_text::write::put_day` meets its contract: the calendar's answer, written.
use Rattle.basics.proofs.Basics.{sym, ◌∙◌}
use Rattle.line_text.specs.Decimal.{fixed}
use Rattle.line_text.proofs.write.put_day.Goals as goal

pub returns-in-None : goal.returns-in-None
unfolding fixed
returns-in-None c = rw (sym c.date_of.ensures ∙ c.in-None.is) c.put_word.ensures
