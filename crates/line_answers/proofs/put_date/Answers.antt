-- `line_answers::put_date` meets its contract: the day's date, or its zeros.
use Rattle.line_text.specs.Decimal.{fixed}
use Rattle.line_answers.proofs.put_date.Goals as goal

pub returns-in-Some : goal.returns-in-Some
returns-in-Some c = rw (c.in-Some.ensures, ← c.from.ensures) c.put_day.ensures

pub returns-in-None : goal.returns-in-None
unfolding fixed
returns-in-None c = rw c.in-None.ensures c.put_word.ensures
