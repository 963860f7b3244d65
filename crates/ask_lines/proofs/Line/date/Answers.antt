-- A day's date, and the byte behind it.
use Rattle.basics.proofs.Basics.{[], ◌∷◌, arith}
use Rattle.line_text.proofs.DayTexts.{day_append, day_length}
use Rattle.line_text.proofs.Within.{within, within_more}
use Rattle.ask_lines.proofs.Line.date.Goals as goal

pub returns : goal.returns
returns c = let a = c.args in let eight = day_length a.day in rw (day_append a.day (a.end ∷ []))
    (within_more 8 1 (within c.put_day-next.ensures (omega arith)) (within c.put_byte-self.ensures (omega arith)) (omega arith))
