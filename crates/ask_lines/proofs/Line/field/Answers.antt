-- A number, and the byte behind it.
use Rattle.basics.proofs.Basics.{[], ◌∷◌, arith}
use Rattle.line_text.proofs.Spelling.{decimal_append, decimal_length}
use Rattle.line_text.proofs.Within.{within, within_more}
use Rattle.ask_lines.proofs.Line.field.Goals as goal

pub returns : goal.returns
returns c = let a = c.args in rw (decimal_append a.v (a.end ∷ []))
    (within_more 20 1 (within c.put_number-next.ensures (decimal_length 20 a.v (omega arith) (omega arith)))
    (within c.put_byte-self.ensures (omega arith)) (omega arith))
