-- `line_text::write::digit_count` meets its contract: one digit more than the greatest power of ten that fits.
use Rattle.basics.proofs.Basics.{sym, arith}
use Rattle.line_text.proofs.Spelling.{count_one, count_between}
use Rattle.line_text.proofs.write.digit_count.Goals as goal

pub returns-in-Some : goal.returns-in-Some
returns-in-Some c = let h = c.in-Some.ensures in
    sym (count_between c.in-Some.power c.args.n h.power_le h.next_power_gt (omega arith))

pub returns-in-None : goal.returns-in-None
returns-in-None c = sym (count_one c.args.n (omega (arith, c.in-None.ensures.none)))
