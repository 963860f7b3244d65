-- `line_text::write::put_date` meets its contract: the eight digits are the date's.
use Rattle.line_text.proofs.DigitSteps.{date_digits_lem}
use Rattle.line_text.proofs.write.put_date.Goals as goal

pub returns : goal.returns
returns c = simp (
  date_digits_lem c.args.x,
  ← c.from-year.ensures,
  ← c.from-month.ensures,
  ← c.from-day.ensures,
  ← c.digit_of.ensures,
  ← c.digit_of-2.ensures,
  ← c.digit_of-3.ensures,
  ← c.digit_of-4.ensures,
  ← c.digit_of-5.ensures,
  ← c.digit_of-6.ensures,
  ← c.digit_of-7.ensures,
  ← c.digit_of-8.ensures,
) c.put_word.ensures
