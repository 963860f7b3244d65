-- 01, Message lines: "dates aaaammjj", here the text of a day's date. Definitions only.
use Rattle.std.specs.Prelude.{ℕ, List, Option, Some, None}
use Rattle.dates.specs.declared.{Date.Date}
use Rattle.dates.specs.Numbers.{date_answer}
use Rattle.line_text.specs.Decimal.{fixed}

-- Four digits of the year, two of the month, two of the day, in front of l.
abbrev pub date_text : Date → List ℕ → List ℕ
date_text x l = fixed 4 x.year (fixed 2 x.month (fixed 2 x.day l))

-- The text of an answer of the calendar; "else 00000000" where there is no date.
abbrev pub answer_text : Option Date → List ℕ → List ℕ
answer_text (Some x) l = date_text x l
answer_text None l = fixed 8 0 l

-- The text of a day in front of l.
abbrev pub day_text : ℕ → List ℕ → List ℕ
day_text n l = answer_text (date_answer n) l
