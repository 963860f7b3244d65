-- 01, Message lines: the answer lines and the closing lines, each with its line feed. Definitions only.
use Rattle.std.specs.Prelude.{ℕ, Bool, true, false, cond, List, [], ◌∷◌, ◌++◌, eqb}
use Rattle.std.proofs.Math.Option.{Option, none, some}
use Rattle.rules.specs.declared.{Answer.Answer, Period.Period, Volume.Volume, NormalVolume.NormalVolume}
use Rattle.rules.specs.Answers.{is_accepted, number, date}
use Rattle.line_text.specs.Ascii.{ascii}
use Rattle.line_text.specs.Decimal.{decimal, fixed}
use Rattle.line_text.specs.Days.{day_text}
use Rattle.line_kinds.specs.declared.{Kind.Kind}
use Rattle.line_kinds.specs.Kinds.{word}

-- 01: "Number 31 prints `?` as its kind."
abbrev pub shown_kind : Kind → ℕ → Kind
shown_kind k n = cond (eqb n 31) Kind.Unknown k

-- 01: "1 accepted or 0 rejected"; 49 and 48 are the bytes of 1 and 0.
abbrev pub verdict : Bool → ℕ
verdict true = 49
verdict false = 48

-- 01: "a date (e or the deadline, else 00000000)", in front of l. A day off the calendar is written 00000000 too.
abbrev pub date_shown : Option ℕ → List ℕ → List ℕ
date_shown none l = fixed 8 0 l
date_shown (some d) l = day_text d l

-- A `;`, 59, and a line feed, 10, in front of l.
abbrev pub sep : List ℕ → List ℕ
sep l = 59 ∷ l

abbrev pub feed : List ℕ
feed = 10 ∷ []

-- The most bytes that an answer line has; in the code `LONGEST_ANSWER`.
abbrev pub longest_answer : ℕ
longest_answer = 24

-- 01: "Answer line: kind; 1 accepted or 0 rejected; number, 0 if accepted; a date".
unfoldable pub answer_line : Kind → Answer → List ℕ
answer_line k a =
    word (shown_kind k (number a)) ++ sep (verdict (is_accepted a) ∷
    sep (decimal (number a) (sep (date_shown (date a) feed))))

-- 02, F-4: "Each period gains its Nm³ volume in thousandths, the fifth field of its line; a point's Nm³ advance, the
-- fourth of its `total` line": the two volumes that end a line.
abbrev pub volumes_shown : Volume → NormalVolume → List ℕ
volumes_shown v n = sep (decimal v.0 (sep (decimal n.0 feed)))

-- 01: "its periods (point; start; holder; volume)".
unfoldable pub period_line : ℕ → Period → List ℕ
period_line p q = decimal p (sep (day_text q.start (sep (decimal q.holder (volumes_shown q.volume q.normal)))))

-- 01: "and `total`; point; advance".
unfoldable pub total_line : ℕ → Volume → NormalVolume → List ℕ
total_line p v n = ascii "total" ++ sep (decimal p (volumes_shown v n))
