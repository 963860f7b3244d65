-- The lines that answer questions, each with its line feed: `ok;` and the values, or `refused;` and the number.
-- Definitions only.
use Rattle.std.specs.Prelude.{ℕ, List, [], ◌∷◌, ◌++◌, Option, Some, None, Result, Ok, Err}
use Rattle.rules.specs.declared.{NormalVolume.NormalVolume, Period.Period, Register.Register, Volume.Volume}
use Rattle.questions.specs.declared.{HolderAnswer.HolderAnswer, Advance.Advance}
use Rattle.questions.specs.Pinned.Questions.{holder_answer, period_answer, advance_answer}
use Rattle.questions.specs.Pinned.Questions.{held_number, period_number, advance_number}
use Rattle.questions_supplier.specs.declared.{OwnPeriod.OwnPeriod, ViewRefusal.ViewRefusal}
use Rattle.questions_supplier.specs.Pinned.Own.{own_answer, refusal_number}
use Rattle.working_count.specs.Question.{working_number}
use Rattle.line_text.specs.Ascii.{ascii}
use Rattle.line_text.specs.Decimal.{decimal}
use Rattle.line_text.specs.Days.{day_text}
use Rattle.ask_words.specs.declared.{Question.Question}

-- A number and the byte behind it; 59 is `;`, 10 a line feed.
abbrev pub field : ℕ → ℕ → List ℕ
field v end = decimal v (end ∷ [])

-- 01: "dates aaaammjj". A day's date and the byte behind it; 00000000 for a day off the calendar, as in the closing
-- lines.
abbrev pub date_field : ℕ → ℕ → List ℕ
date_field d end = day_text d (end ∷ [])

-- Where a period ends, `-` where it has no end, and the byte behind it.
abbrev pub end_field : Option ℕ → ℕ → List ℕ
end_field None end = ascii "-" ++ (end ∷ [])
end_field (Some d) end = date_field d end

abbrev pub one : List ℕ → ℕ → ℕ → List ℕ
one w v end = w ++ field v end

abbrev pub two : List ℕ → ℕ → ℕ → List ℕ
two w u v = one w u 59 ++ field v 10

-- 02, F-4: "Demand 3 and the questions cover these as they cover the booked ones." The two volumes that end a line.
abbrev pub volumes : Volume → NormalVolume → List ℕ
volumes v n = field v.0 59 ++ field n.0 10

-- 01: "period n of p (start, holder, volume; n from 1 to their count)".
abbrev pub ok_period : ℕ → ℕ → Volume → NormalVolume → List ℕ
ok_period start holder v n = ascii "ok;" ++ (date_field start 59 ++ (field holder 59 ++ volumes v n))

-- 01: "advance of p".
abbrev pub ok_advance : Volume → NormalVolume → List ℕ
ok_advance v n = ascii "ok;" ++ volumes v n

-- 02, F-6: "start, end if any (the next period's start), volumes".
abbrev pub ok_view : OwnPeriod → List ℕ
ok_view q = ascii "ok;" ++ (date_field q.start 59 ++ (end_field q.end 59 ++ volumes q.volume q.normal))

-- `refused;` and the number.
abbrev pub refusal : ℕ → List ℕ
refusal n = one (ascii "refused;") n 10

-- 01: "A question off its range, or on a point not enrolled, gives 22." The number is that of the answer.
-- 02, F-1: the holder question "shall .. report how many periods it looked at ..; a refusal reports 0".
abbrev pub held_reply : Option ℕ → ℕ → List ℕ
held_reply (Some s) n = two (ascii "ok;") s n
held_reply None n = two (ascii "refused;") (held_number None) n

unfoldable pub holder_reply : HolderAnswer → List ℕ
holder_reply a = held_reply a.held a.probes

unfoldable pub period_reply : Option Period → List ℕ
period_reply (Some q) = ok_period q.start q.holder q.volume q.normal
period_reply None = refusal (period_number None)

unfoldable pub advance_reply : Option Advance → List ℕ
advance_reply (Some a) = ok_advance a.volume a.normal
advance_reply None = refusal (advance_number None)

-- 02, F-6: "A supplier off 1 to 99 gives 22. New numbers: 41, not in this supplier's perimeter".
unfoldable pub view_reply : Result OwnPeriod ViewRefusal → List ℕ
view_reply (Ok q) = ok_view q
view_reply (Err e) = refusal (refusal_number e)

-- 02, F-5: the count of working days strictly between two days; "days off the calendar or out of order give 22."
unfoldable pub working_reply : Option ℕ → List ℕ
working_reply (Some n) = one (ascii "ok;") n 10
working_reply None = refusal (working_number None)

-- The line that answers a question to the register.
unfoldable pub reply : Register → Question → List ℕ
reply r (Question.Holder p d) = holder_reply (holder_answer r p d)
reply r (Question.Period p n) = period_reply (period_answer r p n)
reply r (Question.Advance p) = advance_reply (advance_answer r p)
reply r (Question.View s p n) = view_reply (own_answer r s p n)
