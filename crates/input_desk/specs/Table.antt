-- 01, "The day book": "An answer is accepted or the number from the rejection codes, with the date it carries". Every
-- answer is one of the table's. Definitions only: proofs/Tabled proves it.
use Rattle.std.specs.Prelude.{◌≡◌, Bool, true, false, cond, not, ◌&&◌, ◌||◌, ℕ, eqb, leb}
use Rattle.std.proofs.Math.Option.{Option, none, some}
use Rattle.rules.specs.declared.{Answer.Answer}
use Rattle.rules.specs.Answers.{is_accepted, number, date}
use Rattle.line_messages.specs.declared.{Message.Message}
use Rattle.input_desk.specs.declared.{Desk.Desk}
use Rattle.input_desk.specs.Pinned.Desk.{answer_of}

-- The numbers of "Rejection codes"; 02, F-4: "New numbers: 40".
abbrev pub is_number : ℕ → Bool
is_number n = (leb 1 n && leb n 8) || (leb 20 n && leb n 31) || eqb n 40

abbrev pub carries_day : Option ℕ → Bool
carries_day none = false
carries_day (some d) = true

-- An answer that the table knows: accepted, which has number 0; or refused with one of its numbers, with a day where
-- that is 8 and none where it is another.
abbrev pub is_tabled : Answer → Bool
is_tabled a =
    cond (is_accepted a) (eqb (number a) 0)
    (is_number (number a) && cond (eqb (number a) 8) (carries_day (date a)) (not (carries_day (date a))))

abbrev pub EveryAnswerTabled : Type 0
EveryAnswerTabled = (d : Desk) (m : Message) → is_tabled (answer_of d m) ≡ true
