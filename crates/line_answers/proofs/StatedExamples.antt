-- Answer lines and closing lines of document 01, and one of each sort beside them.
-- Statements only: `answer_examples` proves them. They stand here and not in specs/, so that a must-fail edit of
-- `total_line` is read and then refused.
use Rattle.rules.specs.declared.{Rejection.Rejection}
use Rattle.std.proofs.Common.{ℕ, ◌≡◌, List, [], ◌∷◌, ◌++◌}
use Rattle.rules.specs.declared.{Answer.Answer}
use Rattle.rules.specs.Pinned.Register.{period}
use Rattle.line_text.specs.Ascii.{ascii}
use Rattle.line_kinds.specs.declared.{Kind.Kind}
use Rattle.line_answers.specs.Answers.{answer_line, period_line, total_line}

abbrev pub ended : List ℕ → List ℕ
ended l = l ++ (10 ∷ [])

-- A total line by its numbers: the point, the wheels' own volume, the normal one.
abbrev pub total : ℕ → ℕ → ℕ → List ℕ
total p v n = total_line p (record { 0 = v }) (record { 0 = n })

pub record AnswerExamples : Type 0 where
  -- 01: "Answer line: kind; 1 accepted or 0 rejected; number, 0 if accepted; a date (e or the deadline, else
  -- 00000000)."
  pub set_accepted : answer_line Kind.Set Answer.Accepted ≡ ended (ascii "set;1;0;00000000")
  pub i_already_served : answer_line Kind.I (Answer.Refused Rejection.AlreadyServed) ≡ ended (ascii "i;0;24;00000000")
  pub request_accepted : answer_line Kind.Demcf (Answer.AcceptedOn 7843) ≡ ended (ascii "demcf;1;0;20210622")
  pub last_resort_under_way : answer_line Kind.Demcf (Answer.Refused (Rejection.LastResortUnderWay 8030)) ≡ ended (ascii "demcf;0;8;20211226")
  -- 01: "Number 31 prints `?` as its kind."
  pub unreadable_line : answer_line Kind.Ctr (Answer.Refused Rejection.UnreadableLine) ≡ ended (ascii "?;0;31;00000000")
  pub number_30 : answer_line Kind.Ctr (Answer.Refused Rejection.PeriodsFull) ≡ ended (ascii "ctr;0;30;00000000")
  -- a day off the calendar, which no answer of the register carries
  pub off_the_calendar : answer_line Kind.Demcf (Answer.AcceptedOn 73049) ≡ ended (ascii "demcf;1;0;00000000")
  -- 01: "its periods (point; start; holder; volume) and `total`; point; advance"
  -- 02, F-4: "in document 01's case .. each volume stands twice"
  pub first_period : period_line 1 (period 7671 0 4000 4000) ≡ ended (ascii "1;20210101;0;4000;4000")
  pub second_period : period_line 1 (period 7674 5 16000 16000) ≡ ended (ascii "1;20210104;5;16000;16000")
  pub total_of_1 : total 1 20000 20000 ≡ ended (ascii "total;1;20000;20000")
  -- two volumes that differ, the wheels' own first
  pub cubic_period : period_line 1 (period 7671 5 2000 1900) ≡ ended (ascii "1;20210101;5;2000;1900")
  pub cubic_total : total 1 2000 1900 ≡ ended (ascii "total;1;2000;1900")
  pub largest_volume : total 32 18446744073709551615 18446744073709551615 ≡
      ended (ascii "total;32;18446744073709551615;18446744073709551615")
