-- The questions after any list of calls: what they answer is the day book's. A consequence of demand 3, over the
-- definitions that the code's `holder_of`, `period_of` and `advance_of` are proved equal to. proofs/Asking.antt proves
-- it. Definitions only.
use Rattle.std.specs.Prelude.{◌≡◌, ℕ, ◌≤◌, true, List, [], ◌∷◌}
use Rattle.rules.specs.declared.{Opening.Opening, Call.Call}
use Rattle.rules.specs.Answers.{is_accepted}
use Rattle.questions.specs.Pinned.Questions.{holder_number, holder_told, period_number, period_told}
use Rattle.questions.specs.Pinned.Questions.{advance_number, advance_told}
use Rattle.rules.specs.Rejections.{opening_answer}
use Rattle.questions.specs.Pinned.Questions.{holder_answer, period_answer, advance_answer}
use Rattle.rules.specs.DayBook.{opened, enrolments}
use Rattle.rules.specs.Periods.{register}
use Rattle.questions.specs.Seen.{PendingUnseen, RequestUnseen}
use Rattle.questions.specs.ByBook.{asked_number, book_holder, book_probes, book_period, book_advance}
use Rattle.questions.specs.Latest.{LatestFirst}

-- Every question after a list of calls, of any point, day and number: what it tells and its number are the day book's.
pub record Asked (o : Opening) (calls : List Call) : Type 0 where
  pub holder : (p d : ℕ) → holder_told (holder_answer (register o calls) p d) ≡ book_holder o calls p d
  pub holder_number_lem : (p d : ℕ)
      → holder_number (holder_answer (register o calls) p d) ≡ asked_number (book_holder o calls p d)
  pub probes : (p d : ℕ) → (holder_answer (register o calls) p d).probes ≡ book_probes o calls p d
  pub period : (p n : ℕ) → period_told (period_answer (register o calls) p n) ≡ book_period o calls p n
  pub period_number_lem : (p n : ℕ)
      → period_number (period_answer (register o calls) p n) ≡ asked_number (book_period o calls p n)
  pub advance : (p : ℕ) → advance_told (advance_answer (register o calls) p) ≡ book_advance o calls p
  pub advance_number_lem : (p : ℕ)
      → advance_number (advance_answer (register o calls) p) ≡ asked_number (book_advance o calls p)
  -- "(enrolment to register's day)": each of these days has its holder
  pub answered : (p e d : ℕ) → 1 ≤ p → p ≤ 32 → enrolments (opened o) calls p ≡ e ∷ [] → e ≤ d
      → d ≤ (register o calls).day → holder_number (holder_answer (register o calls) p d) ≡ 0

pub record Asking : Type 0 where
  -- The only hypothesis is that the opening is accepted.
  pub agree : (o : Opening) → is_accepted (opening_answer o) ≡ true → (calls : List Call) → Asked o calls
  -- the holder question begins at the newest period
  pub latest : LatestFirst
  -- no pending request is seen through the questions, and a request or its cancel changes no answer
  pub unseen : PendingUnseen
  pub requests : RequestUnseen
