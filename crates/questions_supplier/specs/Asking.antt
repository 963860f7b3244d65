-- 02, F-6: after any list of calls each supplier's view is the day book's. A consequence of demand 3, over the
-- definition that the code's `own_period_of` is proved equal to. proofs/Asking.antt proves it. Definitions only.
use Rattle.std.specs.Prelude.{◌≡◌, Bool, true, cond, ◌&&◌, List, [], ◌∷◌, ℕ, ◌≤◌, eqb, leb, ltb, length, Option, Some, None}
use Rattle.std.proofs.Math.Option.{Option as Told, none, some}
use Rattle.rules.specs.declared.{Opening.Opening, Call.Call}
use Rattle.rules.specs.Answers.{is_accepted}
use Rattle.rules.specs.Rejections.{opening_answer}
use Rattle.rules.specs.DayBook.{opened, enrolments}
use Rattle.rules.specs.Periods.{holder_on, book, register}
use Rattle.questions_supplier.specs.declared.{OwnPeriod.OwnPeriod}
use Rattle.questions_supplier.specs.Pinned.Own.{own_periods, own_answer, own_number, own_told}
use Rattle.questions_supplier.specs.ByBook.{book_own, book_own_period, perimeter_number}

-- The periods of a list that a day lies in: from their start on, and before their end.
abbrev pub is_before : ℕ → Option ℕ → Bool
is_before d None = true
is_before d (Some e) = ltb d e

unfoldable pub own_on : ℕ → List OwnPeriod → List OwnPeriod
own_on d [] = []
own_on d (q ∷ qs) = cond (leb q.start d && is_before d q.end) (q ∷ own_on d qs) (own_on d qs)

-- How often a day is supplier s's, where this is its holder: once or not at all.
abbrev pub once : ℕ → Told ℕ → ℕ
once s none = 0
once s (some h) = cond (eqb h s) 1 0

-- The question after a list of calls, of any supplier, point and number.
pub record OwnAsked (o : Opening) (calls : List Call) : Type 0 where
  -- the whole list: the marked days of s, each with the next marked day and the sums of its days' volumes
  pub periods : (s p : ℕ) → own_periods (register o calls) s p ≡ book_own o calls s p
  -- what is told, and the number
  pub period : (s p n : ℕ) → own_told (own_answer (register o calls) s p n) ≡ book_own_period o calls s p n
  pub number : (s p n : ℕ)
      → own_number (own_answer (register o calls) s p n) ≡ perimeter_number s (book_own_period o calls s p n)
  -- no gas day is claimed twice, and none by nobody: from enrolment to the register's day each lies in exactly one
  -- period of its holder's view, by the day book, and in none of anyone else's
  pub claimed : (s p e d : ℕ) → 1 ≤ p → p ≤ 32 → enrolments (opened o) calls p ≡ e ∷ [] → e ≤ d
      → d ≤ (register o calls).day
      → length (own_on d (own_periods (register o calls) s p)) ≡ once s (holder_on d ((book o calls).page p).cells)

-- The only hypothesis is that the opening is accepted.
abbrev pub OwnAsking : Type 0
OwnAsking = (o : Opening) → is_accepted (opening_answer o) ≡ true → (calls : List Call) → OwnAsked o calls
