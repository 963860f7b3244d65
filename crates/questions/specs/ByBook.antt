-- 01, "Volumes": the questions by the day book and the list alone, as functions of the opening and the calls; none
-- where a question is off its range or on a point not enrolled. Nothing here looks at the register. Definitions only.
--
-- book_periods                            the periods of a point: its marked cells, each with the sums of its days' volumes
-- book_holder, book_period, book_advance  what the three questions tell
-- book_probes                             how many periods the holder question reports
-- asked_number                            the number that goes with it
use Rattle.std.specs.Prelude.{ℕ, zero, suc, ◌-◌, true, false, cond, ◌&&◌, ◌||◌, List, [], ◌∷◌, ◌==◌, nat_le}
use Rattle.std.proofs.Math.Option.{Option, none, some}
use Rattle.rules.specs.declared.{Period.Period, Opening.Opening, Call.Call}
use Rattle.rules.specs.Volumes.{volume, normal, registered, registered_normal}
use Rattle.rules.specs.Rejections.{not_point}
use Rattle.rules.specs.Pinned.Register.{period}
use Rattle.rules.specs.DayBook.{Cell, cell, opened, readings, enrolments}
use Rattle.rules.specs.Periods.{marked_days, holder_on, sum_days, book}
use Rattle.questions.specs.declared.{Advance.Advance}
use Rattle.questions.specs.Pinned.Questions.{advances}
use Rattle.questions.specs.Latest.{later_than, probes_for}

-- "The register's periods are the marked cells: each starts at one and runs to the next, the last without end." The
-- cells stand newest first; the next period starts on day `end`, and l are the later periods. "A period's booked
-- volume is the sum over its days." 02, F-4: "Each period gains its Nm³ volume in thousandths".
unfoldable pub periods_in : (ℕ → ℕ) → (ℕ → ℕ) → ℕ → List Cell → List Period → List Period
periods_in vol nor end [] l = l
periods_in vol nor end (cell d h true ∷ cs) l =
    periods_in vol nor d cs (period d h (sum_days vol d (end - d)) (sum_days nor d (end - d)) ∷ l)
periods_in vol nor end (cell d h false ∷ cs) l = periods_in vol nor end cs l

-- The n-th of a list, counted from 0.
unfoldable pub nth : {A : Type 0} → ℕ → List A → Option A
nth n [] = none
nth zero (q ∷ qs) = some q
nth (suc n) (q ∷ qs) = nth n qs

abbrev pub asked_number : {A : Type 0} → Option A → ℕ
asked_number none = 22
asked_number (some x) = 0

-- A point that was enrolled on a day; no point is enrolled twice (Demand3).
abbrev pub since_enrolment : {A : Type 0} → List ℕ → (ℕ → Option A) → Option A
since_enrolment [] f = none
since_enrolment (e ∷ es) f = f e

module _ (o : Opening) (calls : List Call) where
  unfoldable pub book_periods : ℕ → List Period
  book_periods p =
      periods_in (volume (readings (opened o) calls p)) (normal (readings (opened o) calls p))
      (suc (book o calls).day) ((book o calls).page p).cells []

  -- "holder of p on day d (enrolment to register's day)"
  unfoldable pub book_holder : ℕ → ℕ → Option ℕ
  book_holder p d =
      cond (not_point p) none
      (since_enrolment (enrolments (opened o) calls p)
      (λ e. cond (nat_le e d && nat_le d (book o calls).day) (holder_on d ((book o calls).page p).cells) none))

  -- 02, F-1: "That number is the count of periods starting after the day, plus one; a refusal reports 0." The periods
  -- start on the marked days.
  unfoldable pub book_probes : ℕ → ℕ → ℕ
  book_probes p d = probes_for (book_holder p d) (later_than d (marked_days ((book o calls).page p).cells []))

  -- "period n of p (start, holder, volume; n from 1 to their count)"
  unfoldable pub book_period : ℕ → ℕ → Option Period
  book_period p n = cond (not_point p || n == 0) none (nth (n - 1) (book_periods p))

  -- "advance of p": "the sum of V × U over the accepted readings and meter changes of the list that name it"; 02, F-4:
  -- "a point's Nm³ advance .. sums its readings' converted totals"
  unfoldable pub book_advance : ℕ → Option Advance
  book_advance p =
      cond (not_point p) none
      (since_enrolment (enrolments (opened o) calls p)
      (λ e. some
      (advances (registered (readings (opened o) calls p)) (registered_normal (readings (opened o) calls p)))))
