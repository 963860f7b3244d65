-- What those who may only ask see of a pending request: nothing, so that a new supplier's name reaches them only once
-- the switch has taken effect. proofs/Seen.antt proves the statements. Definitions only.
use Rattle.std.specs.Prelude.{◌≡◌, ℕ, cond, map}
use Rattle.rules.specs.declared.{Point.Point, Register.Register, Pending.Pending, Action.Action}
use Rattle.rules.specs.declared.{PointAction.PointAction}
use Rattle.rules.specs.Fields.{with_pending}
use Rattle.rules.specs.Answers.{is_accepted}
use Rattle.rules.specs.Pinned.Register.{register, applied, on}
use Rattle.questions.specs.Pinned.Questions.{holder_answer, period_answer, advance_answer}

-- A point without its pending request, and a register without any.
abbrev pub not_asked : Point → Point
not_asked g = record { fields = with_pending g.fields Pending.Nothing; history = g.history }

unfoldable pub without_pending : Register → Register
without_pending r = register r.settings r.day r.contracts (map not_asked r.points)

-- Two registers answer every question alike.
pub record SameAnswers (r r' : Register) : Type 0 where
  pub holder : (p d : ℕ) → holder_answer r p d ≡ holder_answer r' p d
  pub period : (p n : ℕ) → period_answer r p n ≡ period_answer r' p n
  pub advance : (p : ℕ) → advance_answer r p ≡ advance_answer r' p

-- Two registers that differ in pending requests only answer every question alike.
abbrev pub PendingUnseen : Type 0
PendingUnseen = (r r' : Register) → without_pending r ≡ without_pending r' → SameAnswers r r'

-- The register that a call which does nothing else on its day would leave: brought up to that day where it is
-- accepted, else as it was.
abbrev pub only_day : Register → ℕ → Action → Register
only_day r t a = cond (is_accepted (applied r (on t a)).answer) (applied r (on t Action.Day)).register r

-- So a request, on whatever day, changes no answer that the day itself does not change; nor does its cancel.
pub record RequestUnseen : Type 0 where
  pub request : (r : Register) (t p s k d : ℕ)
      → SameAnswers (applied r (on t (Action.At p (PointAction.Request s k d)))).register
      (only_day r t (Action.At p (PointAction.Request s k d)))
  pub cancel : (r : Register) (t p s : ℕ) → SameAnswers
      (applied r (on t (Action.At p (PointAction.Cancel s)))).register
      (only_day r t (Action.At p (PointAction.Cancel s)))
