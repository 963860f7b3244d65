-- Between crates: the answers to calls by what the code looks at. Definitions only.
use Rattle.std.specs.Prelude.{◌≡◌, Bool, true, false, cond, ◌&&◌, List, ℕ, take, Result, Ok, Err}
use Rattle.rules.specs.declared.{Action.Action, Answer.Answer, PointAction.PointAction, Rejection.Rejection, Settings.Settings}
use Rattle.rules.specs.declared.{View.View}
use Rattle.rules.specs.Answers.{is_accepted}
use Rattle.rules.specs.Effects.{accepted_by, effect_of, at_point}
use Rattle.rules.specs.Rejections.{Row, blank_view, first_of, rows, rows_at, answer_to}
use Rattle.point_answers.specs.declared.{Situation.Situation}

-- `answer_to`, by what the checks see of the point alone.
unfoldable pub answer_at : Settings → ℕ → List Bool → ℕ → ℕ → PointAction → View → Answer
answer_at S day u t p a v = first_of (rows_at S day u t p a v) (accepted_by (effect_of S t a v.fields))

abbrev pub answer_in : Situation → PointAction → Answer
answer_in x a = answer_at x.settings x.day x.contracts x.today x.point a x.view

-- A row was asked: it does not apply, or it refuses.
abbrev pub Asked : Row → Result (Unit {0}) Rejection → Type 0
Asked r (Ok u) = r.applies ≡ false
Asked r (Err e) = (r.applies ≡ true) × (r.gives ≡ Answer.Refused e)

-- The answer that rows give; of a request's, with the day that they give.
abbrev pub answered : Result (Unit {0}) Rejection → Answer
answered (Ok u) = Answer.Accepted
answered (Err r) = Answer.Refused r

abbrev pub answered_on : Result ℕ Rejection → Answer
answered_on (Ok e) = Answer.AcceptedOn e
answered_on (Err r) = Answer.Refused r

-- The answer so far, and one row more: the first refusal stays.
unfoldable pub after : Answer → Row → Answer
after a r = cond (is_accepted a && r.applies) r.gives a

-- The rows of a failure before its last, number 30.
unfoldable pub failure_rows : Settings → ℕ → List Bool → ℕ → ℕ → List Row
failure_rows S day u t s = take 5 (rows S day u t (Action.Failure s) (λ p. blank_view))

-- The answer by the rows that look at no point, as if none were enrolled. A call that names a point has no such answer:
-- nothing is refused yet.
unfoldable pub answer_apart : Settings → ℕ → List Bool → ℕ → Action → Answer
answer_apart S day u t a = at_point (answer_to S day u t a (λ p. blank_view)) (λ p b. Answer.Accepted) a
