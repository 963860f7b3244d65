-- A failure is answered by the rows before its last, and then by number 30.
use Rattle.rules.specs.declared.{Rejection.Rejection}
use Rattle.basics.proofs.Basics.{◌≡◌, refl, true, Bool, ◌&&◌, List, ◌≤◌, ℕ, zero, suc, arith, ltb, ltb-false, ne_eqb}
use Rattle.dates.specs.Dates.{last_day}
use Rattle.rules.specs.declared.{Action.Action, Answer.Answer, Settings.Settings, View.View}
use Rattle.rules.specs.Answers.{is_accepted}
use Rattle.rules.specs.Effects.{failed}
use Rattle.rules.specs.Rejections.{◌⇒◌, touches, is_full, any_point, first_of, rows, accepted, answer_to}
use Rattle.rules.proofs.Accept.{pass, neither}
use Rattle.rules.proofs.Views.{dated_also}
use Rattle.point_answers.specs.Between.{after, failure_rows, answer_apart}
use Rattle.point_answers.proofs.Folded.{all_refuse, kept_first, last_row}

module _ (S : Settings) (day : ℕ) (u : List Bool) (t s : ℕ) where
  -- apart from the points: a supplier's number is not 0, so none that is not enrolled is touched
  pub failure_apart : answer_apart S day u t (Action.Failure s) ≡ first_of (failure_rows S day u t s) Answer.Accepted
  unfolding answer_apart answer_to rows accepted failure_rows first_of any_point
  failure_apart = go s
    where
      go : (s : ℕ) → answer_apart S day u t (Action.Failure s) ≡ first_of (failure_rows S day u t s) Answer.Accepted
      go zero = refl
      go (suc s) = rw (ne_eqb 0 (suc s) (omega arith))

  pub failure_answer_lem : (v : ℕ → View) → answer_to S day u t (Action.Failure s) v
      ≡ after (answer_apart S day u t (Action.Failure s))
      (any_point 1 32 (λ p. touches s (v p).fields && is_full (v p) (failed S t s (v p).fields)) ⇒ Rejection.PeriodsFull)
  unfolding answer_to rows accepted failure_rows all_refuse
  failure_answer_lem v = rw failure_apart (last_row (failure_rows S day u t s) _ Answer.Accepted refl refl)

  module _ (ok : is_accepted (answer_apart S day u t (Action.Failure s)) ≡ true) where
    first : is_accepted (first_of (failure_rows S day u t s) Answer.Accepted) ≡ true
    first = rw failure_apart at ok

    -- what those rows have seen to
    pub failure_fits : (1 ≤ s) × (s ≤ 99) × (t ≤ last_day)
    unfolding failure_rows rows
    failure_fits = let k = pass _ _ _ _ first in let n = neither (ltb s 1) (ltb 99 s) k.0 in
        (ltb-false s 1 n.0, ltb-false 99 s n.1, (dated_also day t _ _ _ k.1).1.calendar)

    pub failure_accepted : answer_apart S day u t (Action.Failure s) ≡ Answer.Accepted
    unfolding failure_rows rows all_refuse
    failure_accepted = rw failure_apart (kept_first (failure_rows S day u t s) Answer.Accepted refl first)
