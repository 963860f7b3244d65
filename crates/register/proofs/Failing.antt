-- A failure on the whole register: the rows before number 30, number 30 by the points, and the register after it.
use Rattle.rules.specs.declared.{Rejection.Rejection}
use Rattle.basics.proofs.Basics.{◌≡◌, refl, sym, ◌∙◌, ap, fun_ext, true, false, Bool, ◌&&◌, List, map, ◌≤◌, ℕ, ◌+◌, ◌<◌}
use Rattle.basics.proofs.Basics.{suc, zero, arith, set}
use Rattle.dates.specs.Dates.{last_day}
use Rattle.rules.specs.declared.{Point.Point, Register.Register, View.View, Settings.Settings, Answer.Answer, Action.Action}
use Rattle.rules.specs.Answers.{is_accepted}
use Rattle.rules.specs.Effects.{failed}
use Rattle.rules.specs.Rejections.{◌⇒◌, touches, is_full, any_point, shown, answer}
use Rattle.rules.specs.Pinned.Register.{view, point_at, register, advanced, says, failed_point, done, outcome, applied, on}
use Rattle.rules.proofs.Views.{shown_in}
use Rattle.point_answers.specs.Between.{after, answer_apart}
use Rattle.point_answers.proofs.Failures.{failure_answer_lem, failure_fits}
use Rattle.point_effects.proofs.Accepted.{failed_noted}
use Rattle.register.specs.Between.Calls.{brought_up, failure_fills, failed_on}
use Rattle.register.proofs.AtPoint.{advanced_on, advanced_settings}

any_ext : (n p : ℕ) (f g : ℕ → Bool) → ((q : ℕ) → p ≤ q → q < p + n → f q ≡ g q) → any_point p n f ≡ any_point p n g
unfolding any_point
any_ext zero p f g h = refl
any_ext (suc n) p f g h =
    rw (h p (omega arith) (omega arith), any_ext n (suc p) f g (λ q lo hi. h q (omega arith) (omega arith)))

pub failed_on_is : (S : Settings) (t s : ℕ) → t ≤ last_day → failed_on S t s ≡ failed_point S t s
unfolding failed_on failed_point
failed_on_is S t s h = fun_ext (λ g. failed_noted S t s g.fields g.history h)

module _ (t s : ℕ) (r : Register) where
  abbrev every : ℕ → View
  every q = view t (point_at q (advanced t r).points)

  -- number 30 by the points themselves
  abbrev pub filled : Bool
  filled = any_point 1 32 (λ q. failure_fills r.settings t s (point_at q (advanced t r).points))

  any_fills : any_point 1 32 (λ q. touches s (shown every q).fields && is_full (shown every q) (failed r.settings t s (shown every q).fields))
      ≡ filled
  unfolding failure_fills
  any_fills = any_ext 32 1 _ _ (λ q lo hi. rw (shown_in every q lo (omega arith)))

  abbrev first : Answer
  first = answer_apart r.settings r.day r.contracts t (Action.Failure s)

  says_first : says r (on t (Action.Failure s)) ≡ after first (filled ⇒ Rejection.PeriodsFull)
  unfolding says answer
  says_first = rw (failure_answer_lem r.settings r.day r.contracts t s (shown every), any_fills)

  pub failure_refused : (a : Answer) → a ≡ first → is_accepted a ≡ false → outcome a r ≡ applied r (on t (Action.Failure s))
  unfolding applied after
  failure_refused a e z = let w : is_accepted first ≡ false = rw e at z in rw (says_first, w, e, w)

  module _ (a : Answer) (e : a ≡ first) (z : is_accepted a ≡ true) (n : Register) (m : n ≡ brought_up t r) where
    ok : is_accepted first ≡ true
    ok = rw e at z

    pub failure_in : (1 ≤ s) × (s ≤ 99) × (t ≤ last_day)
    failure_in = failure_fits r.settings r.day r.contracts t s ok

    up : n ≡ advanced t r
    up = m ∙ advanced_on t r failure_in.2

    module _ (b : Bool) (k : (S : Settings) → b ≡ any_point 1 32 (λ p. failure_fills S t s (point_at p n.points))) where
      filled_is : b ≡ filled
      filled_is = k r.settings ∙ ap (λ (x : Register). any_point 1 32 (λ p. failure_fills r.settings t s (point_at p x.points))) up

      pub failure_full : b ≡ true → outcome (Answer.Refused Rejection.PeriodsFull) r ≡ applied r (on t (Action.Failure s))
      unfolding applied after
      failure_full y = let w : filled ≡ true = sym filled_is ∙ y in rw (says_first, ok, w)

      pub failure_done : b ≡ false → (ps : List Point) → ps ≡ map (failed_on r.settings t s) n.points
          → outcome a (register n.settings n.day (set n.contracts s false) ps) ≡ applied r (on t (Action.Failure s))
      unfolding applied after done
      failure_done y ps l = let w : filled ≡ false = sym filled_is ∙ y in
          rw (l, up, failed_on_is r.settings t s failure_in.2, says_first, w, ok, advanced_settings t r, e, ok)
