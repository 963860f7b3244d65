-- The answer told from the tables is the desk's.
use Rattle.rules.specs.declared.{Rejection.Rejection}
use Rattle.basics.proofs.Basics.{◌≡◌, refl, sym, ◌∙◌, ap, true, false, Bool, cond, ◌&&◌, List, [], ◌∷◌}
use Rattle.basics.proofs.Basics.{map, ◌≤◌, ℕ, ◌-◌, ◌+◌, ◌<◌, suc, zero, ◌*◌, min, dec_le, arith, eqb, length, get_or}
use Rattle.basics.proofs.Basics.{lt-ltb}
use mathlib.Core.Logic.{inl}
use Rattle.dates.specs.Dates.{last_day}
use Rattle.rules.specs.declared.{Fields.Fields, Period.Period, Point.Point, Settings.Settings, Register.Register, View.View}
use Rattle.rules.specs.declared.{Action.Action, PointAction.PointAction, Answer.Answer, Call.Call}
use Rattle.rules.specs.Answers.{is_accepted}
use Rattle.rules.specs.Fields.{blank}
use Rattle.rules.specs.Rejections.{◌⇒◌, not_point, shown, answer_to, answer}
use Rattle.rules.specs.Rejections.{rows, accepted}
use Rattle.rules.specs.Pinned.Register.{no_point, no_period, catch_up, view, register, point_at, advanced, says, applied}
use Rattle.rules.proofs.Views.{shown_in, answer_ext, answer_off, answer_none, answer_at_lem}
use Rattle.point_answers.specs.Between.{answer_at, after, answer_apart}
use Rattle.point_answers.proofs.Apart.{contract_apart, day_apart}
use Rattle.point_answers.proofs.Failures.{failure_answer_lem, failure_accepted}
use Rattle.point_effects.specs.Between.{caught_up, ruling_at}
use Rattle.register.proofs.Advanced.{caught_up_on}
use Rattle.line_messages.specs.declared.{Message.Message}
use Rattle.input_tables.specs.Between.Tables.{joined, row_at, points_of, Sized}
use Rattle.input_tables.proofs.Points.{row_length, row_get, points_get, points_length}
use Rattle.input_desk.specs.Pinned.Desk.{desk, unreadable, answer_of}
use Rattle.input_quiet.specs.Between.Quiet.{seen, view_on}
use Rattle.input_quiet.proofs.SeenOn.{seen_on}
use Rattle.input_point.specs.declared.{answers.Said.Said}
use Rattle.input_point.specs.Between.Answers.{place_in, place_of, apart_said, call_said, said_by, newest_start, shows}
use Rattle.input_point.specs.Between.Answers.{failure_answer, settled}
use Rattle.input_point.proofs.Places.{point_in}

map_at : (f : Point → Point) (ps : List Point) (i : ℕ) → i < length ps → get_or (map f ps) i no_point ≡ f (get_or ps i no_point)
map_at f [] i h = absurd (omega arith)
map_at f (g ∷ ps) zero h = refl
map_at f (g ∷ ps) (suc i) h = map_at f ps i (omega arith)

-- Number 30, after the rows before it.
failure_by : (fails : ℕ → ℕ → Answer) (t s : ℕ) (a : Answer) (x : Bool) → cond x (Answer.Refused Rejection.PeriodsFull) Answer.Accepted ≡ fails t s →
    (is_accepted a ≡ true → a ≡ Answer.Accepted) → after a (x ⇒ Rejection.PeriodsFull) ≡ settled fails (cond (is_accepted a) (Said.Fails t s) (Said.Known a))
unfolding after
failure_by fails t s a x h z = go (is_accepted a) refl
  where
    last : (y : Bool) → a ≡ Answer.Accepted → cond y (Answer.Refused Rejection.PeriodsFull) a ≡ cond y (Answer.Refused Rejection.PeriodsFull) Answer.Accepted
    last true e = refl
    last false e = e

    go : (b : Bool) → is_accepted a ≡ b → cond (b && x) (Answer.Refused Rejection.PeriodsFull) a ≡ settled fails (cond b (Said.Fails t s) (Said.Known a))
    go true e = last x (z e) ∙ h
    go false e = refl

module _ (S : Settings) (day : ℕ) (u : List Bool) (fs : List Fields) (ns : List ℕ) (ss : List Period) (sized : Sized fs ns ss) where
  abbrev r : Register
  r = register S day u (points_of fs ns ss)

  abbrev w : ℕ → ℕ → View
  w t = shows S day t fs ns ss

  brought : (t i : ℕ) → t ≤ last_day → i < 32 →
      get_or (advanced t r).points i no_point ≡ cond (eqb day t) (get_or r.points i no_point) (caught_up S t (get_or r.points i no_point))
  unfolding advanced
  brought t i h l = rw (caught_up_on S t h) (go (eqb day t))
    where
      go : (b : Bool) → get_or (cond b r (register S t u (map (catch_up S t) r.points))).points i no_point
          ≡ cond b (get_or r.points i no_point) (catch_up S t (get_or r.points i no_point))
      go true = refl
      go false = map_at (catch_up S t) r.points i (omega (arith, points_length fs ns ss 32 sized.fields sized.counts))

  -- the points that a call sees, brought up to today
  seen_at : (t p : ℕ) → t ≤ last_day → 1 ≤ p → p ≤ 32 → view t (point_at p (advanced t r).points) ≡ w t p
  seen_at t p h lo hi = let i : ℕ = p - 1 in let l : i < 32 = omega arith in
      let is = points_get no_point blank 0 fs ns ss i (omega (arith, sized.fields)) (omega (arith, sized.counts)) in
      let f = get_or fs i blank in let n = get_or ns i 0 in let len = row_length i ss (omega (arith, sized.slots)) in
      let at = row_get i (min n 24 - 1) ss no_period (omega arith) in rw (brought t i h l, is)
      (seen_on S t day (joined f n (row_at i ss)) (omega (arith, len)) ∙
      ap (λ (q : Period). view_on S day t (seen f (min n 24) q.start)) at)

  pub says_shown : (c : Call) → says r c ≡ answer S day u c (w c.today)
  unfolding says answer
  says_shown c = elim (dec_le c.today last_day) [
    | yes h ↦ answer_ext S day u c _ (w c.today) (λ p lo hi. seen_at c.today p h lo hi)
    | no h ↦ answer_off S day u c.today _ (shown (w c.today)) c.action (inl (lt-ltb last_day c.today (omega arith)))
  ]

  -- what the tables have at the place of the point that a call names
  abbrev here : ℕ → ℕ → View
  here t i = view_on S day t (seen (get_or fs i blank) (min (get_or ns i 0) 24) (newest_start i (get_or ns i 0) ss))

  module _ (ready : Bool) where
    pub at_settled : (t p : ℕ) (a : PointAction) (i : ℕ) → i ≡ place_in (Action.At p a) →
        answer S day u (record { today = t; action = Action.At p a }) (w t)
        ≡ (ruling_at S day u t p a (here t i)).answer
    unfolding answer ruling_at answer_at answer_to rows accepted
    at_settled t p a i e = go (not_point p) refl e
      where
        go : (b : Bool) → not_point p ≡ b → i ≡ cond b 0 (p - 1) →
            answer_to S day u t (Action.At p a) (shown (w t)) ≡ (ruling_at S day u t p a (here t i)).answer
        go true q k = answer_none S day u t p a (shown (w t)) (λ x. here t i) q
        go false q k = let h = point_in p q in
            answer_at_lem S day u t p a (shown (w t)) (λ x. here t i) (shown_in (w t) p h.0 h.1 ∙ rw k)

    failure : (t s : ℕ) →
        answer_to S day u t (Action.Failure s) (shown (w t)) ≡ settled (failure_answer S day fs ns ss) (apart_said S day u t (Action.Failure s))
    unfolding apart_said failure_answer
    failure t s = failure_answer_lem S day u t s (shown (w t)) ∙
        failure_by (failure_answer S day fs ns ss) t s (answer_apart S day u t (Action.Failure s)) _ refl (failure_accepted S day u t s)

    call_settled : (c : Call) (i : ℕ) → i ≡ place_in c.action →
        answer S day u c (w c.today) ≡ settled (failure_answer S day fs ns ss)
        (call_said S day u c.today c.action (get_or fs i blank) (get_or ns i 0) (newest_start i (get_or ns i 0) ss))
    unfolding answer call_said apart_said
    call_settled c i e = go c.today c.action e
      where
        go : (t : ℕ) (x : Action) → i ≡ place_in x →
            answer_to S day u t x (shown (w t))
            ≡ settled (failure_answer S day fs ns ss) (call_said S day u t x (get_or fs i blank) (get_or ns i 0) (newest_start i (get_or ns i 0) ss))
        go t (Action.Contract s) k = sym (contract_apart S day u t (shown (w t)) s)
        go t (Action.Failure s) k = failure t s
        go t (Action.At p a) k = at_settled t p a i k
        go t Action.Day k = sym (day_apart S day u t (shown (w t)))

    pub answer_settled : (m : Message) (i : ℕ) → i ≡ place_of m →
        answer_of (desk ready r) m
        ≡ settled (failure_answer S day fs ns ss) (said_by S day u ready m (get_or fs i blank) (get_or ns i 0) (newest_start i (get_or ns i 0) ss))
    unfolding answer_of said_by place_of applied
    answer_settled (Message.Open o) i e = refl
    answer_settled (Message.Ask c) i e = go ready
      where
        go : (b : Bool) → cond b (says r c) unreadable ≡ settled (failure_answer S day fs ns ss)
            (cond b (call_said S day u c.today c.action (get_or fs i blank) (get_or ns i 0) (newest_start i (get_or ns i 0) ss)) (Said.Known unreadable))
        go true = says_shown c ∙ call_settled c i e
        go false = refl
    answer_settled Message.Unreadable i e = refl

-- What the loop over the points looks at is what point i + 1 shows.
pub shown_next : (S : Settings) (day t : ℕ) (fs : List Fields) (ns : List ℕ) (ss : List Period) (i k : ℕ) (v : View) → i < 32 →
    k ≡ min (get_or ns i 0) 24 - 1 →
    v ≡ view_on S day t (seen (get_or fs i blank) (min (get_or ns i 0) 24) (get_or ss (24 * i + k) no_period).start) →
    shown (shows S day t fs ns ss) (i + 1) ≡ v
shown_next S day t fs ns ss i k v h hk e = let z : i + 1 - 1 ≡ i = omega arith in
    shown_in (shows S day t fs ns ss) (i + 1) (omega arith) (omega arith) ∙ rw (z, e, hk)
