-- What an answer looks at, and what an accepted call has passed.
use Rattle.basics.proofs.Basics.{◌≡◌, refl, fun_ext, true, false, Bool, cond, ◌||◌, List, ◌∷◌, ◌≤◌, ℕ, ltb, le-ltb}
use Rattle.basics.proofs.Basics.{ltb-false}
use mathlib.Core.Logic.{◌⊎◌, inl, inr, ⊎_elim}
use Rattle.dates.specs.Dates.{last_day}
use Rattle.rules.specs.declared.{Settings.Settings, Call.Call, Action.Action, PointAction.PointAction}
use Rattle.rules.specs.Answers.{is_accepted}
use Rattle.rules.specs.declared.{View.View}
use Rattle.rules.specs.declared.{Answer.Answer, Rejection.Rejection}
use Rattle.rules.specs.Rejections.{Row, ◌⇒◌, blank_view, first_of, not_point, is_past, runs_back, rows_at, rows, accepted, answer_to, shown, answer}
use Rattle.rules.proofs.Accept.{pass, neither}

-- The checks look at points 1 to 32 only.
pub shown_in : (v : ℕ → View) (p : ℕ) → 1 ≤ p → p ≤ 32 → shown v p ≡ v p
unfolding shown
shown_in v p lo hi = rw (le-ltb p 1 lo, le-ltb 32 p hi)

pub shown_ext : (v w : ℕ → View) → ((p : ℕ) → 1 ≤ p → p ≤ 32 → v p ≡ w p) → (p : ℕ) → shown v p ≡ shown w p
unfolding shown
shown_ext v w h p = go (ltb p 1) (ltb 32 p) refl refl
  where
    go : (a b : Bool) → ltb p 1 ≡ a → ltb 32 p ≡ b → cond (a || b) blank_view (v p) ≡ cond (a || b) blank_view (w p)
    go true b x y = refl
    go false true x y = refl
    go false false x y = h p (ltb-false p 1 x) (ltb-false 32 p y)

pub answer_ext : (S : Settings) (day : ℕ) (u : List Bool) (c : Call) (v w : ℕ → View) → ((p : ℕ) → 1 ≤ p → p ≤ 32 → v p ≡ w p)
    → answer S day u c v ≡ answer S day u c w
unfolding answer
answer_ext S day u c v w h = rw (fun_ext (shown_ext v w h))

-- What an accepted call has passed with rows 20 and 21: rs are the rows that come after them.
pub record Passed (day t : ℕ) (rs : List Row) (a : Answer) : Type 0 where
  pub calendar : t ≤ last_day
  pub on : day ≤ t
  pub rest : is_accepted (first_of rs a) ≡ true

pub dated : (day t : ℕ) (rs : List Row) (a : Answer) → is_accepted (first_of ((is_past t ⇒ Rejection.OffTheCalendar) ∷ (runs_back day t ⇒ Rejection.DayRunsBack) ∷ rs) a) ≡ true
    → Passed day t rs a
dated day t rs a ok = let k = pass (is_past t) Rejection.OffTheCalendar ((runs_back day t ⇒ Rejection.DayRunsBack) ∷ rs) a ok in
    let l = pass (runs_back day t) Rejection.DayRunsBack rs a k.1 in
    record { calendar = ltb-false last_day t k.0; on = ltb-false t day l.0; rest = l.1 }

-- Where another day is given.
pub dated_also : (day t : ℕ) (x : Bool) (rs : List Row) (a : Answer)
    → is_accepted (first_of ((is_past t || x ⇒ Rejection.OffTheCalendar) ∷ (runs_back day t ⇒ Rejection.DayRunsBack) ∷ rs) a) ≡ true → (x ≡ false) × Passed day t rs a
dated_also day t x rs a ok = let k = pass (is_past t || x) Rejection.OffTheCalendar ((runs_back day t ⇒ Rejection.DayRunsBack) ∷ rs) a ok in
    let l = pass (runs_back day t) Rejection.DayRunsBack rs a k.1 in let n = neither (is_past t) x k.0 in
    (n.1, record { calendar = ltb-false last_day t n.0; on = ltb-false t day l.0; rest = l.1 })

module _ (S : Settings) (day : ℕ) (u : List Bool) (t : ℕ) where
  -- A call off the calendar, dated before the register's day, or at no point is refused whatever the points are.
  abbrev OffDay : Type 0
  OffDay = (is_past t ≡ true) ⊎ (runs_back day t ≡ true)

  rows_off : (p : ℕ) (a : PointAction) (v w : View) (c d : Answer) → OffDay ⊎ (not_point p ≡ true)
      → first_of (rows_at S day u t p a v) c ≡ first_of (rows_at S day u t p a w) d
  unfolding rows_at first_of
  rows_off p (PointAction.Enrol m) v w _ _ q = ⊎_elim (⊎_elim (λ q. rw q) (λ q. rw q)) (λ q. rw q) q
  rows_off p (PointAction.IntoService s k) v w _ _ q = ⊎_elim (⊎_elim (λ q. rw q) (λ q. rw q)) (λ q. rw q) q
  rows_off p (PointAction.DefaultSupply k) v w _ _ q = ⊎_elim (⊎_elim (λ q. rw q) (λ q. rw q)) (λ q. rw q) q
  rows_off p (PointAction.Request s k r) v w _ _ q = ⊎_elim (⊎_elim (λ q. rw q) (λ q. rw q)) (λ q. rw q) q
  rows_off p (PointAction.Cancel s) v w _ _ q = ⊎_elim (⊎_elim (λ q. rw q) (λ q. rw q)) (λ q. rw q) q
  rows_off p (PointAction.Reading d x z) v w _ _ q = ⊎_elim (⊎_elim (λ q. rw q) (λ q. rw q)) (λ q. rw q) q
  rows_off p (PointAction.MeterChange x z m) v w _ _ q = ⊎_elim (⊎_elim (λ q. rw q) (λ q. rw q)) (λ q. rw q) q
  rows_off p PointAction.OutOfService v w _ _ q = ⊎_elim (⊎_elim (λ q. rw q) (λ q. rw q)) (λ q. rw q) q
  rows_off p (PointAction.Suspend m) v w _ _ q = ⊎_elim (⊎_elim (λ q. rw q) (λ q. rw q)) (λ q. rw q) q

  pub answer_off : (v w : ℕ → View) (a : Action) → OffDay → answer_to S day u t a v ≡ answer_to S day u t a w
  unfolding answer_to rows first_of accepted
  answer_off v w (Action.Contract s) q = refl
  answer_off v w (Action.Failure s) q = ⊎_elim (λ q. rw q) (λ q. rw q) q
  answer_off v w (Action.At p a) q = rows_off p a (v p) (w p) _ _ (inl q)
  answer_off v w Action.Day q = refl

  pub answer_none : (p : ℕ) (a : PointAction) (v w : ℕ → View) → not_point p ≡ true
      → answer_to S day u t (Action.At p a) v ≡ answer_to S day u t (Action.At p a) w
  unfolding answer_to rows
  answer_none p a v w q = rows_off p a (v p) (w p) _ _ (inr q)

  -- A call that names a point looks at that point only.
  pub answer_at_lem : (p : ℕ) (a : PointAction) (v w : ℕ → View) → v p ≡ w p
      → answer_to S day u t (Action.At p a) v ≡ answer_to S day u t (Action.At p a) w
  unfolding answer_to rows accepted
  answer_at_lem p a v w q = rw q

  -- The day of an accepted call, and the point that it names.
  at_point : (p : ℕ) (x : Bool) {rs : List Row} {a : Answer} → Passed day t rs a → (not_point p || x) ≡ false
      → (t ≤ last_day) × (day ≤ t) × (not_point p ≡ false)
  at_point p x k h = (k.calendar, k.on, (neither (not_point p) x h).0)

  pub passed_at : (p : ℕ) (a : PointAction) (v : View) (b : Answer) → is_accepted (first_of (rows_at S day u t p a v) b) ≡ true
      → (t ≤ last_day) × (day ≤ t) × (not_point p ≡ false)
  unfolding rows_at
  passed_at p (PointAction.Enrol m) v _ ok = let k = dated day t _ _ (pass _ _ _ _ (pass _ _ _ _ ok).1).1 in (k.calendar, k.on, (pass _ _ _ _ k.rest).0)
  passed_at p (PointAction.IntoService s k) v _ ok = let k = dated day t _ _ (pass _ _ _ _ ok).1 in
      at_point p _ k (pass _ _ _ _ (pass _ _ _ _ k.rest).1).0
  passed_at p (PointAction.DefaultSupply k) v _ ok = let k = (dated_also day t _ _ _ (pass _ _ _ _ ok).1).1 in at_point p _ k (pass _ _ _ _ k.rest).0
  passed_at p (PointAction.Request s k r) v _ ok = let k = (dated_also day t _ _ _ (pass _ _ _ _ ok).1).1 in
      at_point p _ k (pass _ _ _ _ (pass _ _ _ _ k.rest).1).0
  passed_at p (PointAction.Cancel s) v _ ok = let k = dated day t _ _ (pass _ _ _ _ ok).1 in at_point p _ k (pass _ _ _ _ k.rest).0
  passed_at p (PointAction.Reading d x z) v _ ok = let k = (dated_also day t _ _ _ (pass _ _ _ _ ok).1).1 in at_point p _ k (pass _ _ _ _ k.rest).0
  passed_at p (PointAction.MeterChange x z m) v _ ok = let k = dated day t _ _ (pass _ _ _ _ (pass _ _ _ _ ok).1).1 in
      at_point p _ k (pass _ _ _ _ k.rest).0
  passed_at p PointAction.OutOfService v _ ok = let k = dated day t _ _ ok in at_point p _ k (pass _ _ _ _ k.rest).0
  passed_at p (PointAction.Suspend m) v _ ok = let k = dated day t _ _ (pass _ _ _ _ ok).1 in at_point p _ k (pass _ _ _ _ k.rest).0

  -- The day of an accepted call lies in the calendar, and not before the register's.
  pub passed : (a : Action) (v : ℕ → View) → is_accepted (answer_to S day u t a v) ≡ true → (t ≤ last_day) × (day ≤ t)
  unfolding answer_to rows
  passed (Action.Contract s) v ok = let k = dated day t _ _ (pass _ _ _ _ ok).1 in (k.calendar, k.on)
  passed (Action.Failure s) v ok = let k = (dated_also day t _ _ _ (pass _ _ _ _ ok).1).1 in (k.calendar, k.on)
  passed (Action.At p a) v ok = let k = passed_at p a (v p) _ ok in (k.0, k.1)
  passed Action.Day v ok = let k = dated day t _ _ ok in (k.calendar, k.on)

  -- The point that an accepted call names is one of 1 to 32.
  pub accepted_point : (p : ℕ) (a : PointAction) (v : ℕ → View) → is_accepted (answer_to S day u t (Action.At p a) v) ≡ true
      → (t ≤ last_day) × (1 ≤ p) × (p ≤ 32)
  unfolding answer_to rows
  accepted_point p a v ok = let w = passed_at p a (v p) _ ok in let k = neither (ltb p 1) (ltb 32 p) w.2 in
      (w.0, ltb-false p 1 k.0, ltb-false 32 p k.1)
