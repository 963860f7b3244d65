-- One call on both sides: the same answer, and the register stays beside the day book.
use Rattle.basics.proofs.Basics.{◌≡◌, refl, sym, ◌∙◌, ap, subst, true, false, Bool, cond, List, [], ◌++◌, append-nil}
use Rattle.basics.proofs.Basics.{map, ◌≤◌, ℕ, ◌-◌, ◌<◌, arith, eqb, ltb, length, set, length-set, length-map}
use Rattle.basics.proofs.Basics.{get_or-set_same, get_or-set_other, ltb-false, eqb-true, eqb-false}
use mathlib.Core.Logic.{inl, inr}
use Rattle.dates.specs.Dates.{last_day}
use Rattle.rules.specs.declared.{Fields.Fields, Point.Point, Register.Register, Settings.Settings, Span.Span}
use Rattle.rules.specs.declared.{Call.Call, Action.Action, Effect.Effect}
use Rattle.rules.specs.Effects.{spans_in, effect_of, effect, signed}
use Rattle.rules.specs.Answers.{is_accepted}
use Rattle.rules.specs.declared.{View.View}
use Rattle.rules.specs.Rejections.{answer_to, shown, answer}
use Rattle.rules.specs.Pinned.Register
use Rattle.rules.specs.Pinned.Register.{entered, catch_up, view, register, point_at, no_point, advanced, acted, failed_point}
use Rattle.rules.specs.Pinned.Register.{done, applied}
use Rattle.rules.specs.DayBook
use Rattle.rules.specs.DayBook.{Book, Page, up_to_day, look, written, next, does}
use Rattle.rules.proofs.Views.{answer_ext, answer_off, passed, accepted_point}
use Rattle.agreement.proofs.Kept.{enrolled_by, call_good}
use Rattle.agreement.proofs.Tied.{Tied, views_agree, effect_tied}
use Rattle.agreement.proofs.Days.{gone_on, point_map, caught}

-- The whole book beside the whole register, with the readings and enrolments of each point so far.
pub record Agree (l : ℕ → List Span) (n : ℕ → List ℕ) (b : Book) (r : Register) : Type 0 where
  pub settings : b.settings ≡ r.settings
  pub day : b.day ≡ r.day
  pub contracts : b.contracts ≡ r.contracts
  pub count : length r.points ≡ 32
  -- default and last-resort supply last a day at the least
  pub lasting : (0 < b.settings.a) × (0 < b.settings.b)
  pub points : (p : ℕ) → 1 ≤ p → p ≤ 32 → Tied b.day (l p) (n p) (b.page p) (point_at p r.points)

-- The register after an accepted call, point by point.
abbrev pub did : Settings → ℕ → Action → ℕ → Point → Point
did S t c p g = entered t (effect S t c p g.fields) g.history

module _ (r : Register) (count : length r.points ≡ 32) (t day : ℕ) (u : List Bool) (v : ℕ → View) where
  pub done_count : (c : Action) → length (done t c r).points ≡ 32
  unfolding done
  done_count (Action.Contract s) = count
  done_count (Action.Failure s) = length-map r.points (failed_point r.settings t s) ∙ count
  done_count (Action.At q a) = length-set r.points (q - 1) _ ∙ count
  done_count Action.Day = count

  pub done_points : (c : Action) → is_accepted (answer_to r.settings day u t c v) ≡ true → (p : ℕ) → 1 ≤ p → p ≤ 32
      → point_at p (done t c r).points ≡ did r.settings t c p (point_at p r.points)
  unfolding done effect failed_point acted
  done_points (Action.Contract s) ok p lo hi = refl
  done_points (Action.Failure s) ok p lo hi = point_map (failed_point r.settings t s) r.points p lo (omega arith)
  done_points (Action.At q a) ok p lo hi = go (eqb p q) refl
    where
      at : (1 ≤ q) × (q ≤ 32)
      at = let k = accepted_point r.settings day u t q a v ok in (k.1, k.2)

      new : Point
      new = acted r.settings t a (point_at q r.points)

      go : (b : Bool) → eqb p q ≡ b → point_at p (set r.points (q - 1) new)
          ≡ entered t (cond b (effect_of r.settings t a (point_at p r.points).fields) (Effect.Keep (point_at p r.points).fields))
          (point_at p r.points).history
      go true e = let w : p ≡ q = eqb-true p q e in
          rw w (get_or-set_same r.points (q - 1) new no_point (omega (arith, at.0, at.1)))
      go false e = let w : p ≡ q → ⊥ = eqb-false p q e in
          get_or-set_other r.points (q - 1) (p - 1) new no_point (λ z. w (omega (arith, at.0, at.1)))
  done_points Action.Day ok p lo hi = refl

  pub done_rest : (c : Action) → ((done t c r).settings ≡ r.settings) × ((done t c r).day ≡ r.day) × ((done t c r).contracts ≡ signed c r.contracts)
  unfolding done
  done_rest (Action.Contract s) = (refl, refl, refl)
  done_rest (Action.Failure s) = (refl, refl, refl)
  done_rest (Action.At q a) = (refl, refl, refl)
  done_rest Action.Day = (refl, refl, refl)

-- The register brought up to a day.
pub advanced_rest : (t : ℕ) (r : Register)
    → ((advanced t r).settings ≡ r.settings) × ((advanced t r).day ≡ t) × ((advanced t r).contracts ≡ r.contracts)
    × (length (advanced t r).points ≡ length r.points)
unfolding advanced
advanced_rest t r = go (eqb r.day t) refl
  where
    go : (x : Bool) → eqb r.day t ≡ x
        → let s = cond x r (register r.settings t r.contracts (map (catch_up r.settings t) r.points)) in
        (s.settings ≡ r.settings) × (s.day ≡ t) × (s.contracts ≡ r.contracts) × (length s.points ≡ length r.points)
    go true e = (refl, eqb-true r.day t e, refl, refl)
    go false e = (refl, refl, refl, length-map r.points (catch_up r.settings t))

module _ (c : Call) (l : ℕ → List Span) (n : ℕ → List ℕ) (b : Book) (r : Register) (h : Agree l n b r) where
  abbrev t : ℕ
  t = c.today

  -- both brought up to today
  now : b.day ≤ t → t ≤ last_day → (p : ℕ) → 1 ≤ p → p ≤ 32 → Tied t (l p) (n p) ((up_to_day t b).page p) (point_at p (advanced t r).points)
  now on cal p lo hi =
      caught b r h.settings h.day h.lasting.1 t on cal p lo (omega (arith, h.count)) (l p) (n p) (h.points p lo hi)

  pub says_agree : DayBook.says b c ≡ Register.says r c
  unfolding DayBook.says Register.says answer
  says_agree = go (ltb last_day t) (ltb t b.day) refl refl
      ∙ (λ i. answer (h.settings i) (h.day i) (h.contracts i) c (λ p. view t (point_at p (advanced t r).points)))
    where
      go : (x y : Bool) → ltb last_day t ≡ x → ltb t b.day ≡ y
          → answer b.settings b.day b.contracts c (λ p. look ((up_to_day t b).page p))
          ≡ answer b.settings b.day b.contracts c (λ p. view t (point_at p (advanced t r).points))
      go true y a d = answer_off b.settings b.day b.contracts t _ _ c.action (inl a)
      go false true a d = answer_off b.settings b.day b.contracts t _ _ c.action (inr d)
      go false false a d = answer_ext b.settings b.day b.contracts c _ _
          (λ p lo hi. views_agree t (l p) (n p) _ _ (now (ltb-false t b.day d) (ltb-false last_day t a) p lo hi).point)

  -- the readings and the enrolments of this call at point p
  abbrev pub read_now : ℕ → List Span
  read_now p = cond (is_accepted (DayBook.says b c)) (spans_in (does b c p)) []

  abbrev pub enrolled_now : ℕ → List ℕ
  enrolled_now p = cond (is_accepted (DayBook.says b c)) (enrolled_by t (does b c p)) []

  abbrev v : ℕ → View
  v p = look ((up_to_day t b).page p)

  abbrev point : ℕ → Point
  point p = point_at p (advanced t r).points

  -- an accepted call, at point p
  module _ (ok : is_accepted (answer_to b.settings b.day b.contracts t c.action (shown v)) ≡ true) (p : ℕ) (lo : 1 ≤ p) (hi : p ≤ 32) where
    abbrev page : Page
    page = (up_to_day t b).page p

    abbrev e : Effect
    e = does b c p

    turned : Tied t (l p ++ spans_in e) (n p ++ enrolled_by t e) (written e page.cells) (did b.settings t c.action p (point p))
    turned = let w = passed b.settings b.day b.contracts t c.action (shown v) ok in
        let i = now w.1 w.0 p lo hi in
        let k = call_good b.settings h.lasting.0 h.lasting.1 b.day b.contracts t v p lo hi i.fine c.action ok in
        subst (λ (x : Fields). Tied t (l p ++ spans_in e) (n p ++ enrolled_by t e) (written e page.cells)
        (entered t (effect b.settings t c.action p x) (point p).history))
        i.point.same (effect_tied t (l p) (n p) page (point p) i.point e (enrolled_by t e) k w.0)

  accepted_agree : is_accepted (DayBook.says b c) ≡ true
      → Agree (λ p. l p ++ spans_in (does b c p)) (λ p. n p ++ enrolled_by t (does b c p))
      (DayBook.entered c (up_to_day t b)) (done t c.action (advanced t r))
  unfolding DayBook.says answer
  accepted_agree ok = let w = passed b.settings b.day b.contracts t c.action (shown v) ok in
      let a = advanced_rest t r in let g = gone_on (t - b.day) b in
      let s : (advanced t r).settings ≡ b.settings = a.0 ∙ sym h.settings in
      let d : (up_to_day t b).day ≡ t = g.day ∙ omega (arith, w.1) in
      let m : length (advanced t r).points ≡ 32 = a.3 ∙ h.count in
      let k = done_rest (advanced t r) m t b.day b.contracts (shown v) c.action in
      record {
        settings = g.settings ∙ sym s ∙ sym k.0;
        day = d ∙ sym a.1 ∙ sym k.1;
        contracts = ap (signed c.action) (g.contracts ∙ h.contracts ∙ sym a.2) ∙ sym k.2;
        count = done_count (advanced t r) m t b.day b.contracts (shown v) c.action;
        lasting = rw g.settings h.lasting;
        points = λ p lo hi. rw (d, g.settings, done_points (advanced t r) m t b.day b.contracts (shown v) c.action (rw s ok) p lo hi, s)
            (turned ok p lo hi);
      }

  pub call_agree : Agree (λ p. l p ++ read_now p) (λ p. n p ++ enrolled_now p) (DayBook.next b c) (applied r c).register
  unfolding DayBook.next applied
  call_agree = rw (← says_agree) (go (is_accepted (DayBook.says b c)) refl)
    where
      go : (x : Bool) → is_accepted (DayBook.says b c) ≡ x
          → Agree (λ p. l p ++ cond x (spans_in (does b c p)) []) (λ p. n p ++ cond x (enrolled_by t (does b c p)) [])
          (cond x (DayBook.entered c (up_to_day t b)) b) (cond x (done t c.action (advanced t r)) r)
      go true ok = accepted_agree ok
      go false ok = record {
        settings = h.settings;
        day = h.day;
        contracts = h.contracts;
        count = h.count;
        lasting = h.lasting;
        points = λ p lo hi. rw (append-nil (l p), append-nil (n p)) (h.points p lo hi);
      }
