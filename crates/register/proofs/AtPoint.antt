-- A call that names a point, on the whole register: the answer is that of the point as the call finds it, and the register after an
-- accepted call has that point stored.
use Rattle.basics.proofs.Basics.{◌≡◌, refl, sym, ◌∙◌, ap, true, false, Bool, cond, map, ◌≤◌, ℕ, ◌-◌, dec_le, arith, eqb}
use Rattle.basics.proofs.Basics.{leb, set, lt-ltb, le-leb, le-ltb}
use mathlib.Core.Logic.{inl}
use Rattle.dates.specs.Dates.{last_day}
use Rattle.rules.specs.declared.{Point.Point, Register.Register, Answer.Answer, Action.Action}
use Rattle.rules.specs.declared.{PointAction.PointAction, View.View, Effect.Effect}
use Rattle.rules.specs.Effects.{effect_of}
use Rattle.rules.specs.Answers.{is_accepted}
use Rattle.rules.specs.Rejections.{blank_view, not_point, rows, accepted, shown, answer_to, answer}
use Rattle.rules.specs.Pinned.Register.{catch_up, starts_on, view, blank_point, register, point_at, advanced, says, acted, done, outcome, applied}
use Rattle.rules.proofs.Views.{answer_off, answer_at_lem, accepted_point}
use Rattle.point_effects.specs.declared.{Ruling.Ruling}
use Rattle.point_answers.specs.Between.{answer_at}
use Rattle.point_effects.specs.Between.{ruling_at, Accepted, noted}
use Rattle.point_effects.proofs.Accepted.{accepted_noted}
use Rattle.register.specs.Between.Calls.{call_at, brought_up, point_on}

pub advanced_on : (t : ℕ) (r : Register) → t ≤ last_day → brought_up t r ≡ advanced t r
unfolding brought_up
advanced_on t r h = rw (le-leb t last_day h)

pub advanced_settings : (t : ℕ) (r : Register) → (advanced t r).settings ≡ r.settings
unfolding advanced
advanced_settings t r = go (eqb r.day t)
  where
    go : (b : Bool) → (cond b r (register r.settings t r.contracts (map (catch_up r.settings t) r.points))).settings ≡ r.settings
    go true = refl
    go false = refl

pub brought_up_settings : (t : ℕ) (r : Register) → (brought_up t r).settings ≡ r.settings
unfolding brought_up
brought_up_settings t r = go (leb t last_day)
  where
    go : (b : Bool) → (cond b (advanced t r) r).settings ≡ r.settings
    go true = advanced_settings t r
    go false = refl

module _ (r : Register) (t p : ℕ) (a : PointAction) where
  -- what every point shows, and what the call finds
  abbrev every : ℕ → View
  every q = view t (point_at q (advanced t r).points)

  abbrev found : ℕ → View
  found q = view t (point_on t p r)

  abbrev ruling : Answer
  ruling = answer_at r.settings r.day r.contracts t p a (view t (point_on t p r))

  shown_found : t ≤ last_day → shown every p ≡ found p
  unfolding shown point_on starts_on
  shown_found h = rw (advanced_on t r h) (go (not_point p))
    where
      go : (b : Bool) → cond b blank_view (every p) ≡ view t (cond b blank_point (point_at p (advanced t r).points))
      go true = refl
      go false = refl

  at_says : says r (call_at t p a) ≡ ruling
  unfolding says answer answer_at answer_to rows accepted
  at_says = elim (dec_le t last_day) [
    | yes h ↦ answer_at_lem r.settings r.day r.contracts t p a (shown every) found (shown_found h)
    | no h ↦ answer_off r.settings r.day r.contracts t (shown every) found (Action.At p a) (inl (lt-ltb last_day t (omega arith)))
  ]

  pub at_refused : is_accepted ruling ≡ false → outcome ruling r ≡ applied r (call_at t p a)
  unfolding applied
  at_refused z = rw (at_says, z)

  -- the point found is point p, brought up to today
  found_point : t ≤ last_day → 1 ≤ p → p ≤ 32 → point_on t p r ≡ point_at p (advanced t r).points
  unfolding point_on
  found_point h lo hi = rw (le-ltb p 1 lo, le-ltb 32 p hi, advanced_on t r h)

  abbrev stored : Register
  stored = register (brought_up t r).settings (brought_up t r).day (brought_up t r).contracts
      (set (brought_up t r).points (p - 1) (acted r.settings t a (point_on t p r)))

  in_range : is_accepted ruling ≡ true → (t ≤ last_day) × (1 ≤ p) × (p ≤ 32)
  unfolding answer_at answer_to rows accepted
  in_range ok = accepted_point r.settings r.day r.contracts t p a found ok

  at_accepted : is_accepted ruling ≡ true → outcome ruling stored ≡ applied r (call_at t p a)
  unfolding applied done
  at_accepted ok = let w = in_range ok in
      rw (at_says, ok, advanced_on t r w.0, found_point w.0 w.1 w.2, advanced_settings t r)

  -- the same of the ruling x on the point g that was found
  module _ (g : Point) (v : View) (x : Ruling) (e : g ≡ point_on t p r) (k : v ≡ view t g)
      (q : x ≡ ruling_at r.settings r.day r.contracts t p a v) where
    answer_is : x.answer ≡ ruling
    unfolding ruling_at
    answer_is = ap (λ (y : Ruling). y.answer) q ∙ ap (answer_at r.settings r.day r.contracts t p a) (k ∙ ap (view t) e)

    pub ruling_refused : is_accepted x.answer ≡ false → outcome x.answer r ≡ applied r (call_at t p a)
    ruling_refused z = rw answer_is (at_refused (rw answer_is at z))

    pub ruling_in : is_accepted x.answer ≡ true → (t ≤ last_day) × (1 ≤ p) × (p ≤ 32)
    ruling_in z = in_range (rw answer_is at z)

    effect_is : is_accepted x.answer ≡ true → x.effect ≡ effect_of r.settings t a g.fields
    unfolding ruling_at
    effect_is z =
        let w : is_accepted (ruling_at r.settings r.day r.contracts t p a v).answer ≡ true = rw q at z in
        ap (λ (y : Ruling). y.effect) q ∙ rw w (ap (λ (y : View). effect_of r.settings t a y.fields) k)

    was_accepted : is_accepted x.answer ≡ true → Accepted r.settings t a g.fields
    was_accepted z = record {
      day = r.day;
      contracts = r.contracts;
      point = p;
      view = view t (point_on t p r);
      same = ap (λ (h : Point). h.fields) (sym e);
      ok = rw answer_is at z;
    }

    point_is : is_accepted x.answer ≡ true → noted t x.effect g.history ≡ acted r.settings t a (point_on t p r)
    unfolding acted
    point_is z = ap (λ (y : Effect). noted t y g.history) (effect_is z)
        ∙ accepted_noted r.settings t a g.fields g.history (was_accepted z) ∙ ap (acted r.settings t a) e

    pub ruling_accepted : (n : Register) (h : Point) → n ≡ brought_up t r → h ≡ noted t x.effect g.history → is_accepted x.answer ≡ true
        → outcome x.answer (register n.settings n.day n.contracts (set n.points (p - 1) h)) ≡ applied r (call_at t p a)
    ruling_accepted n h m l z = rw (l ∙ point_is z, m, answer_is) (at_accepted (rw answer_is at z))
