-- The view of a point brought up to a day is the view brought up.
use Rattle.basics.proofs.Basics.{◌≡◌, refl, sym, ◌∙◌, ap, true, false, Bool, cond, ◌&&◌, ◌≤◌, ℕ, ◌-◌, ◌+◌, ◌<◌, min}
use Rattle.basics.proofs.Basics.{arith, eqb, ltb, length, set, length-set, get_or-set_same, lt-leb, ne_eqb, eq-eqb}
use Rattle.basics.proofs.Basics.{eqb-true, ltb-true}
use Rattle.dates.specs.Dates.{last_day}
use Rattle.rules.specs.declared.{Fields.Fields, History.History, Period.Period, Point.Point, Settings.Settings, Due.Due, View.View}
use Rattle.rules.specs.Pinned.Register.{
  period,
  history,
  no_period,
  used,
  newest,
  starts_on,
  replaced,
  appended,
  named,
  happened,
  view,
}
use Rattle.point_effects.specs.Between.{due_in, next_in, caught_up}
use Rattle.input_quiet.specs.declared.{seen.Seen.Seen}
use Rattle.input_quiet.specs.Between.Quiet.{seen, named_seen, happened_seen, next_seen, view_in, view_on}

abbrev pub seen_in : Fields → History → Seen
seen_in f h = seen f (used h) (newest h).start

abbrev pub seen_of : Point → Seen
seen_of g = seen_in g.fields g.history

-- every slot is there
abbrev Whole : History → Type 0
Whole h = 24 ≤ length h.periods

module _ (d s : ℕ) (h : History) (w : Whole h) where
  replaced_seen : (f : Fields) → seen_in f (replaced d s h) ≡ seen f (used h) d
  unfolding replaced
  replaced_seen f = ap (λ (q : Period). seen f (used h) q.start)
      (get_or-set_same h.periods (used h - 1) (period d s (newest h).volume.0 (newest h).normal.0) no_period (omega arith))

  appended_seen : (f : Fields) → seen_in f (appended d s h) ≡ cond (ltb (used h) 24) (seen f (used h + 1) d) (seen_in f h)
  unfolding appended
  appended_seen f = go (ltb (used h) 24) refl
    where
      go : (b : Bool) → ltb (used h) 24 ≡ b →
          seen_in f (cond b (history (used h + 1) (set h.periods (used h) (period d s 0 0))) h)
          ≡ cond b (seen f (used h + 1) d) (seen_in f h)
      go true e = let lt = ltb-true (used h) 24 e in let m : min (used h + 1) 24 ≡ used h + 1 = omega arith in
          let k : used h + 1 - 1 ≡ used h = omega arith in
          rw (m, k, get_or-set_same h.periods (used h) (period d s 0 0) no_period (omega arith))
      go false e = refl

  named_seen_lem : (f g : Fields) → seen_in f (named d s h) ≡ named_seen d f (seen_in g h)
  unfolding named named_seen starts_on
  named_seen_lem f g = go (ltb 0 (used h)) refl (eqb (newest h).start d) refl
    where
      go : (a : Bool) → ltb 0 (used h) ≡ a → (b : Bool) → eqb (newest h).start d ≡ b →
          seen_in f (cond (a && b) (replaced d s h) (appended d s h)) ≡ cond (a && b) (seen f (used h) (newest h).start)
          (cond (ltb (used h) 24) (seen f (used h + 1) d) (seen f (used h) (newest h).start))
      go true x true y = replaced_seen f ∙ ap (seen f (used h)) (sym (eqb-true (newest h).start d y))
      go true x false y = appended_seen f
      go false x b y = appended_seen f

  named_whole : Whole (named d s h)
  unfolding named replaced appended
  named_whole = go (starts_on d h) (ltb (used h) 24)
    where
      go : (a b : Bool) →
          Whole (cond a (history h.count (set h.periods (used h - 1) (period d s (newest h).volume.0 (newest h).normal.0)))
          (cond b (history (used h + 1) (set h.periods (used h) (period d s 0 0))) h))
      go true b = simp length-set w
      go false true = simp length-set w
      go false false = w

-- ---- two events at the most

module _ (S : Settings) (t : ℕ) where
  happened_seen_lem : (e : Due) (g : Point) → Whole g.history → seen_of (happened e g) ≡ happened_seen e (seen_of g)
  unfolding happened happened_seen
  happened_seen_lem Due.Nothing g w = refl
  happened_seen_lem (Due.Naming d s) g w = named_seen_lem d s.holder g.history w _ g.fields

  happened_whole : (e : Due) (g : Point) → Whole g.history → Whole (happened e g).history
  unfolding happened
  happened_whole Due.Nothing g w = w
  happened_whole (Due.Naming d s) g w = named_whole d s.holder g.history w

  next_seen_lem : (g : Point) → Whole g.history → seen_of (next_in S t g) ≡ next_seen S t (seen_of g)
  unfolding next_in next_seen
  next_seen_lem g w = happened_seen_lem _ g w

  caught_seen : (g : Point) → Whole g.history → seen_of (caught_up S t g) ≡ next_seen S t (next_seen S t (seen_of g))
  unfolding caught_up next_in
  caught_seen g w = next_seen_lem (next_in S t g) (happened_whole _ g w) ∙ ap (next_seen S t) (next_seen_lem g w)

  pub seen_on : (day : ℕ) (g : Point) → Whole g.history → view t (cond (eqb day t) g (caught_up S t g)) ≡ view_on S day t (seen_of g)
  unfolding view_on starts_on
  seen_on day g w = rw (← (caught_seen g w)) (go (eqb day t))
    where
      go : (b : Bool) → view_in t (seen_of (cond b g (caught_up S t g))) ≡ view_in t (cond b (seen_of g) (seen_of (caught_up S t g)))
      go true = refl
      go false = refl

-- the view, from what is seen
module _ (S : Settings) (day t : ℕ) (x : Seen) {v : View} where
  pub seen_day : day ≡ t → v ≡ view_in t x → v ≡ view_on S day t x
  unfolding view_on
  seen_day e h = rw (eq-eqb day t e) h

  pub seen_late : (day ≡ t → ⊥) → last_day < t → v ≡ view_in t x → v ≡ view_on S day t x
  unfolding view_on next_seen due_in happened_seen
  seen_late n e h = rw (ne_eqb day t n, lt-leb t last_day e) h

  pub seen_up : (day ≡ t → ⊥) → {once twice : Seen} → once ≡ next_seen S t x → twice ≡ next_seen S t once → v ≡ view_in t twice →
      v ≡ view_on S day t x
  unfolding view_on
  seen_up n h k z = rw (ne_eqb day t n, ← h, ← k) z
