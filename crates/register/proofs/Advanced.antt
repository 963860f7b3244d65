-- The register brought up to a day, and a point of it.
use Rattle.basics.proofs.Basics.{◌≡◌, refl, sym, ◌∙◌, ap, fun_ext, true, false, Bool, cond, List, map, ◌≤◌, ℕ, ◌-◌, ◌<◌}
use Rattle.basics.proofs.Basics.{leb, get_or, list_get_d_map, le-leb, lt-leb, ne_eqb, eq-eqb}
use Rattle.dates.specs.Dates.{last_day}
use Rattle.rules.specs.declared.{Due.Due, Point.Point, Register.Register, Settings.Settings}
use Rattle.rules.specs.Pinned.Register.{catch_up, next_event, due_by, expiry_by, happened, register, point_at, no_point, advanced}
use Rattle.point_effects.specs.Between.{due_in, next_in, caught_up}
use Rattle.register.specs.Between.Calls.{brought_up}

-- On the calendar catching up is the definition's.
pub caught_up_on : (S : Settings) (t : ℕ) → t ≤ last_day → caught_up S t ≡ catch_up S t
unfolding caught_up next_in due_in catch_up next_event
caught_up_on S t h = fun_ext (λ g. rw (le-leb t last_day h))

pub advanced_off : (t : ℕ) (r : Register) → last_day < t → brought_up t r ≡ r
unfolding brought_up
advanced_off t r h = rw (lt-leb t last_day h)

module _ (t : ℕ) (r : Register) (h : t ≤ last_day) where
  pub advanced_same : r.day ≡ t → brought_up t r ≡ r
  unfolding brought_up advanced
  advanced_same e = rw (le-leb t last_day h, eq-eqb r.day t e)

  pub advanced_new : (r.day ≡ t → ⊥) → brought_up t r
      ≡ register r.settings t r.contracts (map (caught_up r.settings t) r.points)
  unfolding brought_up advanced
  advanced_new n = rw (le-leb t last_day h, ne_eqb r.day t n, caught_up_on r.settings t h)

-- Nothing falls due where there is no point.
next_none : (S : Settings) (t : ℕ) → next_in S t no_point ≡ no_point
unfolding next_in due_in due_by expiry_by happened
next_none S t = go (leb t last_day)
  where
    go : (b : Bool) → happened (cond b Due.Nothing Due.Nothing) no_point ≡ no_point
    go true = refl
    go false = refl

caught_up_none : (S : Settings) (t : ℕ) → caught_up S t no_point ≡ no_point
unfolding caught_up
caught_up_none S t = ap (next_in S t) (next_none S t) ∙ next_none S t

pub point_caught_up : (S : Settings) (t p : ℕ) (ps : List Point) → point_at p (map (caught_up S t) ps) ≡ caught_up S t (point_at p ps)
point_caught_up S t p ps = ap (λ (d : Point). get_or (map (caught_up S t) ps) (p - 1) d) (sym (caught_up_none S t))
    ∙ list_get_d_map (caught_up S t) ps (p - 1) no_point
