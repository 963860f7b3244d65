-- Before anything falls due, bringing points up to a day changes nothing.
use Rattle.basics.proofs.Basics.{◌≡◌, refl, ◌∙◌, ap, ap₂, true, false, Bool, cond, List, [], ◌∷◌, map, ◌≤◌, ℕ}
use Rattle.basics.proofs.Basics.{◌+◌, ◌<◌, suc, zero, min, not-suc-le-zero, arith, eqb, length, drop, take, get_or, set}
use Rattle.basics.proofs.Basics.{drop_of_length-le, lt-leb, eqb-true, add-one}
use Rattle.rules.specs.declared.{Fields.Fields, Point.Point, Settings.Settings, SupplyKind.SupplyKind}
use Rattle.rules.specs.declared.{Due.Due, Pending.Pending, Period.Period}
use Rattle.rules.specs.Fields.{blank}
use Rattle.rules.specs.Pinned.Register.{expiry_by, due_by, happened, next_event, catch_up, register, advanced}
use Rattle.input_tables.specs.Between.Tables.{joined, points_of}
use Rattle.input_quiet.specs.Between.Quiet.{never, kind_ends, request_falls, due_day, first_due}

module _ (S : Settings) (t : ℕ) where
  nothing_ends : (k : SupplyKind) (q : Pending) → t < kind_ends k → expiry_by S t k q ≡ Due.Nothing
  unfolding expiry_by
  nothing_ends SupplyKind.None q h = refl
  nothing_ends SupplyKind.Contract q h = refl
  nothing_ends (SupplyKind.Default d) q h = rw (lt-leb d t h)
  nothing_ends (SupplyKind.LastResort d) q h = rw (lt-leb d t h)

  nothing_due : (k : SupplyKind) (q : Pending) → t < kind_ends k → t < request_falls q → due_by S t k q ≡ Due.Nothing
  unfolding due_by
  nothing_due k Pending.Nothing h j = nothing_ends k _ h
  nothing_due k (Pending.Request s e) h j = rw (lt-leb e t j, nothing_ends k (Pending.Request s e) h)

  quiet_event : (g : Point) → t < due_day g.fields.supply → next_event S t g ≡ g
  unfolding next_event due_day happened
  quiet_event g h = let s = g.fields.supply in let h₁ : t < kind_ends s.kind = omega arith in
      let h₂ : t < request_falls s.pending = omega arith in rw (nothing_due s.kind s.pending h₁ h₂)

  pub quiet_point : (g : Point) → t < due_day g.fields.supply → catch_up S t g ≡ g
  unfolding catch_up
  quiet_point g h = ap (next_event S t) (quiet_event g h) ∙ quiet_event g h

  quiet_points : (fs : List Fields) (ns : List ℕ) (ss : List Period) → t < first_due fs →
      map (catch_up S t) (points_of fs ns ss) ≡ points_of fs ns ss
  unfolding first_due points_of
  quiet_points [] ns ss h = refl
  quiet_points (f ∷ fs) [] ss h = refl
  quiet_points (f ∷ fs) (n ∷ ns) ss h =
      ap₂ (λ (x : Point) (l : List Point). x ∷ l) (quiet_point (joined f n (take 24 ss)) (omega arith)) (quiet_points fs ns (drop 24 ss) (omega arith))

pub first_never : (fs : List Fields) → first_due fs ≤ never
unfolding first_due
first_never [] = omega arith
first_never (f ∷ fs) = omega (arith, first_never fs)

-- the register's day is all that changes
pub quiet_advanced : (t day : ℕ) (S : Settings) (u : List Bool) (fs : List Fields) (ns : List ℕ) (ss : List Period) → t < first_due fs →
    advanced t (register S day u (points_of fs ns ss)) ≡ register S t u (points_of fs ns ss)
unfolding advanced
quiet_advanced t day S u fs ns ss h = rw (quiet_points S t fs ns ss h) (go (eqb day t) refl)
  where
    go : (b : Bool) → eqb day t ≡ b →
        cond b (register S day u (points_of fs ns ss)) (register S t u (points_of fs ns ss)) ≡ register S t u (points_of fs ns ss)
    go true e = ap (λ (d : ℕ). register S d u (points_of fs ns ss)) (eqb-true day t e)
    go false e = refl

pub first_at : (fs : List Fields) (i : ℕ) → i < length fs → first_due fs ≤ due_day (get_or fs i blank).supply
unfolding first_due
first_at [] i h = absurd (not-suc-le-zero h)
first_at (f ∷ fs) zero h = omega arith
first_at (f ∷ fs) (suc i) h = omega (arith, first_at fs i (omega arith))

-- other fields in one place
pub first_set : (fs : List Fields) (i : ℕ) (f : Fields) (n : ℕ) → n ≤ first_due fs → n ≤ due_day f.supply → n ≤ first_due (set fs i f)
unfolding first_due
first_set [] i f n h k = h
first_set (g ∷ fs) zero f n h k = omega arith
first_set (g ∷ fs) (suc i) f n h k = omega (arith, first_set fs i f n (omega arith) k)

-- the walk over the places
first_drop : (fs : List Fields) (i : ℕ) → i < length fs →
    first_due (drop i fs) ≡ min (due_day (get_or fs i blank).supply) (first_due (drop (suc i) fs))
unfolding first_due
first_drop [] i h = absurd (not-suc-le-zero h)
first_drop (f ∷ fs) zero h = refl
first_drop (f ∷ fs) (suc i) h = first_drop fs i (omega arith)

-- What holds before place i: the days looked at, and those still to come.
pub record Walk (fs : List Fields) (i first : ℕ) : Type 0 where
  pub rest : min first (first_due (drop i fs)) ≡ first_due fs
  pub most : first ≤ never

pub walk_start : (fs : List Fields) → Walk fs 0 never
walk_start fs = record { rest = omega (arith, first_never fs); most = omega arith }

pub walk_next : (fs : List Fields) (i first due next : ℕ) → i < length fs → Walk fs i first →
    due ≡ due_day (get_or fs i blank).supply → next ≡ min first due → Walk fs (i + 1) next
walk_next fs i first due next h w hd hn = let e : i + 1 ≡ suc i = add-one i in
    record { rest = rw e (omega (arith, w.rest, first_drop fs i h)); most = omega (arith, w.most) }

pub walk_end : (fs : List Fields) (i first : ℕ) → length fs ≤ i → Walk fs i first → first ≡ first_due fs
unfolding first_due
walk_end fs i first h w = let e : min first (first_due []) ≡ first_due fs = rw (drop_of_length-le fs h) at w.rest in omega (arith, e, w.most)
