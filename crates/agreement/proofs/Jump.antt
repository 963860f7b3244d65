-- From event to event is the same as day by day: n days of a point, one at a time, are what `catch_up` does.
use Rattle.basics.proofs.Basics.{◌≡◌, refl, sym, ◌∙◌, true, false, ◌&&◌, not, and-false, ◌≤◌, ℕ, ◌+◌, ◌<◌, suc, zero}
use Rattle.basics.proofs.Basics.{add-zero, dec_le, arith, leb, lt-ltb, le-leb, le-ltb, lt-leb, ne_eqb, eq-eqb}
use Rattle.rules.specs.declared.{Due.Due, Effect.Effect, Fields.Fields, Point.Point, Settings.Settings, Supply.Supply}
use Rattle.rules.specs.declared.{SupplyKind.SupplyKind, Pending.Pending}
use Rattle.rules.specs.Fields.{supply, unsupplied, with_supply}
use Rattle.rules.specs.Effects.{event, pending_event, deadline_event}
use Rattle.rules.specs.Rejections.{due}
use Rattle.rules.specs.Pinned.Register.{entered, expiry_by, ends_before, due_by, happened, next_event, catch_up}
use Rattle.agreement.proofs.Slots.{cond_holds}
use Rattle.agreement.specs.Sound.{KindAhead, PendingAhead, Ahead}

-- A point on day t, by the day book's event; and on n days after day t.
abbrev pub on_day : Settings → ℕ → Point → Point
on_day S t g = entered t (event S t g.fields) g.history

unfoldable pub daily : Settings → ℕ → ℕ → Point → Point
daily S zero t g = g
daily S (suc n) t g = daily S n (suc t) (on_day S (suc t) g)

module _ (S : Settings) (B : 0 < S.b) (T : ℕ) where
  -- Nothing is due by T where all of it lies after T.
  expiry_none : (k : SupplyKind) (q : Pending) → KindAhead T k → expiry_by S T k q ≡ Due.Nothing
  unfolding expiry_by
  expiry_none SupplyKind.None q a = refl
  expiry_none SupplyKind.Contract q a = refl
  expiry_none (SupplyKind.Default d) q a = rw (lt-leb d T a)
  expiry_none (SupplyKind.LastResort d) q a = rw (lt-leb d T a)

  due_none : (k : SupplyKind) (q : Pending) → KindAhead T k → PendingAhead T q → due_by S T k q ≡ Due.Nothing
  unfolding due_by
  due_none k Pending.Nothing a b = expiry_none k Pending.Nothing a
  due_none k (Pending.Request s e) a b = rw (lt-leb e T b, expiry_none k (Pending.Request s e) a)

  catch_up_none : (g : Point) → Ahead T g.fields.supply → catch_up S T g ≡ g
  unfolding catch_up next_event happened
  catch_up_none g a = let e = due_none g.fields.supply.kind g.fields.supply.pending a.kind a.pending in rw (e, e)

  -- What is due, and then nothing.
  abbrev Last : Due → Type 0
  Last Due.Nothing = Unit {0}
  Last (Due.Naming d s) = due_by S T s.kind s.pending ≡ Due.Nothing

  last_resort : (d : ℕ) (q : Pending) → Last (due_by S T (SupplyKind.LastResort d) q)
  unfolding due_by expiry_by
  last_resort d Pending.Nothing = cond_holds Last (leb d T) refl tt
  last_resort d (Pending.Request s e) =
      cond_holds Last (leb e T && not (ends_before (SupplyKind.LastResort d) e)) refl (cond_holds Last (leb d T) refl tt)

  single_event : (g : Point) → Last (due_by S T g.fields.supply.kind g.fields.supply.pending)
      → next_event S T (next_event S T g) ≡ next_event S T g
  unfolding next_event happened
  single_event g z = go (due_by S T g.fields.supply.kind g.fields.supply.pending) refl z
    where
      go : (x : Due) → due_by S T g.fields.supply.kind g.fields.supply.pending ≡ x → Last x → next_event S T (happened x g) ≡ happened x g
      go Due.Nothing e h = rw e
      go (Due.Naming d s) e h = rw h

  module _ (t : ℕ) (lt : t < T) where
    -- x, due by T, and e, the event of the day after t: none, or the same, which leaves fewer due.
    pub data Day (f : Fields) (x : Due) (e : Effect) : Type 0 where
      quiet : e ≡ Effect.Keep f → Ahead (suc t) f.supply → Day f x e
      falls : (s : Supply) → x ≡ Due.Naming (suc t) s → e ≡ Effect.Name (with_supply f s) → Ahead (suc t) s → Last (due_by S T s.kind s.pending)
          → due s < due f.supply → Day f x e

    on_deadline : (f : Fields) (k : SupplyKind) (x : Due) → f.supply.kind ≡ k → KindAhead t k → PendingAhead (suc t) f.supply.pending
        → (((e : ℕ) → suc t < e → ends_before k e ≡ true) → x ≡ expiry_by S T k f.supply.pending) → Day f x (deadline_event S (suc t) f k)
    unfolding deadline_event due_by expiry_by ends_before
    on_deadline f SupplyKind.None x i a b late = quiet refl (record { kind = rw i tt; pending = b })
    on_deadline f SupplyKind.Contract x i a b late = quiet refl (record { kind = rw i tt; pending = b })
    on_deadline f (SupplyKind.Default d) x i a b late = elim (dec_le d (suc t)) [
      | yes h ↦ let j : d ≡ suc t = omega arith in falls (supply S.resort (SupplyKind.LastResort (suc t + S.b)) f.supply.pending)
          (late (λ e l. lt-ltb d e (omega arith)) ∙ rw (le-leb d T (omega arith), j))
          (rw (eq-eqb d (suc t) j)) (record { kind = omega arith; pending = b }) (last_resort (suc t + S.b) f.supply.pending) (rw i (omega arith))
      | no h ↦ quiet (rw (ne_eqb d (suc t) (omega arith))) (record { kind = rw i (omega arith); pending = b })
    ]
    on_deadline f (SupplyKind.LastResort d) x i a b late = elim (dec_le d (suc t)) [
      | yes h ↦ let j : d ≡ suc t = omega arith in falls unsupplied (late (λ e l. lt-ltb d e (omega arith)) ∙ rw (le-leb d T (omega arith), j))
          (rw (eq-eqb d (suc t) j)) (record { kind = tt; pending = tt }) tt (rw i (omega arith))
      | no h ↦ quiet (rw (ne_eqb d (suc t) (omega arith))) (record { kind = rw i (omega arith); pending = b })
    ]

    not_before : (k : SupplyKind) (e : ℕ) → KindAhead t k → e ≤ suc t → ends_before k e ≡ false
    unfolding ends_before
    not_before SupplyKind.None e a h = refl
    not_before SupplyKind.Contract e a h = refl
    not_before (SupplyKind.Default d) e a h = le-ltb d e (omega arith)
    not_before (SupplyKind.LastResort d) e a h = le-ltb d e (omega arith)

    pub on_day_lem : (f : Fields) (q : Pending) → f.supply.pending ≡ q → KindAhead t f.supply.kind → PendingAhead t q
        → Day f (due_by S T f.supply.kind q) (pending_event S (suc t) f q)
    unfolding pending_event due_by expiry_by
    on_day_lem f Pending.Nothing i a b = on_deadline f _ _ refl a (rw i tt) (λ z. rw i)
    on_day_lem f (Pending.Request s e) i a b = elim (dec_le e (suc t)) [
      | yes h ↦ let j : e ≡ suc t = omega arith in falls (supply s SupplyKind.Contract Pending.Nothing)
          (rw (le-leb e T (omega arith), not_before f.supply.kind e a h, j)) (rw (eq-eqb e (suc t) j)) (record { kind = tt; pending = tt }) tt
          (rw i (omega arith))
      | no h ↦ rw (ne_eqb e (suc t) (omega arith))
          (on_deadline f _ _ refl a (rw i (omega arith)) (λ z. rw (z e (omega arith), and-false (leb e T), i)))
    ]

    one_day : (g : Point) → Ahead t g.fields.supply
        → (catch_up S T (on_day S (suc t) g) ≡ catch_up S T g) × Ahead (suc t) (on_day S (suc t) g).fields.supply
    unfolding catch_up next_event event happened
    one_day g a = go _ _ refl (on_day_lem g.fields g.fields.supply.pending refl a.kind a.pending)
      where
        go : (x : Due) (e : Effect) → due_by S T g.fields.supply.kind g.fields.supply.pending ≡ x → Day g.fields x e
            → (catch_up S T (entered (suc t) e g.history) ≡ catch_up S T g) × Ahead (suc t) (entered (suc t) e g.history).fields.supply
        go x e i (quiet k h) = (rw k, rw k h)
        go x e i (falls s k l h z m) = (rw (i, k, l) (single_event _ z), rw l h)

pub daily_catch_up : (S : Settings) → 0 < S.b → (n t : ℕ) (g : Point) → Ahead t g.fields.supply → daily S n t g ≡ catch_up S (t + n) g
unfolding daily
daily_catch_up S B zero t g a = rw (add-zero t) (sym (catch_up_none S B t g a))
daily_catch_up S B (suc n) t g a = let w = one_day S B (t + suc n) t (omega arith) g a in
    let e : suc t + n ≡ t + suc n = omega arith in
    rw e at (daily_catch_up S B n (suc t) (on_day S (suc t) g) w.1) ∙ w.0
