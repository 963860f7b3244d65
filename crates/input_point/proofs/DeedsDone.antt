-- What a deed does to a point is what the effect does, on one of its slots.
use Rattle.basics.proofs.Basics.{◌≡◌, refl, sym, ◌∙◌, ap, true, false, Bool, cond, ◌&&◌, List, ℕ, ◌-◌, ◌+◌, ◌<◌, suc}
use Rattle.basics.proofs.Basics.{zero, min, arith, eqb, ltb, leb, length, get_or, set, length-set, set-get_or, ltb-true}
use Rattle.basics.proofs.Basics.{leb-true}
use Rattle.rules.specs.declared.{Effect.Effect, Fields.Fields, History.History, Period.Period, Point.Point, Span.Span}
use Rattle.rules.specs.declared.{Action.Action}
use Rattle.rules.specs.Pinned.Register.{period, history, no_period, starts_on, replaced, appended, named, booked_slots, booked}
use Rattle.rules.specs.Pinned.Register.{booked_period}
use Rattle.rules.specs.Fields.{blank}
use Rattle.point_volumes.specs.Between.{is_fair, booked_if_fair, booked_newest}
use Rattle.point_volumes.proofs.Newest.{newest_booked}
use Rattle.point_effects.specs.Between.{noted}
use Rattle.line_messages.specs.declared.{Message.Message}
use Rattle.input_tables.specs.Between.Tables.{joined}
use Rattle.input_point.specs.declared.{answers.Said.Said, deeds.Deed.Deed, deeds.Entry.Entry}
use Rattle.input_point.specs.Between.Deeds.{slot, kept_deed, naming_deed, reading_deed, effect_deed, ruled_deed, call_deed, deed_of}

-- the point after a deed: its slots are row, n of them in use
abbrev pub point_after : List Period → ℕ → Deed → Point
point_after row n (Deed.Slot x) = joined x.fields x.count (set row x.place x.period)
point_after row n (Deed.Back t s f) = joined f n (booked_if_fair s (history n row)).periods
point_after row n (Deed.Sign t s) = joined blank n row
point_after row n (Deed.Pass t) = joined blank n row
point_after row n (Deed.Fail t s) = joined blank n row
point_after row n Deed.Whole = joined blank n row

module _ (t n : ℕ) (row : List Period) where
  abbrev q : Period
  q = get_or row (min n 24 - 1) no_period

  kept_after : (f : Fields) → joined f n row ≡ point_after row n (kept_deed t f n q)
  kept_after f = ap (joined f n) (sym (set-get_or row (min n 24 - 1) no_period))

  naming_after : (f : Fields) →
      record { fields = f; history = named t f.supply.holder (history n row) } ≡ point_after row n (naming_deed t f n q)
  unfolding naming_deed named starts_on replaced appended
  naming_after f = go (ltb 0 (min n 24) && eqb q.start t) (ltb (min n 24) 24)
    where
      go : (a b : Bool) →
          record {
            fields = f;
            history = cond a (history n (set row (min n 24 - 1) (period t f.supply.holder q.volume.0 q.normal.0)))
                (cond b (history (min n 24 + 1) (set row (min n 24) (period t f.supply.holder 0 0))) (history n row));
          } ≡ point_after row n (cond a (slot t f n (min n 24 - 1) (period t f.supply.holder q.volume.0 q.normal.0))
          (cond b (slot t f (min n 24 + 1) (min n 24) (period t f.supply.holder 0 0)) (kept_deed t f n q)))
      go true b = refl
      go false true = refl
      go false false = kept_after f

  newest_after : (s : Span) → ltb 0 (min n 24) ≡ true → leb q.start s.from ≡ true →
      booked_if_fair s (history n row) ≡ history n (set row (min n 24 - 1) (booked_newest s q))
  unfolding booked_if_fair booked_newest
  newest_after s x y = go (is_fair s)
    where
      go : (b : Bool) →
          cond b (booked s (history n row)) (history n row)
          ≡ history n (set row (min n 24 - 1) (cond b (booked_period s s.to q) q))
      go true = newest_booked s (history n row) (omega (arith, ltb-true 0 (min n 24) x)) (leb-true q.start s.from y)
      go false = ap (history n) (sym (set-get_or row (min n 24 - 1) no_period))

  back_after : (s : Span) (f : Fields) → record { fields = f; history = booked_if_fair s (history n row) } ≡ point_after row n (Deed.Back t s f)
  unfolding booked_if_fair booked
  back_after s f = go (is_fair s)
    where
      go : (b : Bool) →
          record { fields = f; history = cond b (history n (booked_slots s s.to (min n 24) row)) (history n row) }
          ≡ joined f n (cond b (history n (booked_slots s s.to (min n 24) row)) (history n row)).periods
      go true = refl
      go false = refl

  read_after : (s : Span) (f : Fields) → record { fields = f; history = booked_if_fair s (history n row) } ≡ point_after row n (reading_deed t s f n q)
  unfolding reading_deed
  read_after s f = go (ltb 0 (min n 24)) refl (leb q.start s.from) refl
    where
      go : (a : Bool) → ltb 0 (min n 24) ≡ a → (b : Bool) → leb q.start s.from ≡ b →
          record { fields = f; history = booked_if_fair s (history n row) }
          ≡ point_after row n (cond (a && b) (slot t f n (min n 24 - 1) (booked_newest s q)) (Deed.Back t s f))
      go true x true y = ap (λ (h : History). record { fields = f; history = h }) (newest_after s x y)
      go true x false y = back_after s f
      go false x b y = back_after s f

  pub effect_after : (e : Effect) → noted t e (history n row) ≡ point_after row n (effect_deed t e n q)
  unfolding effect_deed noted
  effect_after (Effect.Keep f) = kept_after f
  effect_after (Effect.Name f) = naming_after f
  effect_after (Effect.Enrol f) = naming_after f
  effect_after (Effect.Read s f) = read_after s f
  effect_after (Effect.Request e f) = kept_after f

-- ---- a deed is on one of the 24 slots, or of one of the suppliers

-- a deed at a point on day t, on one of the 24 slots
abbrev pub On : ℕ → Deed → Type 0
On t (Deed.Slot x) = (x.today ≡ t) × (x.place < 24)
On t (Deed.Back d s f) = d ≡ t
On t (Deed.Sign d s) = ⊥
On t (Deed.Pass d) = ⊥
On t (Deed.Fail d s) = ⊥
On t Deed.Whole = ⊥

module _ (t n : ℕ) (q : Period) where
  naming_on : (f : Fields) → On t (naming_deed t f n q)
  unfolding naming_deed
  naming_on f = go (ltb 0 (min n 24) && eqb q.start t) (ltb (min n 24) 24) refl
    where
      go : (a b : Bool) → ltb (min n 24) 24 ≡ b →
          On t (cond a (slot t f n (min n 24 - 1) (period t f.supply.holder q.volume.0 q.normal.0))
          (cond b (slot t f (min n 24 + 1) (min n 24) (period t f.supply.holder 0 0)) (kept_deed t f n q)))
      go true b e = (refl, omega arith)
      go false true e = (refl, ltb-true (min n 24) 24 e)
      go false false e = (refl, omega arith)

  read_on : (s : Span) (f : Fields) → On t (reading_deed t s f n q)
  unfolding reading_deed
  read_on s f = go (ltb 0 (min n 24) && leb q.start s.from)
    where
      go : (a : Bool) → On t (cond a (slot t f n (min n 24 - 1) (booked_newest s q)) (Deed.Back t s f))
      go true = (refl, omega arith)
      go false = refl

  pub effect_on : (e : Effect) → On t (effect_deed t e n q)
  unfolding effect_deed
  effect_on (Effect.Keep f) = (refl, omega arith)
  effect_on (Effect.Name f) = naming_on f
  effect_on (Effect.Enrol f) = naming_on f
  effect_on (Effect.Read s f) = read_on s f
  effect_on (Effect.Request e f) = (refl, omega arith)

  pub slot_within : (e : Effect) {x : Entry} → Deed.Slot x ≡ effect_deed t e n q → x.place < 24
  slot_within e h = (rw (← h) at (effect_on e)).1

abbrev pub Within : Deed → Type 0
Within (Deed.Slot x) = x.place < 24
Within (Deed.Back t s f) = Unit {0}
Within (Deed.Sign t s) = s < 100
Within (Deed.Pass t) = Unit {0}
Within (Deed.Fail t s) = s < 100
Within Deed.Whole = Unit {0}

on_within : (t : ℕ) (d : Deed) → On t d → Within d
on_within t (Deed.Slot x) (e, k) = k
on_within t (Deed.Back b s f) e = tt
on_within t (Deed.Sign b s) e = absurd e
on_within t (Deed.Pass b) e = absurd e
on_within t (Deed.Fail b s) e = absurd e
on_within t Deed.Whole e = absurd e

ruled_within : (t : ℕ) (x : Said) (n : ℕ) (q : Period) → Within (ruled_deed t x n q)
unfolding ruled_deed
ruled_within t (Said.Known a) n q = tt
ruled_within t (Said.Ruled x) n q = on_within t (effect_deed t x.effect n q) (effect_on t n q x.effect)
ruled_within t (Said.Fails d s) n q = tt

call_within : (t : ℕ) (a : Action) (x : Said) (n : ℕ) (q : Period) → Within (call_deed t a x n q)
unfolding call_deed
call_within t (Action.Contract s) x n q = go (ltb s 100) refl
  where
    go : (b : Bool) → ltb s 100 ≡ b → Within (cond b (Deed.Sign t s) Deed.Whole)
    go true e = ltb-true s 100 e
    go false e = tt
call_within t (Action.Failure s) x n q = go (ltb s 100) refl
  where
    go : (b : Bool) → ltb s 100 ≡ b → Within (cond b (Deed.Fail t s) Deed.Whole)
    go true e = ltb-true s 100 e
    go false e = tt
call_within t (Action.At p a) x n q = ruled_within t x n q
call_within t Action.Day x n q = tt

pub deed_within : (quiet : ℕ) (m : Message) (x : Said) (n : ℕ) (q : Period) → Within (deed_of quiet m x n q)
unfolding deed_of
deed_within quiet (Message.Open o) x n q = tt
deed_within quiet (Message.Ask c) x n q = go (ltb c.today quiet)
  where
    go : (b : Bool) → Within (cond b (call_deed c.today c.action x n q) Deed.Whole)
    go true = call_within c.today c.action x n q
    go false = tt
deed_within quiet Message.Unreadable x n q = tt

-- ---- booking keeps the number of slots

slots_length : (s : Span) (n e : ℕ) (ps : List Period) → length (booked_slots s e n ps) ≡ length ps
unfolding booked_slots
slots_length s zero e ps = refl
slots_length s (suc n) e ps = go (leb (get_or ps n no_period).start s.from) (slots_length s n _ _ ∙ length-set ps n _)
  where
    go : (b : Bool) →
        length (booked_slots s (get_or ps n no_period).start n (set ps n (booked_period s e (get_or ps n no_period)))) ≡ length ps →
        length (cond b (set ps n (booked_period s e (get_or ps n no_period)))
        (booked_slots s (get_or ps n no_period).start n (set ps n (booked_period s e (get_or ps n no_period)))))
        ≡ length ps
    go true h = length-set ps n _
    go false h = h

pub booked_length : (s : Span) (h : History) → length (booked_if_fair s h).periods ≡ length h.periods
unfolding booked_if_fair booked
booked_length s h = go (is_fair s)
  where
    go : (b : Bool) → length (cond b (history h.count (booked_slots s s.to (min h.count 24) h.periods)) h).periods
        ≡ length h.periods
    go true = slots_length s (min h.count 24) s.to h.periods
    go false = refl
