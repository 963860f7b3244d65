-- What the checks have seen to where they let a call through: its numbers fit, and its reading can be booked.
use Rattle.basics.proofs.Basics.{◌≡◌, refl, true, false, Bool, cond, ◌||◌, [], ◌≤◌, ℕ, ◌+◌, ◌<◌, eqb, ltb, leb, le-leb}
use Rattle.basics.proofs.Basics.{ltb-false, leb-false, dec_le, arith}
use Rattle.dates.specs.Dates.{last_day}
use Rattle.dates.specs.Months.{three_months_after}
use Rattle.rules.specs.declared.{Effect.Effect, Fields.Fields, History.History, NewMeter.NewMeter, PointAction.PointAction}
use Rattle.rules.specs.declared.{Settings.Settings, SupplyKind.SupplyKind}
use Rattle.rules.specs.Fields.{supply, with_supply, with_pending}
use Rattle.rules.specs.Effects.{spans_in, effective_day, effect_of, dropped, failed}
use Rattle.rules.specs.Rejections.{not_mark, not_meter, bad_factor, not_supplier, not_key, is_past, rows_at}
use Rattle.rules.specs.Pinned.Register.{entered}
use Rattle.rules.specs.Volumes.{turn_of, span_to}
use Rattle.rules.proofs.Accept.{pass, neither}
use Rattle.rules.proofs.Meters.{within, meter_in_range, factor_in_range, factor_none}
use Rattle.rules.proofs.Views.{dated, dated_also, passed_at}
use Rattle.point_volumes.proofs.Readings.{read_span, read_booked}
use Rattle.point_answers.specs.Between.{answer_at}
use Rattle.point_effects.specs.Between.{Accepted, noted, failed_by}

-- An accepted meter: a factor that is none is 0.
abbrev pub Fits : NewMeter → Type 0
Fits m = (m.before ≤ 8) × (m.after ≤ 3) × (m.factor ≤ 99999)

meter_fits : (m : NewMeter) → not_meter m ≡ false → bad_factor m ≡ false → Fits m
meter_fits m h k = let n = meter_in_range m h in (
  n.0,
  n.1,
  elim (dec_le m.code 1) [
    | yes q ↦ (factor_in_range m k (omega arith)).1
    | no q ↦ omega (arith, factor_none m k (omega arith))
  ],
)

-- A reading goes forward to a day of the calendar, and the wheels have its index.
pub record Readable (f : Fields) (d x z : ℕ) : Type 0 where
  pub calendar : d ≤ last_day
  pub forward : f.reading.day < d
  pub index : x < turn_of f.meter
  pub mark : z ≤ 1

module _ (S : Settings) (t : ℕ) (f : Fields) where
  pub today_fits : (a : PointAction) → Accepted S t a f → t ≤ last_day
  unfolding answer_at
  today_fits a h = (passed_at S h.day h.contracts t h.point a h.view _ h.ok).0

  pub enrol_fits : (m : NewMeter) → Accepted S t (PointAction.Enrol m) f → Fits m
  unfolding answer_at rows_at
  enrol_fits m h = let k = pass _ _ _ _ h.ok in meter_fits m k.0 (pass _ _ _ _ k.1).0

  pub service_fits : (s k : ℕ) → Accepted S t (PointAction.IntoService s k) f → (s ≤ 99) × (k ≤ 999999999)
  unfolding answer_at rows_at
  service_fits s k h = let n = neither (not_supplier s) (not_key k) (pass _ _ _ _ h.ok).0 in
      ((within 1 99 s n.0).1, (within 1 999999999 k n.1).1)

  pub default_fits : (k : ℕ) → Accepted S t (PointAction.DefaultSupply k) f → k ≤ 999999999
  unfolding answer_at rows_at
  default_fits k h = (within 1 999999999 k (pass _ _ _ _ h.ok).0).1

  pub request_fits : (s k r : ℕ) → Accepted S t (PointAction.Request s k r) f → (s ≤ 99) × (effective_day S t r ≤ last_day)
  unfolding answer_at rows_at
  request_fits s k r h = let a = pass _ _ _ _ h.ok in let b = (dated_also h.day t _ _ _ a.1).1.rest in
      let c = pass _ _ _ _ (pass _ _ _ _ (pass _ _ _ _ b).1).1 in
      let d = neither (ltb r t || ltb (three_months_after t) r) (is_past (effective_day S t r)) c.0 in
      ((within 1 99 s (neither (not_supplier s) (not_key k) a.0).0).1, ltb-false last_day (effective_day S t r) d.1)

  pub suspend_fits : (m : ℕ) → Accepted S t (PointAction.Suspend m) f → m ≤ 1
  unfolding answer_at rows_at
  suspend_fits m h = (within 0 1 m (pass _ _ _ _ h.ok).0).1

  pub reading_fits : (d x z : ℕ) → Accepted S t (PointAction.Reading d x z) f → Readable f d x z
  unfolding answer_at rows_at
  reading_fits d x z h = let a = pass _ _ _ _ h.ok in let b = dated_also h.day t _ _ _ a.1 in
      let c = pass _ _ _ _ (pass _ _ _ _ b.1.rest).1 in let e = pass _ _ _ _ c.1 in
      let i = neither _ _ (neither _ _ e.0).0 in
      rw (← h.same) (record {
        calendar = ltb-false last_day d b.0;
        forward = leb-false d h.view.fields.reading.day (neither (leb d h.view.fields.reading.day) (ltb t d) c.0).0;
        index = leb-false (turn_of h.view.fields.meter) x i.0;
        mark = (within 0 1 z a.0).1;
      })

  pub change_fits : (x z : ℕ) (m : NewMeter) → Accepted S t (PointAction.MeterChange x z m) f → Readable f t x z × Fits m
  unfolding answer_at rows_at
  change_fits x z m h = let k = pass _ _ _ _ h.ok in let n = neither (not_mark z) (not_meter m) k.0 in
      let j = pass _ _ _ _ k.1 in
      let d = dated h.day t _ _ j.1 in let c = pass _ _ _ _ (pass _ _ _ _ d.rest).1 in
      let e = pass _ _ _ _ c.1 in let i = neither _ _ (neither _ _ (neither _ (leb _ m.index) e.0).0).0 in
      let r : Readable f t x z = rw (← h.same) (record {
        calendar = d.calendar;
        forward = leb-false t h.view.fields.reading.day (neither (leb t h.view.fields.reading.day) (ltb t t) c.0).0;
        index = leb-false (turn_of h.view.fields.meter) x i.0;
        mark = (within 0 1 z n.0).1;
      }) in (r, meter_fits m n.1 j.0)

-- An effect without a reading, and that of an accepted call, are written down as the definition enters them.
pub unread_noted : (t : ℕ) (e : Effect) (h : History) → spans_in e ≡ [] → noted t e h ≡ entered t e h
unfolding noted
unread_noted t e h q = rw q

read_noted : (t : ℕ) (f g : Fields) (d x z : ℕ) (h : History) → Readable f d x z
    → noted t (Effect.Read (span_to f d x z) g) h ≡ entered t (Effect.Read (span_to f d x z) g) h
unfolding noted
read_noted t f g d x z h k = let e = read_span f d x z k.index k.mark in
    rw (rw e at (read_booked f.meter f.reading d x z k.forward k.calendar h))

pub accepted_noted : (S : Settings) (t : ℕ) (a : PointAction) (f : Fields) (h : History) → Accepted S t a f
    → noted t (effect_of S t a f) h ≡ entered t (effect_of S t a f) h
unfolding effect_of
accepted_noted S t (PointAction.Enrol m) f h k = unread_noted t _ h refl
accepted_noted S t (PointAction.IntoService s y) f h k = unread_noted t _ h refl
accepted_noted S t (PointAction.DefaultSupply y) f h k = unread_noted t _ h refl
accepted_noted S t (PointAction.Request s y r) f h k = unread_noted t _ h refl
accepted_noted S t (PointAction.Cancel s) f h k = unread_noted t _ h refl
accepted_noted S t (PointAction.Reading d x z) f h k = read_noted t f _ d x z h (reading_fits S t f d x z k)
accepted_noted S t (PointAction.MeterChange x z m) f h k = read_noted t f _ t x z h (change_fits S t f x z m k).0
accepted_noted S t PointAction.OutOfService f h k = unread_noted t _ h refl
accepted_noted S t (PointAction.Suspend m) f h k = unread_noted t _ h refl

-- So is a failure's.
pub failed_noted : (S : Settings) (t s : ℕ) (f : Fields) (h : History) → t ≤ last_day
    → noted t (failed_by S t s f) h ≡ entered t (failed S t s f) h
unfolding failed_by failed
failed_noted S t s f h le = rw (le-leb t last_day le) (go (eqb f.supply.holder s))
  where
    go : (b : Bool) → noted t (cond b
        (Effect.Name (with_supply f (supply S.resort (SupplyKind.LastResort (t + S.b)) (dropped s f.supply.pending))))
        (Effect.Keep (with_pending f (dropped s f.supply.pending)))) h ≡ entered t (cond b
        (Effect.Name (with_supply f (supply S.resort (SupplyKind.LastResort (t + S.b)) (dropped s f.supply.pending))))
        (Effect.Keep (with_pending f (dropped s f.supply.pending)))) h
    go true = unread_noted t _ h refl
    go false = unread_noted t _ h refl
