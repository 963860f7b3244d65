-- Every accepted call leaves a fine point behind (`Good`), whichever point one looks at.
use Rattle.basics.proofs.Basics.{◌≡◌, refl, sym, ◌∙◌, ap, subst, true, false, Bool, cond, ◌&&◌, false≢true, ◌||◌, not}
use Rattle.basics.proofs.Basics.{List, [], ◌∷◌, ◌≤◌, ℕ, ◌+◌, ◌<◌, suc, zero, ◌*◌, max, le_trans}
use Rattle.basics.proofs.Basics.{mul-le-mul, mul-le-mul_left, mul-le-mul_right, div-le_of_le-mul, arith, eqb, ltb, leb, ltb-false, eqb-true}
use Rattle.basics.proofs.Basics.{ltb-true, not-false, leb-false, eqb-false}
use Rattle.rules.specs.declared.{Fields.Fields, Settings.Settings, Supply.Supply, SupplyKind.SupplyKind}
use Rattle.rules.specs.declared.{Pending.Pending, Code.Code, NewMeter.NewMeter, Span.Span, Action.Action}
use Rattle.rules.specs.declared.{PointAction.PointAction, Answer.Answer, Effect.Effect}
use Rattle.rules.specs.Fields.{supply, fitted, reading, fields, with_supply, with_pending, unsupplied}
use Rattle.rules.specs.Effects.{fields_of, names, spans_in, enrols, notice, effective_day, effect_of, failed, effect, dropped}
use Rattle.rules.specs.Volumes.{turn_of, unit_of, advance_of, span_to, summed}
use Rattle.rules.specs.Answers.{is_accepted}
use Rattle.rules.specs.declared.{Rejection.Rejection, View.View}
use Rattle.rules.specs.Rejections.{Row, first_of, due, pending_due, marks_after, is_full, is_by, touches, any_point}
use Rattle.rules.specs.Rejections.{not_point, not_mark, not_meter, bad_factor, not_enrolled, out_of_time}
use Rattle.rules.specs.Rejections.{index_disagrees, last_resort_near, rows_at, rows, shown, answer_to, accepted}
use Rattle.rules.proofs.Meters.{turn_unit, factor_most, meter_in_range, factor_in_range}
use Rattle.rules.proofs.Views.{shown_in, dated, dated_also}
use Rattle.rules.proofs.Accept.{pass, neither}
use Rattle.agreement.specs.Sound.{Side, wheels, normal, per_day, FactorFits, PendingAhead}
use Rattle.agreement.proofs.Shares.{whole_on, whole_by}
use Rattle.agreement.proofs.Slots.{cond_holds}
use Rattle.agreement.proofs.Good.{Fitted, Fine, Names, Good, marks_most, not_blank, unread, unchanged, naming, enrolled_by_lem}

pass_near : (S : Settings) (t : ℕ) (k : SupplyKind) (rs : List Row) (a : Answer) → is_accepted (first_of (last_resort_near S t k ∷ rs) a) ≡ true
    → is_accepted (first_of rs a) ≡ true
unfolding first_of
pass_near S t SupplyKind.None rs a h = h
pass_near S t SupplyKind.Contract rs a h = h
pass_near S t (SupplyKind.Default d) rs a h = go (leb d (t + notice S t)) h
  where
    go : (b : Bool) → is_accepted (cond b (Answer.Refused (Rejection.LastResortUnderWay d)) (first_of rs a)) ≡ true → is_accepted (first_of rs a) ≡ true
    go true z = absurd (false≢true z)
    go false z = z
pass_near S t (SupplyKind.LastResort d) rs a h = h

is_enrolled : (p : ℕ) (v : View) → not_enrolled p v ≡ false → v.fields.enrolled ≡ true
is_enrolled p v h = not-false _ (neither (not_point p) _ h).1

-- What a reading books: at most a full turn.
advance_most : (x₁ x z turn : ℕ) → z ≤ 1 → leb turn x ≡ false → (eqb z 0 && ltb x x₁) ≡ false → (eqb z 1 && not (ltb x x₁)) ≡ false
    → advance_of x₁ x z turn ≤ turn
unfolding advance_of
advance_most x₁ x zero turn h a b c = omega (arith, leb-false turn x a)
advance_most x₁ x (suc zero) turn h a b c = omega (arith, ltb-true x x₁ (not-false (ltb x x₁) c))
advance_most x₁ x (suc (suc z)) turn h a b c = absurd (omega arith)

span_most : (f : Fields) (d x z : ℕ) → not_mark z ≡ false → index_disagrees f x z ≡ false
    → (span_to f d x z).advance * (span_to f d x z).unit ≤ per_day wheels
unfolding span_to
span_most f d x z m i = let c = neither (leb (turn_of f.meter) x || (eqb z 0 && ltb x f.reading.index)) _ i in
    let b = neither (leb (turn_of f.meter) x) _ c.0 in le_trans (mul-le-mul_right (unit_of f.meter)
    (advance_most f.reading.index x z (turn_of f.meter) (ltb-false 1 z (neither (ltb z 0) (ltb 1 z) m).1) b.0 b.1 c.1))
    (turn_unit f.meter)

-- In normal cubic metres at most ten times as much.
whole_most : (y : Side) (s : Span) → s.from < s.to → s.advance * s.unit ≤ per_day wheels → s.factor ≤ 99999
    → whole_on y s ≤ per_day y
whole_most wheels s lt v f = v
whole_most normal s lt v f = rw (whole_by s lt normal)
    (div-le_of_le-mul 10000 (le_trans (mul-le-mul v f) (omega arith)))

-- one day more
day_more : (y : Side) (a b : ℕ) → a < b → per_day y + per_day y * a ≤ per_day y * b
day_more wheels a b lt = omega arith
day_more normal a b lt = omega arith

-- the meter that an accepted call brings
new_fitted : (m : NewMeter) → not_meter m ≡ false → bad_factor m ≡ false → Fitted (fitted m)
new_fitted m n b = let w = meter_in_range m n in (w.0, w.1, go (eqb m.code 1) refl)
  where
    go : (c : Bool) → eqb m.code 1 ≡ c → FactorFits (cond c (Code.Cubic m.factor) Code.Normal)
    go true q = factor_in_range m b (eqb-true m.code 1 q)
    go false q = tt

pending_dropped : (t s : ℕ) (q : Pending) → PendingAhead t q → PendingAhead t (dropped s q)
pending_dropped t s Pending.Nothing h = tt
pending_dropped t s (Pending.Request q e) h = cond_holds (PendingAhead t) (eqb q s) tt h

due_dropped : (s : ℕ) (q : Pending) → pending_due (dropped s q) ≤ pending_due q
due_dropped s Pending.Nothing = omega arith
due_dropped s (Pending.Request q e) = cond_holds (λ (x : Pending). pending_due x ≤ 1) (eqb q s) (omega arith) (omega arith)

-- The enrolments of an effect on day t.
abbrev pub enrolled_by : ℕ → Effect → List ℕ
enrolled_by t e = cond (enrols e) (t ∷ []) []

module _ (S : Settings) (A : 0 < S.a) (B : 0 < S.b) (day : ℕ) (u : List Bool) (t : ℕ) where
  -- the calls that name a point, there
  module _ (v : View) (h : Fine t v) where
    not_full : (e : Effect) → is_full v e ≡ false → marks_after v e + due (fields_of e).supply ≤ 24
    not_full e f = ltb-false 24 (marks_after v e + due (fields_of e).supply) f

    -- a pending request comes or goes
    asks : v.fields.enrolled ≡ true → (q : Pending) → PendingAhead t q → (e : Effect) → fields_of e ≡ with_pending v.fields q
        → names e ≡ false → v.marks + due (with_pending v.fields q).supply ≤ 24 → Good t v e [] []
    asks y q a e fs n f =
        unread t v h.past h.meter e [] (rw fs refl) (rw fs refl) (rw fs (record { kind = h.ahead.kind; pending = a })) (rw (fs, n) refl)
        (rw (fs, n) (refl, refl)) (rw (fs, n) f) (rw fs (not_blank y))

    -- a reading on day d
    reads : v.fields.enrolled ≡ true → (d x z : ℕ) (g : Fields) → g.reading.day ≡ d → g.enrolled ≡ v.fields.enrolled
        → g.supply ≡ v.fields.supply → Fitted g.meter → out_of_time t d v.fields ≡ false
        → not_mark z ≡ false → index_disagrees v.fields x z ≡ false
        → Good t v (Effect.Read (span_to v.fields d x z) g) (span_to v.fields d x z ∷ []) []
    unfolding summed span_to
    reads y d x z g r n s w o m i = let c = neither (leb d v.fields.reading.day) (ltb t d) o in
        let lt : v.fields.reading.day < d = leb-false d v.fields.reading.day c.0 in
        let le : d ≤ t = ltb-false t d c.1 in
        record {
          lo = omega arith;
          hi = omega arith;
          made = ((refl, lt, omega arith), tt);
          once = not_blank y;
          most = λ y. rw r (omega (
            arith,
            day_more y v.fields.reading.day d lt,
            whole_most y (span_to v.fields d x z) lt (span_most v.fields d x z m i) (factor_most v.fields.meter.code),
          ));
          meter = w;
          ahead = rw s h.ahead;
          keeps = ap (λ (x : Supply). x.holder) s;
          enrols = (n, refl);
          fit = rw s h.fit;
          blank = not_blank (n ∙ y);
        }

    at_good : (p : ℕ) (a : PointAction) (b : Answer) → is_accepted (first_of (rows_at S day u t p a v) b) ≡ true
        → Good t v (effect_of S t a v.fields) (spans_in (effect_of S t a v.fields)) (enrolled_by t (effect_of S t a v.fields))
    unfolding effect_of rows_at summed effective_day
    at_good p (PointAction.Enrol m) _ ok = let c = pass _ _ _ _ ok in let b = pass _ _ _ _ c.1 in
        let k = pass _ _ _ _ (pass _ _ _ _ (dated day t _ _ b.1).rest).1 in let z = h.blank k.0 in
        record {
          lo = h.past;
          hi = omega arith;
          made = tt;
          once = λ n. refl;
          most = λ x. omega (arith, mul-le-mul_left (per_day x) h.past);
          meter = new_fitted m c.0 b.0;
          ahead = record { kind = tt; pending = tt };
          keeps = tt;
          enrols = subst (λ (n : Bool). Names t n (fields true unsupplied 0 0 (fitted m) (reading t m.index)) (t ∷ [])) (sym k.0) (refl, refl, refl);
          fit = omega (arith, z.0, marks_most v (Effect.Name v.fields));
          blank = not_blank refl;
        }
    at_good p (PointAction.IntoService s k) _ ok =
        let b = pass _ _ _ _ (pass _ _ _ _ (dated day t _ _ (pass _ _ _ _ ok).1).rest).1 in
        naming t v h.past h.meter (is_enrolled p v b.0) _ refl refl refl (record { kind = tt; pending = h.ahead.pending })
        (not_full (effect_of S t (PointAction.IntoService s k) v.fields) (pass _ _ _ _ (pass _ _ _ _ b.1).1).0)
    at_good p (PointAction.DefaultSupply k) _ ok =
        let b = pass _ _ _ _ (dated_also day t _ _ _ (pass _ _ _ _ ok).1).1.rest in
        naming t v h.past h.meter (is_enrolled p v b.0) _ refl refl refl (record { kind = omega arith; pending = h.ahead.pending })
        (not_full (effect_of S t (PointAction.DefaultSupply k) v.fields) (pass _ _ _ _ (pass _ _ _ _ b.1).1).0)
    at_good p (PointAction.Request s k r) _ ok =
        let b = pass _ _ _ _ (pass _ _ _ _ (dated_also day t _ _ _ (pass _ _ _ _ ok).1).1.rest).1 in
        let f = pass _ _ _ _ (pass _ _ _ _ (pass _ _ _ _ (pass _ _ _ _ (pass _ _ _ _ b.1).1).1).1).1 in
        asks (is_enrolled p v b.0) (Pending.Request s (max r (t + notice S t))) (omega arith) _ refl refl
        (not_full (effect_of S t (PointAction.Request s k r) v.fields) (pass _ _ _ _ (pass_near S t v.fields.supply.kind _ _ f.1)).0)
    at_good p (PointAction.Cancel s) _ ok =
        asks (is_enrolled p v (pass _ _ _ _ (dated day t _ _ (pass _ _ _ _ ok).1).rest).0) Pending.Nothing tt _ refl refl (omega (arith, h.fit))
    at_good p (PointAction.Reading d x z) _ ok = let c = pass _ _ _ _ ok in
        let k = pass _ _ _ _ (dated_also day t _ _ _ c.1).1.rest in let l = pass _ _ _ _ k.1 in
        reads (is_enrolled p v k.0) d x z _ refl refl refl h.meter l.0 c.0 (pass _ _ _ _ l.1).0
    at_good p (PointAction.MeterChange x z m) _ ok = let c = pass _ _ _ _ ok in let b = pass _ _ _ _ c.1 in
        let k = pass _ _ _ _ (dated day t _ _ b.1).rest in let l = pass _ _ _ _ k.1 in
        let n = neither (not_mark z) (not_meter m) c.0 in
        let i = neither (index_disagrees v.fields x z) _ (pass _ _ _ _ l.1).0 in
        reads (is_enrolled p v k.0) t x z _ refl refl refl (new_fitted m n.1 b.0) l.0 n.0 i.0
    at_good p PointAction.OutOfService _ ok = let b = pass _ _ _ _ (dated day t _ _ ok).rest in
        naming t v h.past h.meter (is_enrolled p v b.0) _ refl refl refl (record { kind = tt; pending = tt })
        (not_full (effect_of S t PointAction.OutOfService v.fields) (pass _ _ _ _ (pass _ _ _ _ b.1).1).0)
    at_good p (PointAction.Suspend m) _ ok = unchanged t v h _ refl refl refl refl

    -- a failure, at any point
    module _ (s : ℕ) (lo : 0 < s) where
      abbrev left : Pending
      left = dropped s v.fields.supply.pending

      abbrev taken : Fields
      taken = with_supply v.fields (supply S.resort (SupplyKind.LastResort (t + S.b)) left)

      failed_good : (touches s v.fields && is_full v (failed S t s v.fields)) ≡ false
          → Good t v (failed S t s v.fields) (spans_in (failed S t s v.fields)) (enrolled_by t (failed S t s v.fields))
      unfolding failed
      failed_good f = go (eqb v.fields.supply.holder s) refl f
        where
          ahead : PendingAhead t left
          ahead = pending_dropped t s v.fields.supply.pending h.ahead.pending

          go : (b : Bool) → eqb v.fields.supply.holder s ≡ b → let e = cond b (Effect.Name taken) (Effect.Keep (with_pending v.fields left)) in
              ((b || is_by s v.fields.supply.pending) && is_full v e) ≡ false → Good t v e (spans_in e) (enrolled_by t e)
          go true e k = let y = enrolled_by_lem t v h (λ q. let w : v.fields.supply.holder ≡ 0 = ap (λ (x : Supply). x.holder) q in
              omega (arith, eqb-true v.fields.supply.holder s e)) in
              naming t v h.past h.meter y taken refl refl refl (record { kind = omega arith; pending = ahead }) (not_full (Effect.Name taken) k)
          go false e k =
              unread t v h.past h.meter (Effect.Keep (with_pending v.fields left)) [] refl refl
              (record { kind = h.ahead.kind; pending = ahead }) refl (refl, refl) (omega (arith, h.fit, due_dropped s v.fields.supply.pending))
              (λ z. ((h.blank z).0, ap (λ (x : Supply). supply x.holder x.kind (dropped s x.pending)) (h.blank z).1))

  any_none : (n p : ℕ) (f : ℕ → Bool) → any_point p n f ≡ false → (q : ℕ) → p ≤ q → q < p + n → f q ≡ false
  unfolding any_point
  any_none zero p f h q lo hi = absurd (omega arith)
  any_none (suc n) p f h q lo hi = go (eqb p q) refl (neither (f p) (any_point (suc p) n f) h) (any_none n (suc p) f)
    where
      go : (b : Bool) → eqb p q ≡ b → (f p ≡ false) × (any_point (suc p) n f ≡ false)
          → (any_point (suc p) n f ≡ false → (q : ℕ) → suc p ≤ q → q < suc p + n → f q ≡ false) → f q ≡ false
      go true e w ih = rw (← (eqb-true p q e)) w.0
      go false e w ih = let z : p ≡ q → ⊥ = eqb-false p q e in ih w.1 q (omega arith) (omega arith)

  seen_good : (v : ℕ → View) (p : ℕ) → 1 ≤ p → p ≤ 32 → Fine t (v p) → (c : Action) → is_accepted (answer_to S day u t c v) ≡ true
      → Good t (v p) (effect S t c p (v p).fields) (spans_in (effect S t c p (v p).fields)) (enrolled_by t (effect S t c p (v p).fields))
  unfolding effect rows answer_to
  seen_good v p lo hi h (Action.Contract s) ok = unchanged t (v p) h (v p).fields refl refl refl refl
  seen_good v p lo hi h (Action.Failure s) ok = let k = pass _ _ _ _ ok in
      let l = pass _ _ _ _ (pass _ _ _ _ (dated_also day t _ _ _ k.1).1.rest).1 in
      failed_good (v p) h s (ltb-false s 1 (neither (ltb s 1) (ltb 99 s) k.0).0)
      (any_none 32 1 (λ q. touches s (v q).fields && is_full (v q) (failed S t s (v q).fields)) (pass _ _ _ _ l.1).0 p lo (omega arith))
  seen_good v p lo hi h (Action.At q a) ok = go (eqb p q) refl
    where
      go : (b : Bool) → eqb p q ≡ b → let e = cond b (effect_of S t a (v p).fields) (Effect.Keep (v p).fields) in
          Good t (v p) e (spans_in e) (enrolled_by t e)
      go true e = at_good (v p) h q a (accepted S t (Action.At q a) v) (rw (eqb-true p q e) ok)
      go false e = unchanged t (v p) h (v p).fields refl refl refl refl
  seen_good v p lo hi h Action.Day ok = unchanged t (v p) h (v p).fields refl refl refl refl

  -- An accepted call at point p, which shows v p.
  pub call_good : (v : ℕ → View) (p : ℕ) → 1 ≤ p → p ≤ 32 → Fine t (v p) → (c : Action)
      → is_accepted (answer_to S day u t c (shown v)) ≡ true
      → let e = effect S t c p (v p).fields in Good t (v p) e (spans_in e) (enrolled_by t e)
  call_good v p lo hi h c ok = let q = shown_in v p lo hi in
      subst (λ (x : View). let e = effect S t c p x.fields in Good t x e (spans_in e) (enrolled_by t e)) q
      (seen_good (shown v) p lo hi (rw q h) c ok)
