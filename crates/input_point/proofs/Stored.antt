-- What a deed stores in the tables is what the message does to the register.
use Rattle.basics.proofs.Basics.{◌≡◌, refl, sym, ◌∙◌, ap, true, false, Bool, cond, false≢true, true≢false, List, map}
use Rattle.basics.proofs.Basics.{◌≤◌, ℕ, ◌-◌, ◌+◌, ◌<◌, ◌*◌, min, arith, eqb, ltb, length, get_or, set, length-set}
use Rattle.basics.proofs.Basics.{set-get_or, length-paste, lt-ltb, le-ltb, ltb-true}
use Rattle.rules.specs.declared.{Effect.Effect, Fields.Fields, Period.Period, Point.Point, Span.Span}
use Rattle.rules.specs.declared.{Register.Register, Settings.Settings, View.View, Action.Action, PointAction.PointAction}
use Rattle.rules.specs.Answers.{is_accepted}
use Rattle.rules.specs.Effects.{effect_of}
use Rattle.rules.specs.Pinned.Register.{history, no_period}
use Rattle.rules.specs.Pinned.Register.{no_point, register, view, advanced, says, done, acted, applied, on}
use Rattle.rules.specs.Fields.{blank}
use Rattle.point_volumes.specs.Between.{booked_if_fair}
use Rattle.point_answers.specs.Between.{answer_at}
use Rattle.point_effects.specs.Between.{ruling_at, Accepted, noted, failed_by}
use Rattle.point_effects.proofs.Accepted.{accepted_noted}
use Rattle.register.specs.Between.Calls.{call_at, failed_on}
use Rattle.register.proofs.Advanced.{caught_up_on}
use Rattle.register.proofs.Failing.{failed_on_is}
use Rattle.input_quiet.specs.Between.Quiet.{seen, view_on, first_due}
use Rattle.input_quiet.proofs.Dues.{quiet_point, quiet_advanced, first_at, first_never}
use Rattle.input_quiet.proofs.SeenOn.{seen_on}
use Rattle.input_point.specs.Between.Answers.{place_in, place_of, call_said, said_by}
use Rattle.input_point.proofs.Settled.{says_shown, at_settled}
use Rattle.line_messages.specs.declared.{Message.Message}
use Rattle.input_desk.specs.Pinned.Desk.{desk, unreadable, answer_of, desk_after}
use Rattle.rules.specs.Rejections.{answer}
use Rattle.rules.proofs.Views.{accepted_point}
use Rattle.input_tables.specs.Between.Tables.{joined, row_at, points_of, booked_at, Sized}
use Rattle.input_tables.proofs.Points.{row_length, row_get, points_get, points_slot, points_row}
use Rattle.input_point.specs.declared.{answers.Said.Said, deeds.Deed.Deed, deeds.Entry.Entry}
use Rattle.input_point.specs.Between.Deeds.{effect_deed, ruled_deed, call_deed, deed_of}
use Rattle.input_point.proofs.DeedsDone.{point_after, effect_after, On, effect_on, booked_length}

-- the register with what a deed stores
abbrev pub stored_in : Settings → ℕ → List Bool → List Fields → List ℕ → List Period → ℕ → Deed → Register
stored_in S day u fs ns ss i (Deed.Slot x) =
    register S x.today u (points_of (set fs i x.fields) (set ns i x.count) (set ss (24 * i + x.place) x.period))
stored_in S day u fs ns ss i (Deed.Back t s f) = register S t u (points_of (set fs i f) ns (booked_at s i (get_or ns i 0) ss))
stored_in S day u fs ns ss i (Deed.Sign t s) = register S t (set u s true) (points_of fs ns ss)
stored_in S day u fs ns ss i (Deed.Pass t) = register S t u (points_of fs ns ss)
stored_in S day u fs ns ss i (Deed.Fail t s) = register S t (set u s false) (map (failed_on S t s) (points_of fs ns ss))
stored_in S day u fs ns ss i Deed.Whole = register S day u (points_of fs ns ss)

module _ (S : Settings) (day : ℕ) (u : List Bool) (fs : List Fields) (ns : List ℕ) (ss : List Period) (sized : Sized fs ns ss) (i : ℕ)
    (l : i < 32) where
  abbrev stores : Deed → Register
  stores = stored_in S day u fs ns ss i

  abbrev back : Span → List Period
  back s = (booked_if_fair s (history (get_or ns i 0) (row_at i ss))).periods

  back_whole : (s : Span) → length (back s) ≡ 24
  back_whole s = booked_length s (history (get_or ns i 0) (row_at i ss)) ∙ row_length i ss (omega (arith, sized.slots))

  stored_point : (t : ℕ) (d : Deed) → On t d →
      register S t u (set (points_of fs ns ss) i (point_after (row_at i ss) (get_or ns i 0) d)) ≡ stores d
  unfolding booked_at
  stored_point t (Deed.Slot x) (e, k) = rw (e, points_slot x.fields x.count fs ns ss i x.place x.period k)
  stored_point t (Deed.Back b s f) e =
      let is = points_row f (get_or ns i 0) fs ns ss (back s) i (back_whole s) (omega (arith, sized.slots)) in
      rw (e, lt-ltb i 32 l, ← is, set-get_or ns i 0)
  stored_point t (Deed.Sign b s) e = absurd e
  stored_point t (Deed.Pass b) e = absurd e
  stored_point t (Deed.Fail b s) e = absurd e
  stored_point t Deed.Whole e = absurd e

  -- an effect at the point of that place
  pub effect_stored : (t : ℕ) (e : Effect) →
      register S t u (set (points_of fs ns ss) i (noted t e (get_or (points_of fs ns ss) i no_point).history))
      ≡ stores (effect_deed t e (get_or ns i 0) (get_or ss (24 * i + (min (get_or ns i 0) 24 - 1)) no_period))
  effect_stored t e = let n = get_or ns i 0 in
      let g = points_get no_point blank 0 fs ns ss i (omega (arith, sized.fields)) (omega (arith, sized.counts)) in
      let k = row_get i (min n 24 - 1) ss no_period (omega arith) in rw (g, effect_after t n (row_at i ss) e, k)
      (stored_point t (effect_deed t e n (get_or ss (24 * i + (min n 24 - 1)) no_period)) (effect_on t n _ e))

  -- a failure there
  pub failed_stored : (t s : ℕ) {x : Entry} →
      Deed.Slot x ≡ effect_deed t (failed_by S t s (get_or fs i blank)) (get_or ns i 0) (get_or ss (24 * i + (min (get_or ns i 0) 24 - 1)) no_period) →
      points_of (set fs i x.fields) (set ns i x.count) (set ss (24 * i + x.place) x.period)
      ≡ set (points_of fs ns ss) i (failed_on S t s (get_or (points_of fs ns ss) i no_point))
  unfolding failed_on
  failed_stored t s h =
      let g = points_get no_point blank 0 fs ns ss i (omega (arith, sized.fields)) (omega (arith, sized.counts)) in
      sym (ap (λ (r : Register). r.points) (rw (← h) at (effect_stored t (failed_by S t s (get_or fs i blank))))) ∙ rw g

  pub slot_sized : (f : Fields) (n k : ℕ) (q : Period) → Sized (set fs i f) (set ns i n) (set ss k q)
  slot_sized f n k q =
      record { fields = length-set fs i f ∙ sized.fields; counts = length-set ns i n ∙ sized.counts; slots = length-set ss k q ∙ sized.slots }

  pub back_sized : (s : Span) (f : Fields) → Sized (set fs i f) ns (booked_at s i (get_or ns i 0) ss)
  unfolding booked_at
  back_sized s f =
      record {
        fields = length-set fs i f ∙ sized.fields;
        counts = sized.counts;
        slots = rw (lt-ltb i 32 l)
            (length-paste ss (24 * i) (back s) 24 (omega (arith, sized.slots)) (omega (arith, back_whole s)) ∙ sized.slots);
      }

-- ---- what an accepted message stores

abbrev pub is_whole : Deed → Bool
is_whole (Deed.Slot x) = false
is_whole (Deed.Back t s f) = false
is_whole (Deed.Sign t s) = false
is_whole (Deed.Pass t) = false
is_whole (Deed.Fail t s) = false
is_whole Deed.Whole = true

whole_not : (x : Deed) → x ≡ Deed.Whole → is_whole x ≡ false → ⊥
whole_not x e w = true≢false (rw e at w)

module _ (S : Settings) (day : ℕ) (u : List Bool) (fs : List Fields) (ns : List ℕ) (ss : List Period) (sized : Sized fs ns ss) (quiet : ℕ)
    (calm : quiet ≤ first_due fs) (i : ℕ) (l : i < 32) where
  abbrev r : Register
  r = register S day u (points_of fs ns ss)

  abbrev n : ℕ
  n = get_or ns i 0

  abbrev last : Period
  last = get_or ss (24 * i + (min n 24 - 1)) no_period

  abbrev v : ℕ → View
  v t = view_on S day t (seen (get_or fs i blank) (min n 24) last.start)

  point_is : get_or (points_of fs ns ss) i no_point ≡ joined (get_or fs i blank) n (row_at i ss)
  point_is = points_get no_point blank 0 fs ns ss i (omega (arith, sized.fields)) (omega (arith, sized.counts))

  -- nothing has fallen due there
  fields_seen : (t : ℕ) → t < quiet → (v t).fields ≡ get_or fs i blank
  fields_seen t h = let g = joined (get_or fs i blank) n (row_at i ss) in
      let q = row_get i (min n 24 - 1) ss no_period (omega arith) in
      let e = seen_on S t day g (omega (arith, row_length i ss (omega (arith, sized.slots)))) in
      let k = quiet_point S t g (omega (arith, first_at fs i (omega (arith, sized.fields)))) in
      ap (λ (x : View). x.fields) (ap (λ (x : Period). view_on S day t (seen (get_or fs i blank) (min n 24) x.start)) (sym q) ∙ sym e) ∙
      rw (caught_up_on S t (omega (arith, first_never fs)), k) (go (eqb day t) g)
    where
      go : (b : Bool) (g : Point) → (view t (cond b g g)).fields ≡ g.fields
      go true g = refl
      go false g = refl

  says_at : (t p : ℕ) (a : PointAction) → i ≡ place_in (Action.At p a) → says r (call_at t p a) ≡ answer_at S day u t p a (v t)
  unfolding ruling_at
  says_at t p a hi = says_shown S day u fs ns ss sized (call_at t p a) ∙ at_settled S day u fs ns ss sized true t p a i hi

  point_of : (t p : ℕ) (a : PointAction) → is_accepted (says r (call_at t p a)) ≡ true → (1 ≤ p) × (p ≤ 32)
  unfolding says answer
  point_of t p a ok = let k = accepted_point S day u t p a _ ok in (k.1, k.2)

  effect_is : (t p : ℕ) (a : PointAction) → is_accepted (answer_at S day u t p a (v t)) ≡ true →
      (ruling_at S day u t p a (v t)).effect ≡ effect_of S t a (v t).fields
  unfolding ruling_at
  effect_is t p a ok = rw ok

  at_stored : (t p : ℕ) (a : PointAction) → t < quiet → i ≡ place_in (Action.At p a) → is_accepted (says r (call_at t p a)) ≡ true →
      done t (Action.At p a) (register S t u (points_of fs ns ss)) ≡ stored_in S day u fs ns ss i (effect_deed t (ruling_at S day u t p a (v t)).effect n last)
  unfolding done acted
  at_stored t p a h hi ok = let z = says_at t p a hi in
      let ok' : is_accepted (answer_at S day u t p a (v t)) ≡ true = rw (← z) ok in let in_range = point_of t p a ok in
      let k : p - 1 ≡ i = sym (hi ∙ rw (le-ltb p 1 in_range.0, le-ltb 32 p in_range.1)) in
      let same = fields_seen t h in
      let acc : Accepted S t a (get_or fs i blank) = record { day = day; contracts = u; point = p; view = v t; same = same; ok = ok' } in
      let e : (ruling_at S day u t p a (v t)).effect ≡ effect_of S t a (get_or fs i blank) = effect_is t p a ok' ∙ ap (effect_of S t a) same in
      rw (
        k,
        e,
        ← (effect_stored S day u fs ns ss sized i l t (effect_of S t a (get_or fs i blank))),
        point_is,
        accepted_noted S t a (get_or fs i blank) (history n (row_at i ss)) acc,
      )

  abbrev told : ℕ → Action → Said
  told t a = call_said S day u t a (get_or fs i blank) n last.start

  call_stored : (t : ℕ) (a : Action) → t < quiet → i ≡ place_in a → is_accepted (says r (on t a)) ≡ true → (x : Deed) →
      x ≡ call_deed t a (told t a) n last → is_whole x ≡ false →
      done t a (register S t u (points_of fs ns ss)) ≡ stored_in S day u fs ns ss i x
  unfolding call_deed call_said ruled_deed done
  call_stored t (Action.Contract s) h hi ok x e w = go (ltb s 100) e
    where
      go : (b : Bool) → x ≡ cond b (Deed.Sign t s) Deed.Whole →
          done t (Action.Contract s) (register S t u (points_of fs ns ss)) ≡ stored_in S day u fs ns ss i x
      go true k = rw k
      go false k = absurd (whole_not x k w)
  call_stored t (Action.Failure s) h hi ok x e w = go (ltb s 100) e
    where
      go : (b : Bool) → x ≡ cond b (Deed.Fail t s) Deed.Whole →
          done t (Action.Failure s) (register S t u (points_of fs ns ss)) ≡ stored_in S day u fs ns ss i x
      go true k = rw (k, failed_on_is S t s (omega (arith, first_never fs)))
      go false k = absurd (whole_not x k w)
  call_stored t (Action.At p a) h hi ok x e w = rw e (at_stored t p a h hi ok)
  call_stored t Action.Day h hi ok x e w = rw e

  pub deed_stored : (ready : Bool) (m : Message) → i ≡ place_of m → is_accepted (answer_of (desk ready r) m) ≡ true → (x : Deed) →
      x ≡ deed_of quiet m (said_by S day u ready m (get_or fs i blank) n last.start) n last → is_whole x ≡ false →
      desk_after (desk ready r) m ≡ desk ready (stored_in S day u fs ns ss i x)
  unfolding deed_of said_by place_of answer_of desk_after applied
  deed_stored ready (Message.Open o) hi ok x e w = absurd (whole_not x e w)
  deed_stored ready (Message.Ask c) hi ok x e w = go ready (ltb c.today quiet) refl ok e
    where
      go : (b y : Bool) → ltb c.today quiet ≡ y → is_accepted (cond b (says r c) unreadable) ≡ true →
          x ≡ cond y (call_deed c.today c.action (cond b (told c.today c.action) (Said.Known unreadable)) n last) Deed.Whole →
          cond b (desk true (cond (is_accepted (says r c)) (done c.today c.action (advanced c.today r)) r)) (desk b r)
          ≡ desk b (stored_in S day u fs ns ss i x)
      go true true h k z = let early = ltb-true c.today quiet h in
          rw (k, quiet_advanced c.today day S u fs ns ss (omega arith)) (ap (desk true) (call_stored c.today c.action early hi k x z w))
      go true false h k z = absurd (whole_not x z w)
      go false y h k z = absurd (false≢true k)
  deed_stored ready Message.Unreadable hi ok x e w = absurd (whole_not x e w)
