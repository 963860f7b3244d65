-- What an event or an accepted call leaves behind: everything that the next one rules to find.
--
-- Fine   what holds of a point's view on day t, of any list of calls
-- Good   what holds of an effect on such a view, with the readings sp and the enrolments j that come with it
use Rattle.basics.proofs.Basics.{◌≡◌, refl, sym, ◌∙◌, ap, subst, true, false, Bool, cond, true≢false, List, [], ◌∷◌}
use Rattle.basics.proofs.Basics.{◌≤◌, ℕ, ◌+◌, ◌<◌, suc, ◌*◌, arith}
use Rattle.rules.specs.declared.{Fields.Fields, Settings.Settings, Supply.Supply}
use Rattle.rules.specs.declared.{Meter.Meter, Reading.Reading, Span.Span, Due.Due, Effect.Effect}
use Rattle.rules.specs.Fields.{with_supply, unsupplied}
use Rattle.rules.specs.Effects.{fields_of, names, spans_in, event}
use Rattle.rules.specs.Volumes.{summed}
use Rattle.rules.specs.declared.{View.View}
use Rattle.rules.specs.Rejections.{due, marks_after}
use Rattle.agreement.proofs.Shares.{All, wholes_on}
use Rattle.agreement.proofs.Jump.{Day, quiet, falls, on_day_lem}
use Rattle.agreement.specs.Sound.{Side, per_day, FactorFits, Ahead}

-- An accepted meter.
abbrev pub Fitted : Meter → Type 0
Fitted m = (m.before ≤ 8) × (m.after ≤ 3) × FactorFits m.code

pub record FineAt (t : ℕ) (f : Fields) (marks : ℕ) : Type 0 where
  pub past : f.reading.day ≤ t
  pub meter : Fitted f.meter
  pub ahead : Ahead t f.supply
  pub fit : marks + due f.supply ≤ 24
  pub blank : f.enrolled ≡ false → (marks ≡ 0) × (f.supply ≡ unsupplied)

abbrev pub Fine : ℕ → View → Type 0
Fine t v = FineAt t v.fields v.marks

-- A holder changes only where one is named.
abbrev pub Keeps : Fields → Bool → Fields → Type 0
Keeps f false g = g.supply.holder ≡ f.supply.holder
Keeps f true g = Unit {0}

-- A holder is named at an enrolled point, or it is the point's enrolment.
abbrev pub Names : ℕ → Bool → Fields → List ℕ → Type 0
Names t true g j = (g.enrolled ≡ true) × (j ≡ [])
Names t false g j = (g.enrolled ≡ true) × (j ≡ t ∷ []) × (g.reading.day ≡ t)

abbrev pub Enrols : ℕ → Fields → Bool → Fields → List ℕ → Type 0
Enrols t f false g j = (g.enrolled ≡ f.enrolled) × (j ≡ [])
Enrols t f true g j = Names t f.enrolled g j

pub record Good (t : ℕ) (v : View) (e : Effect) (sp : List Span) (j : List ℕ) : Type 0 where
  pub lo : v.fields.reading.day ≤ (fields_of e).reading.day
  pub hi : (fields_of e).reading.day ≤ t
  pub made : All (λ (s : Span). (s.from ≡ v.fields.reading.day) × (s.from < s.to) × (s.to ≤ (fields_of e).reading.day)) sp
  pub once : (v.fields.enrolled ≡ false) → sp ≡ []
  pub most : (x : Side) → wholes_on x sp + per_day x * v.fields.reading.day ≤ per_day x * (fields_of e).reading.day
  pub meter : Fitted (fields_of e).meter
  pub ahead : Ahead t (fields_of e).supply
  pub keeps : Keeps v.fields (names e) (fields_of e)
  pub enrols : Enrols t v.fields (names e) (fields_of e) j
  pub fit : marks_after v e + due (fields_of e).supply ≤ 24
  pub blank : (fields_of e).enrolled ≡ false → (marks_after v e ≡ 0) × ((fields_of e).supply ≡ unsupplied)

pub marks_most : (v : View) (e : Effect) → marks_after v e ≤ v.marks + 1
marks_most v e = go (names e) v.marked
  where
    go : (n b : Bool) → cond n (v.marks + cond b 0 1) v.marks ≤ v.marks + 1
    go true true = omega arith
    go true false = omega arith
    go false b = omega arith

-- The fields enrolled, so none is blank.
pub not_blank : {P : Type 0} {b : Bool} → b ≡ true → b ≡ false → P
not_blank y n = absurd (true≢false (sym y ∙ n))

-- An effect that reads no meter.
pub unread : (t : ℕ) (v : View) → v.fields.reading.day ≤ t → Fitted v.fields.meter → (e : Effect) (j : List ℕ)
    → (fields_of e).reading ≡ v.fields.reading → (fields_of e).meter ≡ v.fields.meter → Ahead t (fields_of e).supply
    → Keeps v.fields (names e) (fields_of e) → Enrols t v.fields (names e) (fields_of e) j
    → marks_after v e + due (fields_of e).supply ≤ 24
    → ((fields_of e).enrolled ≡ false → (marks_after v e ≡ 0) × ((fields_of e).supply ≡ unsupplied)) → Good t v e [] j
unfolding summed
unread t v p w e j r m a k n f b =
    let d : (fields_of e).reading.day ≡ v.fields.reading.day = ap (λ (x : Reading). x.day) r in
    record {
      lo = omega arith;
      hi = omega arith;
      made = tt;
      once = λ z. refl;
      most = λ x. rw d (omega arith);
      meter = rw m w;
      ahead = a;
      keeps = k;
      enrols = n;
      fit = f;
      blank = b;
    }

-- Nothing of the supply changes.
pub unchanged : (t : ℕ) (v : View) → Fine t v → (g : Fields) → g.reading ≡ v.fields.reading → g.meter ≡ v.fields.meter
    → g.supply ≡ v.fields.supply → g.enrolled ≡ v.fields.enrolled → Good t v (Effect.Keep g) [] []
unchanged t v h g r m s n =
    unread t v h.past h.meter (Effect.Keep g) [] r m (rw s h.ahead) (ap (λ (x : Supply). x.holder) s) (n, refl) (rw s h.fit)
    (λ z. ((h.blank (sym n ∙ z)).0, s ∙ (h.blank (sym n ∙ z)).1))

-- At an enrolled point: a holder is named.
pub naming : (t : ℕ) (v : View) → v.fields.reading.day ≤ t → Fitted v.fields.meter → v.fields.enrolled ≡ true → (g : Fields)
    → g.reading ≡ v.fields.reading → g.meter ≡ v.fields.meter → g.enrolled ≡ v.fields.enrolled → Ahead t g.supply
    → marks_after v (Effect.Name g) + due g.supply ≤ 24 → Good t v (Effect.Name g) [] []
naming t v p w y g r m n a f =
    unread t v p w (Effect.Name g) [] r m a tt (subst (λ (b : Bool). Names t b g []) (sym y) (n ∙ y, refl)) f (not_blank (n ∙ y))

-- A point that is supplied in some way is enrolled.
pub enrolled_by_lem : (t : ℕ) (v : View) → Fine t v → (v.fields.supply ≡ unsupplied → ⊥) → v.fields.enrolled ≡ true
enrolled_by_lem t v h n = go v.fields.enrolled refl
  where
    go : (b : Bool) → v.fields.enrolled ≡ b → v.fields.enrolled ≡ true
    go true e = e
    go false e = absurd (n (h.blank e).1)

-- The event of a new day, at a point that was fine on the day before, books no reading.
pub event_good : (S : Settings) → 0 < S.b → (t : ℕ) (v : View) → Fine t v → let e = event S (suc t) v.fields in
    (spans_in e ≡ []) × Good (suc t) v e (spans_in e) []
unfolding event
event_good S B t v h = go _ (on_day_lem S B (suc t) t (omega arith) v.fields v.fields.supply.pending refl h.ahead.kind h.ahead.pending)
  where
    go : {x : Due} (e : Effect) → Day S B (suc t) t (omega arith) v.fields x e → (spans_in e ≡ []) × Good (suc t) v e (spans_in e) []
    go e (quiet i a) = rw i (
      refl,
      unchanged (suc t) v
          (record { past = omega (arith, h.past); meter = h.meter; ahead = a; fit = h.fit; blank = h.blank }) v.fields refl refl refl refl,
    )
    go e (falls s i j a z lt) = let g = with_supply v.fields s in
        rw j (
          refl,
          naming (suc t) v (omega (arith, h.past)) h.meter
              (enrolled_by_lem t v h (λ q. let w : due v.fields.supply ≡ 0 = ap due q in omega arith)) g refl refl refl a
              (omega (arith, h.fit, marks_most v (Effect.Name g))),
        )
