-- A failure books no reading.
use Rattle.basics.proofs.Basics.{◌≡◌, refl, sym, ◌∙◌, ap, true, false, Bool, cond, false≢true, ℕ, eqb, leb}
use Rattle.dates.specs.Dates.{last_day}
use Rattle.rules.specs.declared.{Effect.Effect, Fields.Fields, Settings.Settings, Span.Span}
use Rattle.rules.specs.Effects.{failed}
use Rattle.point_effects.specs.Between.{failed_by}

abbrev unread : Effect → Bool
unread (Effect.Keep f) = true
unread (Effect.Name f) = true
unread (Effect.Enrol f) = true
unread (Effect.Read s f) = false
unread (Effect.Request e f) = true

failed_unread : (S : Settings) (t s : ℕ) (f : Fields) → unread (failed_by S t s f) ≡ true
unfolding failed_by failed
failed_unread S t s f = go (leb t last_day) (eqb f.supply.holder s) _ _
  where
    go : (a b : Bool) (g h : Fields) → unread (cond a (cond b (Effect.Name g) (Effect.Keep h)) (Effect.Keep f)) ≡ true
    go true true g h = refl
    go true false g h = refl
    go false b g h = refl

pub no_reading : (S : Settings) (t s : ℕ) (f : Fields) {x : Span} {g : Fields} → failed_by S t s f ≡ Effect.Read x g → ⊥
no_reading S t s f e = false≢true (sym (ap unread e) ∙ failed_unread S t s f)
