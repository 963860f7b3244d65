-- Document 01, "The day book": what an event of a gas day and an accepted call do to a point. Definitions only.
--
-- fields_of    the fields after an effect
-- names        whether it names a holder, which is the fields' holder
-- spans_in     the readings that it books: none or one; `enrols`: whether it enrols the point
-- accepted_by  the answer to an accepted call that has this effect
-- event        the event of a gas day, if one falls on it
-- effect_of    what an accepted call does to the point that it names; `failed`: what a failure does to any point
-- effect       what an accepted call does to point p; `signed`: to who is under contract
-- at_point     by the point that a call names; `failing`: by the supplier that fails
use Rattle.std.specs.Prelude.{Bool, true, false, cond, List, [], ◌∷◌, ℕ, ◌+◌, max, eqb, set}
use Rattle.rules.specs.declared.{Effect.Effect, Fields.Fields, Settings.Settings, SupplyKind.SupplyKind}
use Rattle.rules.specs.declared.{Pending.Pending, Span.Span, Action.Action, PointAction.PointAction}
use Rattle.rules.specs.declared.{Answer.Answer}
use Rattle.rules.specs.Fields.{supply, fitted, reading, fields, with_supply, with_pending, with_key, with_mark}
use Rattle.rules.specs.Fields.{with_reading, unsupplied}
use Rattle.rules.specs.Volumes.{span_to}

abbrev pub fields_of : Effect → Fields
fields_of (Effect.Keep f) = f
fields_of (Effect.Name f) = f
fields_of (Effect.Enrol f) = f
fields_of (Effect.Read s f) = f
fields_of (Effect.Request e f) = f

abbrev pub names : Effect → Bool
names (Effect.Keep f) = false
names (Effect.Name f) = true
names (Effect.Enrol f) = true
names (Effect.Read s f) = false
names (Effect.Request e f) = false

abbrev pub spans_in : Effect → List Span
spans_in (Effect.Keep f) = []
spans_in (Effect.Name f) = []
spans_in (Effect.Enrol f) = []
spans_in (Effect.Read s f) = s ∷ []
spans_in (Effect.Request e f) = []

abbrev pub enrols : Effect → Bool
enrols (Effect.Keep f) = false
enrols (Effect.Name f) = false
enrols (Effect.Enrol f) = true
enrols (Effect.Read s f) = false
enrols (Effect.Request e f) = false

-- "e for an accepted request"
abbrev pub accepted_by : Effect → Answer
accepted_by (Effect.Keep f) = Answer.Accepted
accepted_by (Effect.Name f) = Answer.Accepted
accepted_by (Effect.Enrol f) = Answer.Accepted
accepted_by (Effect.Read s f) = Answer.Accepted
accepted_by (Effect.Request e f) = Answer.AcceptedOn e

-- "if the deadline falls on this day, default becomes last resort (holder: the last-resort supplier, deadline this
-- day + B), and last resort becomes holder 0, kind none, pending dropped"
unfoldable pub deadline_event : Settings → ℕ → Fields → SupplyKind → Effect
deadline_event S t f SupplyKind.None = Effect.Keep f
deadline_event S t f SupplyKind.Contract = Effect.Keep f
deadline_event S t f (SupplyKind.Default d) =
    cond (eqb d t)
    (Effect.Name (with_supply f (supply S.resort (SupplyKind.LastResort (t + S.b)) f.supply.pending)))
    (Effect.Keep f)
deadline_event S t f (SupplyKind.LastResort d) = cond (eqb d t) (Effect.Name (with_supply f unsupplied)) (Effect.Keep f)

-- "if a pending request falls on this day, its supplier becomes holder, kind contract, pending cleared. Otherwise, if
-- the deadline .."
unfoldable pub pending_event : Settings → ℕ → Fields → Pending → Effect
pending_event S t f Pending.Nothing = deadline_event S t f f.supply.kind
pending_event S t f (Pending.Request s e) =
    cond (eqb e t) (Effect.Name (with_supply f (supply s SupplyKind.Contract Pending.Nothing)))
    (deadline_event S t f f.supply.kind)

unfoldable pub event : Settings → ℕ → Fields → Effect
event S t f = pending_event S t f f.supply.pending

-- 6: "e the larger of r and today + 21 (code 5.2.1)"
abbrev pub notice : Settings → ℕ → ℕ
notice S t = 21

unfoldable pub effective_day : Settings → ℕ → ℕ → ℕ
effective_day S t r = max r (t + notice S t)

-- The calls that name a point, on day t, in the paper's order:
-- 3 "holder 0, kind none, nothing pending, key 0, mark 0, last reading is today's"; 4 "holder s, kind contract, key
-- stored"; 5 "holder the default supplier, kind default, deadline today + A, key stored"; 6 "pending (s, e)"; 7
-- "pending dropped"; 8 "(d, x) becomes the last reading"; 9 "a reading today of the old meter, then the new meter
-- with its index as last reading"; 10 "holder 0, kind none, pending dropped"; 11 "the suspension mark becomes it".
unfoldable pub effect_of : Settings → ℕ → PointAction → Fields → Effect
effect_of S t (PointAction.Enrol m) f = Effect.Enrol (fields true unsupplied 0 0 (fitted m) (reading t m.index))
effect_of S t (PointAction.IntoService s k) f =
    Effect.Name (with_key (with_supply f (supply s SupplyKind.Contract f.supply.pending)) k)
effect_of S t (PointAction.DefaultSupply k) f =
    Effect.Name (with_key (with_supply f (supply S.default (SupplyKind.Default (t + S.a)) f.supply.pending)) k)
effect_of S t (PointAction.Request s k r) f =
    Effect.Request (effective_day S t r) (with_pending f (Pending.Request s (effective_day S t r)))
effect_of S t (PointAction.Cancel s) f = Effect.Keep (with_pending f Pending.Nothing)
effect_of S t (PointAction.Reading d x z) f = Effect.Read (span_to f d x z) (with_reading f f.meter (reading d x))
effect_of S t (PointAction.MeterChange x z m) f =
    Effect.Read (span_to f t x z) (with_reading f (fitted m) (reading t m.index))
effect_of S t PointAction.OutOfService f = Effect.Name (with_supply f unsupplied)
effect_of S t (PointAction.Suspend m) f = Effect.Keep (with_mark f m)

-- The request that is left when those of supplier s are dropped.
abbrev pub dropped : ℕ → Pending → Pending
dropped s Pending.Nothing = Pending.Nothing
dropped s (Pending.Request q e) = cond (eqb q s) Pending.Nothing (Pending.Request q e)

-- 2: "s loses its contract, its pending requests are dropped, each point it holds gets the last-resort supplier, kind
-- last resort, deadline today + B"
unfoldable pub failed : Settings → ℕ → ℕ → Fields → Effect
failed S t s f =
    cond (eqb f.supply.holder s)
    (Effect.Name
    (with_supply f (supply S.resort (SupplyKind.LastResort (t + S.b)) (dropped s f.supply.pending))))
    (Effect.Keep (with_pending f (dropped s f.supply.pending)))

-- 1 and 12 touch no point.
unfoldable pub effect : Settings → ℕ → Action → ℕ → Fields → Effect
effect S t (Action.Contract s) p f = Effect.Keep f
effect S t (Action.Failure s) p f = failed S t s f
effect S t (Action.At q a) p f = cond (eqb p q) (effect_of S t a f) (Effect.Keep f)
effect S t Action.Day p f = Effect.Keep f

-- 1: "s is under contract"; 2: "s loses its contract"
abbrev pub signed : Action → List Bool → List Bool
signed (Action.Contract s) u = set u s true
signed (Action.Failure s) u = set u s false
signed (Action.At p a) u = u
signed Action.Day u = u

-- What f makes of the point that a call names and of what happens there; x where it names none.
abbrev pub at_point : {A : Type 0} → A → (ℕ → PointAction → A) → Action → A
at_point x f (Action.Contract s) = x
at_point x f (Action.Failure s) = x
at_point x f (Action.At p a) = f p a
at_point x f Action.Day = x

-- What f makes of the supplier that fails; x where none does.
abbrev pub failing : {A : Type 0} → A → (ℕ → A) → Action → A
failing x f (Action.Contract s) = x
failing x f (Action.Failure s) = f s
failing x f (Action.At p a) = x
failing x f Action.Day = x
