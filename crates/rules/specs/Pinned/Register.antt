-- Document 01, "What the register holds" and the twelve calls, as the register does them: periods in slots, caught up
-- from event to event. Total for every value of the types: a count past 24 counts as 24, a volume wraps at 2^64; on
-- every register that calls reach neither happens (Demand3). Slots beyond the count keep what they hold. Definitions
-- only.
--
-- named     a holder is named on a day: a new period, or the newest replaced where it starts on that day
-- catch_up  a point brought up to a day by the events that fell due
-- booked    a reading booked over the periods
-- view      what the checks see
-- applied   a call: its answer and the whole register after it
use Rattle.std.specs.Prelude.{Bool, true, false, cond, not, ◌&&◌, List, [], ◌∷◌, map, ℕ, zero, suc, ◌+◌, ◌-◌, ◌%◌, ◌^◌, min, eqb, leb, ltb, get_or, set, replicate}
use Rattle.rules.specs.declared.{Period.Period, History.History, Point.Point, Register.Register}
use Rattle.rules.specs.declared.{Settings.Settings, SupplyKind.SupplyKind, Pending.Pending, Due.Due, Span.Span}
use Rattle.rules.specs.declared.{Opening.Opening, Call.Call, Action.Action, PointAction.PointAction}
use Rattle.rules.specs.declared.{Answer.Answer, Outcome.Outcome, Effect.Effect, View.View}
use Rattle.rules.specs.Fields.{supply, unsupplied, with_supply, blank}
use Rattle.rules.specs.Effects.{fields_of, names, spans_in, effect_of, failed}
use Rattle.rules.specs.Volumes.{given, normal_given}
use Rattle.rules.specs.Answers.{is_accepted}
use Rattle.rules.specs.Rejections.{answer}
use Rattle.rules.specs.Opening.{settings_of, first_contracts}

-- "It also keeps up to 24 periods, each a start day, a holder and a booked volume." 02, F-4: "Each period gains its Nm³
-- volume in thousandths"
abbrev pub period : ℕ → ℕ → ℕ → ℕ → Period
period d h v n = record { start = d; holder = h; volume = record { 0 = v }; normal = record { 0 = n } }

abbrev pub history : ℕ → List Period → History
history n ps = record { count = n; periods = ps }

abbrev pub no_period : Period
no_period = period 0 0 0 0

abbrev pub used : History → ℕ
used h = min h.count 24

abbrev pub newest : History → Period
newest h = get_or h.periods (used h - 1) no_period

unfoldable pub starts_on : ℕ → History → Bool
starts_on d h = ltb 0 (used h) && eqb (newest h).start d

unfoldable pub replaced : ℕ → ℕ → History → History
replaced d s h =
    history h.count
    (set h.periods (used h - 1) (period d s (newest h).volume.0 (newest h).normal.0))

unfoldable pub appended : ℕ → ℕ → History → History
appended d s h = cond (ltb (used h) 24) (history (used h + 1) (set h.periods (used h) (period d s 0 0))) h

-- "A second holder on one day therefore replaces the first."
unfoldable pub named : ℕ → ℕ → History → History
named d s h = cond (starts_on d h) (replaced d s h) (appended d s h)

-- A volume v of a period from day d to the day before e gets what the reading has given before e, less what it had
-- given before d.
abbrev pub grown : (ℕ → ℕ) → ℕ → ℕ → ℕ → ℕ
grown given d e v = (v + (given e - given d)) % 2 ^ 64

-- A period that ends before day e, by one reading: its volume, and by the same law its normal volume.
unfoldable pub booked_period : Span → ℕ → Period → Period
booked_period s e q =
    period q.start q.holder (grown (given s) q.start e q.volume.0)
    (grown (normal_given s) q.start e q.normal.0)

-- The first n slots, the newest first; done with the period that holds the reading's first day. e is where the n-th
-- ends.
unfoldable pub booked_slots : Span → ℕ → ℕ → List Period → List Period
booked_slots s e zero ps = ps
booked_slots s e (suc n) ps =
    cond (leb (get_or ps n no_period).start s.from)
    (set ps n (booked_period s e (get_or ps n no_period)))
    (booked_slots s (get_or ps n no_period).start n (set ps n (booked_period s e (get_or ps n no_period))))

unfoldable pub booked : Span → History → History
booked s h = history h.count (booked_slots s s.to (used h) h.periods)

abbrev pub booked_all : List Span → History → History
booked_all [] h = h
booked_all (s ∷ l) h = booked_all l (booked s h)

-- An effect on a day: its readings are booked, then its holder is named.
abbrev pub entered : ℕ → Effect → History → Point
entered d e h =
    record {
      fields = fields_of e;
      history =
          cond (names e) (named d (fields_of e).supply.holder (booked_all (spans_in e) h)) (booked_all (spans_in e) h);
    }

-- What ends a supply kind by day t, where q is pending: default supply goes over to last resort, and the request stays;
-- last resort ends, and it is dropped.
unfoldable pub expiry_by : Settings → ℕ → SupplyKind → Pending → Due
expiry_by S t SupplyKind.None q = Due.Nothing
expiry_by S t SupplyKind.Contract q = Due.Nothing
expiry_by S t (SupplyKind.Default d) q =
    cond (leb d t) (Due.Naming d (supply S.resort (SupplyKind.LastResort (d + S.b)) q)) Due.Nothing
expiry_by S t (SupplyKind.LastResort d) q = cond (leb d t) (Due.Naming d unsupplied) Due.Nothing

-- A supply kind ends before day e.
unfoldable pub ends_before : SupplyKind → ℕ → Bool
ends_before SupplyKind.None e = false
ends_before SupplyKind.Contract e = false
ends_before (SupplyKind.Default d) e = ltb d e
ends_before (SupplyKind.LastResort d) e = ltb d e

-- What falls due first by day t; a request and a deadline on one day: the request.
unfoldable pub due_by : Settings → ℕ → SupplyKind → Pending → Due
due_by S t k Pending.Nothing = expiry_by S t k Pending.Nothing
due_by S t k (Pending.Request s e) =
    cond (leb e t && not (ends_before k e)) (Due.Naming e (supply s SupplyKind.Contract Pending.Nothing))
    (expiry_by S t k (Pending.Request s e))

unfoldable pub happened : Due → Point → Point
happened Due.Nothing g = g
happened (Due.Naming d s) g = entered d (Effect.Name (with_supply g.fields s)) g.history

unfoldable pub next_event : Settings → ℕ → Point → Point
next_event S t g = happened (due_by S t g.fields.supply.kind g.fields.supply.pending) g

-- A switch and the end of last resort leave nothing due, and default supply goes over to last resort: two events at
-- the most.
unfoldable pub catch_up : Settings → ℕ → Point → Point
catch_up S t g = next_event S t (next_event S t g)

abbrev pub view : ℕ → Point → View
view t g = record { fields = g.fields; marks = used g.history; marked = starts_on t g.history }

abbrev pub blank_point : Point
blank_point = record { fields = blank; history = history 0 (replicate 24 no_period) }

abbrev pub register : Settings → ℕ → List Bool → List Point → Register
register S d u ps = record { settings = S; day = d; contracts = u; points = ps }

-- What stands where there is no point.
abbrev pub no_point : Point
no_point = record { fields = blank; history = history 0 [] }

abbrev pub point_at : ℕ → List Point → Point
point_at p ps = get_or ps (p - 1) no_point

-- The register brought up to day t.
unfoldable pub advanced : ℕ → Register → Register
advanced t r =
    cond (eqb r.day t) r (register r.settings t r.contracts (map (catch_up r.settings t) r.points))

unfoldable pub says : Register → Call → Answer
says r c =
    answer r.settings r.day r.contracts c (λ p. view c.today (point_at p (advanced c.today r).points))

-- A call that names a point, there.
unfoldable pub acted : Settings → ℕ → PointAction → Point → Point
acted S t a g = entered t (effect_of S t a g.fields) g.history

-- A failure, at any point.
unfoldable pub failed_point : Settings → ℕ → ℕ → Point → Point
failed_point S t s g = entered t (failed S t s g.fields) g.history

-- An accepted call on a register that has been brought up to today.
unfoldable pub done : ℕ → Action → Register → Register
done t (Action.Contract s) r = register r.settings r.day (set r.contracts s true) r.points
done t (Action.Failure s) r =
    register r.settings r.day (set r.contracts s false) (map (failed_point r.settings t s) r.points)
done t (Action.At p a) r =
    register r.settings r.day r.contracts
    (set r.points (p - 1) (acted r.settings t a (point_at p r.points)))
done t Action.Day r = r

abbrev pub outcome : Answer → Register → Outcome
outcome a r = record { answer = a; register = r }

-- "a refused call changes nothing, the register's day included"
unfoldable pub applied : Register → Call → Outcome
applied r c =
    outcome (says r c) (cond (is_accepted (says r c)) (done c.today c.action (advanced c.today r)) r)

-- The answers to a list of calls, and the register after it.
unfoldable pub answers : Register → List Call → List Answer
answers r [] = []
answers r (c ∷ cs) = (applied r c).answer ∷ answers (applied r c).register cs

unfoldable pub after : Register → List Call → Register
after r [] = r
after r (c ∷ cs) = after (applied r c).register cs

-- A newly opened register: "the register's day (at first the first day)", no point enrolled.
unfoldable pub opened : Opening → Register
opened o = register (settings_of o) o.day (first_contracts (settings_of o)) (replicate 32 blank_point)

-- A call with its day.
abbrev pub on : ℕ → Action → Call
on t a = record { today = t; action = a }
