-- Document 01, "Rejection codes": for each call the rows of the table that it has, and the answer that they give.
-- Definitions only.
--
-- View            what the checks may look at of a point: its fields, its marks, whether today's cell is marked
-- ◌⇒◌             a row: where the condition holds, the call is refused with it
-- first_of        the first row that applies
-- rows            the rows of a call, in the order of the numbers
-- answer_to       the answer to a call, by the register's day, who is under contract, and the points brought up to today
-- opening_answer  the answer to an opening
use Rattle.std.specs.Prelude.{Bool, true, false, cond, not, ◌&&◌, ◌||◌, List, [], ◌∷◌, ℕ, zero, suc, ◌+◌, eqb, leb, ltb, get_or}
use Rattle.dates.specs.Dates.{last_day}
use Rattle.dates.specs.Months.{three_months_after}
use Rattle.holidays.specs.Working.{working_between}
use Rattle.rules.specs.declared.{Fields.Fields, Settings.Settings, Supply.Supply, SupplyKind.SupplyKind}
use Rattle.rules.specs.declared.{Pending.Pending, Opening.Opening, Call.Call, Action.Action, View.View}
use Rattle.rules.specs.declared.{NewMeter.NewMeter, PointAction.PointAction, Answer.Answer, Effect.Effect, Rejection.Rejection}
use Rattle.rules.specs.Fields.{blank}
use Rattle.rules.specs.Effects.{fields_of, names, accepted_by, notice, effective_day, effect_of, failed, at_point}
use Rattle.rules.specs.Volumes.{full_turn, turn_of}

-- A point that was never enrolled.
abbrev pub blank_view : View
blank_view = record { fields = blank; marks = 0; marked = false }

pub record Row : Type 0 where
  pub applies : Bool
  pub gives : Answer

infix 20 ◌⇒◌
abbrev pub ◌⇒◌ : Bool → Rejection → Row
b ⇒ r = record { applies = b; gives = Answer.Refused r }

-- "then the lowest number that applies": the rows stand in the paper's order
unfoldable pub first_of : List Row → Answer → Answer
first_of [] a = a
first_of (r ∷ rs) a = cond r.applies r.gives (first_of rs a)

abbrev pub outside : ℕ → ℕ → ℕ → Bool
outside lo hi n = ltb n lo || ltb hi n

-- "Suppliers are 1 to 99", "a customer key, 1 to 999,999,999", "wheels before the comma 1 to 8, after it 0 to 3",
-- "Points are 1 to 32"
abbrev pub not_supplier : ℕ → Bool
not_supplier s = outside 1 99 s

abbrev pub not_key : ℕ → Bool
not_key k = outside 1 999999999 k

abbrev pub not_wheels : ℕ → ℕ → Bool
not_wheels b a = outside 1 8 b || outside 0 3 a

abbrev pub not_point : ℕ → Bool
not_point p = outside 1 32 p

-- 02, F-4: "the code of the meter (1 for m³, 2 for Nm³, anything else 22)"
abbrev pub not_meter : NewMeter → Bool
not_meter m = not_wheels m.before m.after || outside 1 2 m.code

-- 40: "factor out of range or not 0 on an Nm³ meter, tested directly after 22"; its range on an m³ meter is "1 to
-- 99,999"
abbrev pub bad_factor : NewMeter → Bool
bad_factor m =
    (eqb m.code 1 && outside 1 99999 m.factor) || (eqb m.code 2 && not (eqb m.factor 0))

-- 22: "s, key, wheels, z, mark or a setting outside its range". z and the suspension mark are 0 or 1.
abbrev pub not_mark : ℕ → Bool
not_mark m = outside 0 1 m

-- 20: "a day given is past 73,048"
abbrev pub is_past : ℕ → Bool
is_past d = ltb last_day d

-- 21: "today before the register's day"
abbrev pub runs_back : ℕ → ℕ → Bool
runs_back day t = ltb t day

-- 1: "failure, into service, request: s not under contract"
abbrev pub no_contract : List Bool → ℕ → Bool
no_contract u s = not (get_or u s false)

-- 2: "p not 1 to 32, or not enrolled (enrol: only the first)"
abbrev pub not_enrolled : ℕ → View → Bool
not_enrolled p v = not_point p || not v.fields.enrolled

-- 3: "r before today, or later than three months after today; or e past 73,048"
abbrev pub bad_day : Settings → ℕ → ℕ → Bool
bad_day S t r = ltb r t || ltb (three_months_after t) r || is_past (effective_day S t r)

-- 5: "request: one is pending"
abbrev pub is_pending : Pending → Bool
is_pending Pending.Nothing = false
is_pending (Pending.Request s e) = true

-- 8: "request: kind default and today + 21 at or past the deadline; the answer carries the deadline"
abbrev pub last_resort_near : Settings → ℕ → SupplyKind → Row
last_resort_near S t SupplyKind.None = false ⇒ Rejection.LastResortUnderWay 0
last_resort_near S t SupplyKind.Contract = false ⇒ Rejection.LastResortUnderWay 0
last_resort_near S t (SupplyKind.Default d) = leb d (t + notice S t) ⇒ Rejection.LastResortUnderWay d
last_resort_near S t (SupplyKind.LastResort d) = false ⇒ Rejection.LastResortUnderWay 0

-- 25: "cancel: none by s"
abbrev pub is_by : ℕ → Pending → Bool
is_by s Pending.Nothing = false
is_by s (Pending.Request q e) = eqb q s

-- 26: "cancel: fewer than W working days"; 7: "at least W working days lie after today and before e"
abbrev pub too_late : Settings → ℕ → Pending → Bool
too_late S t Pending.Nothing = false
too_late S t (Pending.Request q e) = ltb (working_between t e) S.w

-- 27: "d (or today, for a meter change) not after the last reading's day, or d past today"
abbrev pub out_of_time : ℕ → ℕ → Fields → Bool
out_of_time t d f = leb d f.reading.day || ltb t d

-- 28: "an index at or past 10^w; z = 0 and x below the last index; z = 1 and x not below it"
abbrev pub index_disagrees : Fields → ℕ → ℕ → Bool
index_disagrees f x z =
    leb (turn_of f.meter) x || (eqb z 0 && ltb x f.reading.index)
    || (eqb z 1 && not (ltb x f.reading.index))

abbrev pub past_turn : NewMeter → Bool
past_turn m = leb (full_turn m.before m.after) m.index

-- 30: "after the call a point's marks and those due exceed 24 (due: pending 1, default 2, last resort 1)"; a second
-- holder on one day replaces the first, so today's mark counts once.
abbrev pub kind_due : SupplyKind → ℕ
kind_due SupplyKind.None = 0
kind_due SupplyKind.Contract = 0
kind_due (SupplyKind.Default d) = 2
kind_due (SupplyKind.LastResort d) = 1

abbrev pub pending_due : Pending → ℕ
pending_due Pending.Nothing = 0
pending_due (Pending.Request s e) = 1

abbrev pub due : Supply → ℕ
due s = pending_due s.pending + kind_due s.kind

abbrev pub marks_after : View → Effect → ℕ
marks_after v e = cond (names e) (v.marks + cond v.marked 0 1) v.marks

abbrev pub is_full : View → Effect → Bool
is_full v e = ltb 24 (marks_after v e + due (fields_of e).supply)

-- "for call 2 any point it touches"
abbrev pub touches : ℕ → Fields → Bool
touches s f = eqb f.supply.holder s || is_by s f.supply.pending

-- one of the n points from p on
unfoldable pub any_point : ℕ → ℕ → (ℕ → Bool) → Bool
any_point p zero test = false
any_point p (suc n) test = test p || any_point (suc p) n test

-- "Order: 31, 22, 20, 21, then the lowest number that applies." 31 is for lines; 02, F-4, puts 40 "directly after 22".
-- The rows of the calls that name a point p, which shows v; day is the register's, u says who is under contract, t is
-- today.
unfoldable pub rows_at : Settings → ℕ → List Bool → ℕ → ℕ → PointAction → View → List Row
rows_at S day u t p (PointAction.Enrol m) v =
    (not_meter m ⇒ Rejection.FieldOutOfRange) ∷ (bad_factor m ⇒ Rejection.FactorOutOfRange) ∷ (is_past t ⇒ Rejection.OffTheCalendar)
    ∷ (runs_back day t ⇒ Rejection.DayRunsBack)
    ∷ (not_point p ⇒ Rejection.FalseIdpc) ∷ (v.fields.enrolled ⇒ Rejection.AlreadyEnrolled)
    ∷ (past_turn m ⇒ Rejection.IndexDisagrees) ∷ []
rows_at S day u t p (PointAction.IntoService s k) v =
    (not_supplier s || not_key k ⇒ Rejection.FieldOutOfRange) ∷ (is_past t ⇒ Rejection.OffTheCalendar)
    ∷ (runs_back day t ⇒ Rejection.DayRunsBack)
    ∷ (no_contract u s ⇒ Rejection.NoTransportContract) ∷ (not_enrolled p v ⇒ Rejection.FalseIdpc) ∷ (ltb 0 v.fields.supply.holder ⇒ Rejection.AlreadyServed)
    ∷ (is_full v (effect_of S t (PointAction.IntoService s k) v.fields) ⇒ Rejection.PeriodsFull) ∷ []
rows_at S day u t p (PointAction.DefaultSupply k) v =
    (not_key k ⇒ Rejection.FieldOutOfRange) ∷ (is_past t || is_past (t + S.a + S.b) ⇒ Rejection.OffTheCalendar)
    ∷ (runs_back day t ⇒ Rejection.DayRunsBack)
    ∷ (not_enrolled p v ⇒ Rejection.FalseIdpc) ∷ (ltb 0 v.fields.supply.holder ⇒ Rejection.AlreadyServed)
    ∷ (is_full v (effect_of S t (PointAction.DefaultSupply k) v.fields) ⇒ Rejection.PeriodsFull) ∷ []
rows_at S day u t p (PointAction.Request s k r) v =
    (not_supplier s || not_key k ⇒ Rejection.FieldOutOfRange) ∷ (is_past t || is_past r ⇒ Rejection.OffTheCalendar)
    ∷ (runs_back day t ⇒ Rejection.DayRunsBack)
    ∷ (no_contract u s ⇒ Rejection.NoTransportContract) ∷ (not_enrolled p v ⇒ Rejection.FalseIdpc)
    ∷ (bad_day S t r ⇒ Rejection.DateIncompatible) ∷ (not (eqb k v.fields.key) ⇒ Rejection.NameDiffers)
    ∷ (is_pending v.fields.supply.pending ⇒ Rejection.OtherRequest) ∷ (eqb v.fields.supply.holder 0 ⇒ Rejection.NoPerimeter)
    ∷ (eqb v.fields.mark 1 ⇒ Rejection.AccessSuspended) ∷ last_resort_near S t v.fields.supply.kind
    ∷ (is_full v (effect_of S t (PointAction.Request s k r) v.fields) ⇒ Rejection.PeriodsFull) ∷ []
rows_at S day u t p (PointAction.Cancel s) v =
    (not_supplier s ⇒ Rejection.FieldOutOfRange) ∷ (is_past t ⇒ Rejection.OffTheCalendar)
    ∷ (runs_back day t ⇒ Rejection.DayRunsBack)
    ∷ (not_enrolled p v ⇒ Rejection.FalseIdpc) ∷ (not (is_by s v.fields.supply.pending) ⇒ Rejection.NothingPending)
    ∷ (too_late S t v.fields.supply.pending ⇒ Rejection.TooLate) ∷ []
rows_at S day u t p (PointAction.Reading d x z) v =
    (not_mark z ⇒ Rejection.FieldOutOfRange) ∷ (is_past t || is_past d ⇒ Rejection.OffTheCalendar)
    ∷ (runs_back day t ⇒ Rejection.DayRunsBack)
    ∷ (not_enrolled p v ⇒ Rejection.FalseIdpc) ∷ (out_of_time t d v.fields ⇒ Rejection.ReadingOutOfTime)
    ∷ (index_disagrees v.fields x z ⇒ Rejection.IndexDisagrees) ∷ []
rows_at S day u t p (PointAction.MeterChange x z m) v =
    (not_mark z || not_meter m ⇒ Rejection.FieldOutOfRange) ∷ (bad_factor m ⇒ Rejection.FactorOutOfRange) ∷ (is_past t ⇒ Rejection.OffTheCalendar)
    ∷ (runs_back day t ⇒ Rejection.DayRunsBack)
    ∷ (not_enrolled p v ⇒ Rejection.FalseIdpc) ∷ (out_of_time t t v.fields ⇒ Rejection.ReadingOutOfTime)
    ∷ (index_disagrees v.fields x z || past_turn m ⇒ Rejection.IndexDisagrees) ∷ []
rows_at S day u t p PointAction.OutOfService v =
    (is_past t ⇒ Rejection.OffTheCalendar) ∷ (runs_back day t ⇒ Rejection.DayRunsBack)
    ∷ (not_enrolled p v ⇒ Rejection.FalseIdpc) ∷ (eqb v.fields.supply.holder 0 ⇒ Rejection.NoPerimeter)
    ∷ (is_full v (effect_of S t PointAction.OutOfService v.fields) ⇒ Rejection.PeriodsFull) ∷ []
rows_at S day u t p (PointAction.Suspend m) v =
    (not_mark m ⇒ Rejection.FieldOutOfRange) ∷ (is_past t ⇒ Rejection.OffTheCalendar)
    ∷ (runs_back day t ⇒ Rejection.DayRunsBack) ∷ (not_enrolled p v ⇒ Rejection.FalseIdpc) ∷ []

-- 20: "failure: today + B is"; 29: "failure of the default or last-resort supplier"
unfoldable pub rows : Settings → ℕ → List Bool → ℕ → Action → (ℕ → View) → List Row
rows S day u t (Action.Contract s) v =
    (not_supplier s ⇒ Rejection.FieldOutOfRange) ∷ (is_past t ⇒ Rejection.OffTheCalendar)
    ∷ (runs_back day t ⇒ Rejection.DayRunsBack) ∷ []
rows S day u t (Action.Failure s) v =
    (not_supplier s ⇒ Rejection.FieldOutOfRange) ∷ (is_past t || is_past (t + S.b) ⇒ Rejection.OffTheCalendar)
    ∷ (runs_back day t ⇒ Rejection.DayRunsBack)
    ∷ (no_contract u s ⇒ Rejection.NoTransportContract)
    ∷ (eqb s S.default || eqb s S.resort ⇒ Rejection.ProtectedSupplier)
    ∷ (any_point 1 32 (λ p. touches s (v p).fields && is_full (v p) (failed S t s (v p).fields)) ⇒ Rejection.PeriodsFull)
    ∷ []
rows S day u t (Action.At p a) v = rows_at S day u t p a (v p)
rows S day u t Action.Day v = (is_past t ⇒ Rejection.OffTheCalendar) ∷ (runs_back day t ⇒ Rejection.DayRunsBack) ∷ []

-- The answer where no row applies: what the call does says it.
unfoldable pub accepted : Settings → ℕ → Action → (ℕ → View) → Answer
accepted S t a v = at_point Answer.Accepted (λ p b. accepted_by (effect_of S t b (v p).fields)) a

unfoldable pub answer_to : Settings → ℕ → List Bool → ℕ → Action → (ℕ → View) → Answer
answer_to S day u t a v = first_of (rows S day u t a v) (accepted S t a v)

-- A number outside 1 to 32 shows a point that is not enrolled.
unfoldable pub shown : (ℕ → View) → ℕ → View
shown v p = cond (not_point p) blank_view (v p)

unfoldable pub answer : Settings → ℕ → List Bool → Call → (ℕ → View) → Answer
answer S day u c v = answer_to S day u c.today c.action (shown v)

-- "W (0 to 10 working days to cancel), A and B (1 to 400 calendar days ..), and the default and last-resort
-- suppliers, two different ones"; 22: "a setting outside its range, equal suppliers at opening"; 20: the first day is
-- a day given.
unfoldable pub opening_answer : Opening → Answer
opening_answer o =
    first_of
    ((outside 0 10 o.w ⇒ Rejection.FieldOutOfRange) ∷ (outside 1 400 o.a ⇒ Rejection.FieldOutOfRange)
    ∷ (outside 1 400 o.b ⇒ Rejection.FieldOutOfRange)
    ∷ (not_supplier o.default ⇒ Rejection.FieldOutOfRange)
    ∷ (not_supplier o.resort ⇒ Rejection.FieldOutOfRange) ∷ (eqb o.default o.resort ⇒ Rejection.FieldOutOfRange)
    ∷ (is_past o.day ⇒ Rejection.OffTheCalendar) ∷ [])
    Answer.Accepted
