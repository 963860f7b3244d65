-- A daily reading: what it is answered and what it stores.
use Rattle.basics.proofs.Basics.{◌≡◌, refl, ◌∙◌, ap, true, false, Bool, cond, ◌&&◌, List, [], ℕ, ◌-◌, ◌<◌, min, eqb}
use Rattle.basics.proofs.Basics.{ltb, lt-ltb, eq-eqb, eqb-true, ltb-true}
use Rattle.std.specs.Prelude.{Option, Some, None}
use Rattle.rules.specs.declared.{Action.Action, Answer.Answer, Effect.Effect, Fields.Fields, Period.Period, PointAction.PointAction}
use Rattle.rules.specs.declared.{NormalVolume.NormalVolume, Reading.Reading, Settings.Settings, Span.Span, View.View, Volume.Volume, Call.Call}
use Rattle.rules.specs.Answers.{is_accepted}
use Rattle.rules.specs.Effects.{effect_of, at_point}
use Rattle.rules.specs.Fields.{reading, with_reading}
use Rattle.rules.specs.Pinned.Register.{period, booked_period}
use Rattle.rules.specs.Rejections.{rows_at}
use Rattle.rules.specs.Volumes.{span_to}
use Rattle.point_volumes.specs.Between.{is_fair, booked_newest}
use Rattle.point_answers.specs.Between.{answer_at}
use Rattle.point_answers.proofs.Folded.{all_refuse, kept_first}
use Rattle.point_effects.specs.declared.{Ruling.Ruling}
use Rattle.point_effects.specs.Between.{ruling_at}
use Rattle.point_effects.proofs.Accepted.{Readable, reading_fits}
use Rattle.line_messages.specs.declared.{Message.Message}
use Rattle.input_quiet.specs.Between.Quiet.{view_on}
use Rattle.input_point.specs.Between.Answers.{call_said, said_by}
use Rattle.input_point.specs.Between.Deeds.{lies_in, slot, reading_deed, effect_deed, ruled_deed, call_deed, deed_of}
use Rattle.input_point.specs.Between.Daily.{stored, reading_said, daily_read, daily_at, daily_of}
use Rattle.input_point.specs.declared.{answers.Said.Said, daily.DailyReading.DailyReading}

-- The fields after it, and the ruling.
abbrev pub read : Fields → Reading → Fields
read f now = with_reading f f.meter now

abbrev pub reads : Span → Fields → Ruling
reads s f = record { answer = Answer.Accepted; effect = Effect.Read s f }

-- In the words of the loop: what is said, and what it stores.
pub record Stores (ready : Bool) (day quiet : ℕ) (m : Message) (n : ℕ) (f : Fields) (q : Period)
    (t : ℕ) (now : Reading) (v : Volume) (w : NormalVolume) : Type 0 where
  pub span : Span
  pub said : (S : Settings) (u : List Bool) → said_by S day u ready m f n q.start ≡ Said.Ruled (reads span (read f now))
  pub deed : deed_of quiet m (Said.Ruled (reads span (read f now))) n q ≡ slot t (read f now) n (min n 24 - 1) (period q.start q.holder v.0 w.0)

abbrev pub DailyOf : Bool → ℕ → ℕ → Message → ℕ → Fields → Period → Option DailyReading → Type 0
DailyOf ready day quiet m n f q (Some r) = Stores ready day quiet m n f q r.today r.reading r.volume r.normal
DailyOf ready day quiet m n f q None = Unit {0}

booked_shape : (s : Span) (q : Period) → booked_newest s q
    ≡ period q.start q.holder (booked_newest s q).volume.0 (booked_newest s q).normal.0
unfolding booked_newest booked_period
booked_shape s q = go (is_fair s)
  where
    go : (b : Bool) → cond b (booked_period s s.to q) q ≡ period q.start q.holder (cond b (booked_period s s.to q) q).volume.0
        (cond b (booked_period s s.to q) q).normal.0
    go true = refl
    go false = refl

module _ (day p d x z : ℕ) (f : Fields) (ok : is_accepted (reading_said day p d x z f) ≡ true) where
  pub daily_fits : Readable f d x z
  daily_fits = reading_fits _ day f d x z (record { day = day; contracts = []; point = p; view = _; same = refl; ok = ok })

  -- It is answered with no day, whatever else the register holds.
  daily_ruling : (S : Settings) (u : List Bool) (w : View) → w.fields ≡ f
      → ruling_at S day u day p (PointAction.Reading d x z) w ≡ reads (span_to f d x z) (read f (reading d x))
  unfolding ruling_at answer_at rows_at effect_of all_refuse
  daily_ruling S u w e = rw e (rw (kept_first _ Answer.Accepted refl ok))

-- Only a reading is one.
pub data Which (a : PointAction) : Type 0 where
  is_reading : (d x z : ℕ) → a ≡ PointAction.Reading d x z → Which a
  is_other : ((day p n : ℕ) (f : Fields) (q : Period) → None ≡ daily_at day p a n f q) → Which a

pub which : (a : PointAction) → Which a
unfolding daily_at
which (PointAction.Reading d x z) = is_reading d x z refl
which (PointAction.Enrol m) = is_other (λ day p n f q. refl)
which (PointAction.IntoService s k) = is_other (λ day p n f q. refl)
which (PointAction.DefaultSupply k) = is_other (λ day p n f q. refl)
which (PointAction.Request s k r) = is_other (λ day p n f q. refl)
which (PointAction.Cancel s) = is_other (λ day p n f q. refl)
which (PointAction.MeterChange x z m) = is_other (λ day p n f q. refl)
which PointAction.OutOfService = is_other (λ day p n f q. refl)
which (PointAction.Suspend m) = is_other (λ day p n f q. refl)

module _ (day quiet : ℕ) (n : ℕ) (f : Fields) (q : Period) where
  module _ (c : Call) (today : c.today ≡ day) (lt : day < quiet) where
    abbrev Stored : Option DailyReading → Type 0
    Stored r = DailyOf true day quiet (Message.Ask c) n f q r

    read_stores : (p d x z : ℕ) → c.action ≡ Action.At p (PointAction.Reading d x z) → Stored (daily_read day p d x z n f q)
    unfolding daily_read said_by call_said deed_of call_deed ruled_deed effect_deed reading_deed view_on span_to
    read_stores p d x z h = go (is_accepted (reading_said day p d x z f)) refl (lies_in n q.start f.reading.day) refl
      where
        go : (a : Bool) → is_accepted (reading_said day p d x z f) ≡ a → (b : Bool) → lies_in n q.start f.reading.day ≡ b →
            let s = booked_newest (span_to f d x z) q in
            Stored (cond (a && b) (Some (stored day (reading d x) s.volume s.normal)) None)
        go true ok true lies = record {
          span = span_to f d x z;
          said = λ S u. rw (h, today, eq-eqb day day refl) (ap Said.Ruled (daily_ruling day p d x z f ok S u _ refl));
          deed = rw (h, today, lt-ltb day quiet lt, lies)
              (ap (slot day (read f (reading d x)) n (min n 24 - 1)) (booked_shape (span_to f d x z) q));
        }
        go true ok false lies = tt
        go false ok b lies = tt

    in_stores : (a : Action) → c.action ≡ a → Stored (at_point None (λ p b. daily_at day p b n f q) a)
    unfolding daily_at
    in_stores (Action.At p a) h = elim (which a) [
      | is_reading d x z e ↦ rw e (read_stores p d x z (h ∙ ap (Action.At p) e))
      | is_other k ↦ rw (← (k day p n f q)) tt
    ]
    in_stores (Action.Contract s) h = tt
    in_stores (Action.Failure s) h = tt
    in_stores Action.Day h = tt

  -- What a daily reading stores is what is said and done of it.
  pub daily_stores : (ready : Bool) (m : Message) → DailyOf ready day quiet m n f q (daily_of ready day quiet m n f q)
  unfolding daily_of
  daily_stores ready (Message.Open o) = tt
  daily_stores ready (Message.Ask c) = go ready (eqb c.today day) refl (ltb day quiet) refl
    where
      go : (b e : Bool) → eqb c.today day ≡ e → (l : Bool) → ltb day quiet ≡ l →
          DailyOf b day quiet (Message.Ask c) n f q (cond (b && (e && l)) (at_point None (λ p a. daily_at day p a n f q) c.action) None)
      go true true k true l = in_stores c (eqb-true c.today day k) (ltb-true day quiet l) c.action refl
      go true true k false l = tt
      go true false k b l = tt
      go false e k b l = tt
  daily_stores ready Message.Unreadable = tt
