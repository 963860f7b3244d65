-- What a line leaves behind: refused, stored in the tables, or done on the whole register.
use Rattle.basics.proofs.Basics.{◌≡◌, refl, sym, ◌∙◌, ap, true, false, Bool, List, map, ◌≤◌, ℕ, ◌-◌, ◌+◌, ◌<◌, ◌*◌, min}
use Rattle.basics.proofs.Basics.{le_trans, arith, get_or, set, set-get_or}
use Rattle.rules.specs.declared.{Answer.Answer, Fields.Fields, Period.Period, Settings.Settings, Span.Span}
use Rattle.rules.specs.Answers.{is_accepted}
use Rattle.rules.specs.Fields.{blank}
use Rattle.rules.specs.Pinned.Register.{period, no_period}
use Rattle.line_messages.specs.declared.{Message.Message}
use Rattle.input_tables.specs.declared.{Tables.Tables}
use Rattle.input_tables.specs.Between.Tables.{points_of, booked_at, Sized, Apart}
use Rattle.register.specs.Between.Calls.{failed_on}
use Rattle.input_desk.specs.declared.{Desk.Desk}
use Rattle.input_desk.specs.Pinned.Desk.{desk, answer_of, desk_after}
use Rattle.input_desk.proofs.Openings.{refused_after}
use Rattle.input_quiet.specs.Between.Quiet.{due_day, first_due}
use Rattle.input_quiet.proofs.Dues.{first_at, first_set}
use Rattle.input_point.specs.declared.{answers.Said.Said, daily.DailyReading.DailyReading, deeds.Deed.Deed, deeds.Entry.Entry}
use Rattle.input_point.specs.Between.Answers.{place_of, said_by, newest_start, failure_answer, settled}
use Rattle.input_point.proofs.Settled.{answer_settled}
use Rattle.std.specs.Prelude.{Some}
use Rattle.input_pieces.specs.declared.{Session.Session}
use Rattle.input_pieces.specs.Between.Pieces.{Told}
use Rattle.input_pieces.specs.Pinned.Session.{register_in, desk_of}
use Rattle.input_pieces.proofs.Turns.{Turned}
use Rattle.input_point.specs.Between.Deeds.{deed_of}
use Rattle.input_point.specs.Between.Daily.{daily_of}
use Rattle.input_point.proofs.DailyRules.{read, reads, Stores, daily_stores}
use Rattle.input_point.proofs.DeedsDone.{Within, deed_within}
use Rattle.input_point.proofs.Stored.{is_whole, stored_in, deed_stored, slot_sized, back_sized}

-- The answer a, and the tables after it.
pub record Next (d : Desk) (m : Message) (a : Answer) (ready : Bool) (S : Settings) (day : ℕ) (u : List Bool) (fs : List Fields) (ns : List ℕ)
    (ss : List Period) (quiet : ℕ) : Type 0 where
  pub turned : Turned d m a (desk ready (register_in S day u fs ns ss))
  pub sized : Sized fs ns ss
  pub calm : quiet ≤ first_due fs

-- a deed is on one of the 24 slots, or of one of the suppliers
pub deed_in : (quiet : ℕ) (m : Message) (y : Said) (n : ℕ) (q : Period) {x v : Deed} → x ≡ v → x ≡ deed_of quiet m y n q → Within v
deed_in quiet m y n q h k = rw (← h, k) (deed_within quiet m y n q)

-- What was said, and the answer.
pub record Heard (d : Desk) (x : Said) (m : Message) (y : Said) (a : Answer) : Type 0 where
  pub said : y ≡ x
  pub answer : a ≡ answer_of d m

-- The tables before the line.
pub record State : Type 0 where
  pub ready : Bool
  pub set : Settings
  pub day : ℕ
  pub contracts : List Bool
  pub fields : List Fields
  pub counts : List ℕ
  pub slots : List Period
  pub quiet : ℕ

abbrev pub state_of : Session → ℕ → State
state_of s quiet = record {
  ready = s.ready;
  set = s.settings;
  day = s.day;
  contracts = s.contracts;
  fields = s.tables.fields;
  counts = s.tables.counts;
  slots = s.tables.slots;
  quiet = quiet;
}

module _ (z : State) where
  abbrev fs : List Fields
  fs = z.fields

  abbrev ns : List ℕ
  ns = z.counts

  abbrev ss : List Period
  ss = z.slots

  abbrev pub d : Desk
  d = desk z.ready (register_in z.set z.day z.contracts fs ns ss)

  abbrev pub said_here : Message → ℕ → ℕ → Said
  said_here m i k =
      said_by z.set z.day z.contracts z.ready m (get_or fs i blank) (get_or ns i 0) (get_or ss (24 * i + k) no_period).start

  abbrev fails : ℕ → ℕ → Answer
  fails = failure_answer z.set z.day fs ns ss

  module _ (sized : Sized fs ns ss) (calm : z.quiet ≤ first_due fs) (m : Message) (i : ℕ) (hi : i ≡ place_of m) (lt : i < 32) (k : ℕ)
      (hk : k ≡ min (get_or ns i 0) 24 - 1) where
    answer_is : (x : Said) → x ≡ said_here m i k → answer_of d m ≡ settled fails x
    answer_is x h =
        let e : x ≡ said_by z.set z.day z.contracts z.ready m (get_or fs i blank) (get_or ns i 0) (newest_start i (get_or ns i 0) ss) = rw hk at h in
        answer_settled z.set z.day z.contracts fs ns ss sized z.ready m i hi ∙ ap (settled fails) (sym e)

    pub heard : {y : Said} {a : Answer} → y ≡ said_here m i k → a ≡ settled fails y → Heard d (said_here m i k) m y a
    heard {y} h w = record { said = h; answer = w ∙ sym (answer_is y h) }

    module _ {y : Said} {a : Answer} (told : Heard d (said_here m i k) m y a) where
      pub refused_next : is_accepted a ≡ false → Next d m a z.ready z.set z.day z.contracts fs ns ss z.quiet
      refused_next h =
          record { turned = record { answer = told.answer; after = sym (refused_after d m (rw told.answer at h)) }; sized = sized; calm = calm }

      module _ (ok : is_accepted a ≡ true) where
        module _ {x : Deed} (hx : x ≡ deed_of z.quiet m y (get_or ns i 0) (get_or ss (24 * i + k) no_period)) where
          stored : is_whole x ≡ false → desk z.ready (stored_in z.set z.day z.contracts fs ns ss i x) ≡ desk_after d m
          stored w =
              let e : x ≡ deed_of z.quiet m
              (said_by z.set z.day z.contracts z.ready m (get_or fs i blank) (get_or ns i 0) (newest_start i (get_or ns i 0) ss)) (get_or ns i 0)
              (get_or ss (24 * i + (min (get_or ns i 0) 24 - 1)) no_period) = rw (told.said, hk) at hx in
              sym (deed_stored z.set z.day z.contracts fs ns ss sized z.quiet calm i lt z.ready m hi (rw told.answer at ok) x e w)

          pub slot_next : {e : Entry} → x ≡ Deed.Slot e → {due quiet' : ℕ} → due ≡ due_day e.fields.supply →
              quiet' ≡ min z.quiet due →
              Next d m a z.ready z.set e.today z.contracts (set fs i e.fields) (set ns i e.count)
              (set ss (24 * i + e.place) e.period) quiet'
          slot_next {e} h {quiet' = quiet'} hd hq =
              record {
                turned = record { answer = told.answer; after = rw h at (stored (rw h)) };
                sized = slot_sized z.set z.day z.contracts fs ns ss sized i lt e.fields e.count (24 * i + e.place) e.period;
                calm = first_set fs i e.fields quiet' (omega (arith, calm)) (omega arith);
              }

          pub back_next : {t : ℕ} {s : Span} {g : Fields} → x ≡ Deed.Back t s g → {ss' : List Period} → ss' ≡ booked_at s i (get_or ns i 0) ss →
              {due quiet' : ℕ} → due ≡ due_day g.supply → quiet' ≡ min z.quiet due →
              Next d m a z.ready z.set t z.contracts (set fs i g) ns ss' quiet'
          back_next {t} {s} {g} h hs {quiet' = quiet'} hd hq =
              record {
                turned = record { answer = told.answer; after = rw hs (rw h at (stored (rw h))) };
                sized = rw hs (back_sized z.set z.day z.contracts fs ns ss sized i lt s g);
                calm = first_set fs i g quiet' (omega (arith, calm)) (omega arith);
              }

          pub sign_next : {t s : ℕ} → x ≡ Deed.Sign t s → Next d m a z.ready z.set t (set z.contracts s true) fs ns ss z.quiet
          sign_next h = record { turned = record { answer = told.answer; after = rw h at (stored (rw h)) }; sized = sized; calm = calm }

          pub pass_next : {t : ℕ} → x ≡ Deed.Pass t → Next d m a z.ready z.set t z.contracts fs ns ss z.quiet
          pass_next h = record { turned = record { answer = told.answer; after = rw h at (stored (rw h)) }; sized = sized; calm = calm }

          pub fail_next : {t s : ℕ} → x ≡ Deed.Fail t s → {w : Tables} → Apart (map (failed_on z.set t s) (points_of fs ns ss)) w →
              {quiet' : ℕ} → quiet' ≡ first_due w.fields →
              Next d m a z.ready z.set t (set z.contracts s false) w.fields w.counts w.slots quiet'
          fail_next h apart hq =
              record {
                turned = record { answer = told.answer; after = rw apart.points (rw h at (stored (rw h))) };
                sized = apart.sized;
                calm = omega (arith, hq);
              }

    -- a daily reading, stored by itself
    pub daily_next : {x : DailyReading}
        → Some x ≡ daily_of z.ready z.day z.quiet m (get_or ns i 0) (get_or fs i blank) (get_or ss (24 * i + k) no_period)
        → Next d m Answer.Accepted z.ready z.set x.today z.contracts (set fs i (read (get_or fs i blank) x.reading)) ns
        (set ss (24 * i + k) (period (get_or ss (24 * i + k) no_period).start (get_or ss (24 * i + k) no_period).holder x.volume.0 x.normal.0)) z.quiet
    daily_next {x} e =
        let h : Stores z.ready z.day z.quiet m (get_or ns i 0) (get_or fs i blank) (get_or ss (24 * i + k) no_period) x.today x.reading x.volume x.normal =
        rw (← e) at (daily_stores z.day z.quiet (get_or ns i 0) (get_or fs i blank) (get_or ss (24 * i + k) no_period) z.ready m) in
        let y : Said = Said.Ruled (reads h.span (read (get_or fs i blank) x.reading)) in
        let hy : y ≡ said_here m i k = sym (h.said z.set z.contracts) in
        let due : ℕ = due_day (get_or fs i blank).supply in
        let w = slot_next (record { said = hy; answer = sym (answer_is y hy) }) refl (sym h.deed) refl {due = due} refl refl in
        record {
          turned = rw (← hk, set-get_or ns i 0) at w.turned;
          sized = rw (← hk, set-get_or ns i 0) at w.sized;
          calm = first_set fs i (read (get_or fs i blank) x.reading) z.quiet calm (le_trans calm (first_at fs i (omega (arith, lt, sized.fields))));
        }

-- The same of a session.
pub told_by : {s s' : Session} {m : Message} {a : Answer} {quiet : ℕ} →
    Next (desk_of s) m a s'.ready s'.settings s'.day s'.contracts s'.tables.fields s'.tables.counts s'.tables.slots quiet →
    s'.part ≡ s.part → Told s m a s' quiet
told_by n p = record { answer = n.turned.answer; after = n.turned.after; part = p; calm = record { sized = n.sized; due = n.calm } }
