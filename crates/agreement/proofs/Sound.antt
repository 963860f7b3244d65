-- An opening gives a sound register, and every call keeps it sound.
use Rattle.basics.proofs.Basics.{◌≡◌, refl, sym, ◌∙◌, ap, subst, subst₂, true, false, Bool, cond, List, [], ◌≤◌, ℕ, ◌<◌}
use Rattle.basics.proofs.Basics.{suc, zero, arith, length, get_or, ltb-false}
use Rattle.dates.specs.Dates.{last_day}
use Rattle.rules.specs.declared.{Opening.Opening, Period.Period, Point.Point, Register.Register, Settings.Settings}
use Rattle.rules.specs.declared.{Effect.Effect, Fields.Fields, Span.Span, View.View, Call.Call}
use Rattle.rules.specs.Effects.{spans_in, event}
use Rattle.rules.specs.Answers.{is_accepted}
use Rattle.rules.specs.Rejections.{answer_to, shown, answer, opening_answer}
use Rattle.rules.specs.Pinned.Register
use Rattle.rules.specs.Pinned.Register.{no_period, entered, view, register, point_at, advanced, says, done, applied}
use Rattle.rules.proofs.Accept.{pass}
use Rattle.rules.proofs.Views.{passed}
use Rattle.agreement.specs.Sound.{Side, wheels, Rising, SoundPoint, Sound, SoundRegisters}
use Rattle.agreement.proofs.Tally.{oldest, Desc}
use Rattle.agreement.proofs.Slots.{recent, Sized, used_count}
use Rattle.agreement.proofs.Cover.{total_read}
use Rattle.agreement.proofs.Good.{Fine, Good, event_good}
use Rattle.agreement.proofs.Jump.{on_day}
use Rattle.agreement.proofs.Days.{up_kept}
use Rattle.agreement.proofs.Kept.{call_good}
use Rattle.agreement.proofs.Firm.{Firm, firm_later, firm_after, fine_entered}
use Rattle.agreement.proofs.Step.{did, done_count, done_points, done_rest, advanced_rest}
use Rattle.agreement.proofs.Run.{opened_agree}
use Rattle.agreement.proofs.Tied.{Tied, views_agree}
use Rattle.rules.specs.DayBook
use Rattle.rules.specs.DayBook.{Page}

-- Starts that rise in the slots fall in their list.
rising_falls : (x : Side) (n e : ℕ) (ps : List Period) → Rising e n ps ≡ Desc e (recent x n ps)
unfolding recent
rising_falls x zero e ps = refl
rising_falls x (suc n) e ps = rw (rising_falls x n (get_or ps n no_period).start ps)

oldest_first : (x : Side) (n : ℕ) (ps : List Period) → 0 < n → (d : ℕ) → oldest (recent x n ps) d ≡ (get_or ps 0 no_period).start
unfolding recent oldest
oldest_first x zero ps lt d = absurd (omega arith)
oldest_first x (suc zero) ps lt d = refl
oldest_first x (suc (suc n)) ps lt d = oldest_first x (suc n) ps (omega arith) (get_or ps (suc n) no_period).start

recent_none : (x : Side) (n : ℕ) (ps : List Period) → n ≡ 0 → recent x n ps ≡ []
unfolding recent
recent_none x zero ps q = refl
recent_none x (suc n) ps q = absurd (omega arith)

pub record Hale (t : ℕ) (g : Point) : Type 0 where
  pub firm : (x : Side) → Firm x t g.fields g.history
  pub fine : Fine t (view t g)

sound_hale : (t : ℕ) (g : Point) → SoundPoint t g → Hale t g
sound_hale t g h = let z : Sized g.history = record { slots = h.slots; some = omega (arith, h.room) } in
    let u = used_count g.history z in
    record {
      firm = λ x. record {
        sized = z;
        falling = rw (rising_falls x _ _ _) at h.rising;
        most = rw (total_read g z x) at (h.volume x);
        none = λ n. recent_none x _ _ (h.blank n).0;
        begun = λ y. record { start = _; is = oldest_first x _ _ (h.begun y).0; read = (h.begun y).1 };
      };
      fine = record {
        past = h.read;
        meter = (h.wheels.0, h.wheels.1, h.factor);
        ahead = h.ahead;
        fit = omega (arith, u, h.room);
        blank = λ n. (u ∙ (h.blank n).0, (h.blank n).1);
      };
    }

none_some : (x : Side) (n : ℕ) (ps : List Period) (s : ℕ) → ((d : ℕ) → oldest (recent x n ps) d ≡ s) → 0 < n
unfolding recent oldest
none_some x zero ps s o = let a = o 0 in let b = o 1 in absurd (omega arith)
none_some x (suc n) ps s o = omega arith

hale_sound : (t : ℕ) (g : Point) → Hale t g → SoundPoint t g
hale_sound t g h = let f = h.firm wheels in let u = used_count g.history f.sized in
    record {
      slots = f.sized.slots;
      rising = rw (rising_falls wheels _ _ _) f.falling;
      room = omega (arith, u, h.fine.fit);
      ahead = h.fine.ahead;
      read = h.fine.past;
      wheels = (h.fine.meter.0, h.fine.meter.1);
      factor = h.fine.meter.2;
      volume = λ x. rw (total_read g f.sized x) (h.firm x).most;
      blank = λ n. (sym u ∙ (h.fine.blank n).0, (h.fine.blank n).1);
      begun = λ y. let b = f.begun y in let some = none_some wheels _ _ b.start b.is in
          (some, omega (arith, b.read, b.is 0, oldest_first wheels _ g.history.periods some 0));
    }

-- An effect that is good keeps a point hale.
effect_hale : (t : ℕ) (g : Point) → Hale t g → (e : Effect) (j : List ℕ) → Good t (view t g) e (spans_in e) j → t ≤ last_day
    → Hale t (entered t e g.history)
effect_hale t g h e j k cal =
    record { firm = λ x. firm_after x t g (h.firm x) e j k cal; fine = fine_entered wheels t g (h.firm wheels) e j k cal }

module _ (S : Settings) (B : 0 < S.b) where
  day_hale : (t : ℕ) (g : Point) → Hale t g → suc t ≤ last_day → Hale (suc t) (on_day S (suc t) g)
  day_hale t g h cal = let e : Effect = event S (suc t) g.fields in
      let k = (event_good S B t (view (suc t) g) h.fine).1 in
      record {
        firm = λ x. firm_after x (suc t) g (firm_later (h.firm x)) e [] k cal;
        fine = fine_entered wheels (suc t) g (firm_later (h.firm wheels)) e [] k cal;
      }

up_hale : (r : Register) → Sound r → (t : ℕ) → r.day ≤ t → t ≤ last_day → (p : ℕ) → 1 ≤ p → p ≤ 32
    → Hale t (point_at p (advanced t r).points)
up_hale r h t on cal p lo hi =
    up_kept r.settings h.lasting.1 Hale (λ x g i. i.fine.ahead) (day_hale r.settings h.lasting.1) r refl t p on cal lo
    (omega (arith, h.count)) (sound_hale r.day (point_at p r.points) (h.points p lo hi))

module _ (r : Register) (c : Call) (h : Sound r) where
  abbrev t : ℕ
  t = c.today

  abbrev v : ℕ → View
  v p = view t (point_at p (advanced t r).points)

  module _ (ok : is_accepted (answer_to r.settings r.day r.contracts t c.action (shown v)) ≡ true) where
    w : (t ≤ last_day) × (r.day ≤ t)
    w = passed r.settings r.day r.contracts t c.action (shown v) ok

    acted_hale : (p : ℕ) → 1 ≤ p → p ≤ 32 → Hale t (did r.settings t c.action p (point_at p (advanced t r).points))
    acted_hale p lo hi = let i = up_hale r h t w.1 w.0 p lo hi in
        effect_hale t (point_at p (advanced t r).points) i _ _
        (call_good r.settings h.lasting.0 h.lasting.1 r.day r.contracts t v p lo hi i.fine c.action ok) w.0

    accepted_sound : Sound (done t c.action (advanced t r))
    accepted_sound = let a = advanced_rest t r in let m : length (advanced t r).points ≡ 32 = a.3 ∙ h.count in
        let k = done_rest (advanced t r) m t r.day r.contracts (shown v) c.action in
        record {
          lasting = rw (k.0, a.0) h.lasting;
          calendar = rw (k.1, a.1) w.0;
          count = done_count (advanced t r) m t r.day r.contracts (shown v) c.action;
          points = λ p lo hi.
              let e = done_points (advanced t r) m t r.day r.contracts (shown v) c.action (rw a.0 ok) p lo hi in
              subst₂ SoundPoint (sym (k.1 ∙ a.1))
              (ap (λ (S : Settings). did S t c.action p (point_at p (advanced t r).points)) (sym a.0) ∙ sym e)
              (hale_sound t _ (acted_hale p lo hi));
        }

  call_sound : Sound (applied r c).register
  unfolding applied says answer
  call_sound = go (is_accepted (says r c)) refl
    where
      go : (x : Bool) → is_accepted (says r c) ≡ x → Sound (cond x (done t c.action (advanced t r)) r)
      go true ok = accepted_sound ok
      go false z = h

-- What stands beside a page is hale.
tied_hale : (t : ℕ) (l : List Span) (n : List ℕ) (g : Page) (r : Point) → Tied t l n g r → Hale t r
tied_hale t l n g r h = record {
  firm = λ x. subst (λ (f : Fields). Firm x t f r.history) h.point.same (h.point.firm x);
  fine = subst (Fine t) (views_agree t l n g r h.point) h.fine;
}

opened_sound : (o : Opening) → is_accepted (opening_answer o) ≡ true → Sound (Register.opened o)
unfolding Register.opened opening_answer DayBook.opened
opened_sound o ok = let h = opened_agree o ok in
    let d = pass _ _ _ _ (pass _ _ _ _ (pass _ _ _ _ (pass _ _ _ _ (pass _ _ _ _ (pass _ _ _ _ (pass _ _ _ _ ok).1).1).1).1).1).1 in
    record {
      lasting = h.lasting;
      calendar = ltb-false last_day o.day d.0;
      count = h.count;
      points = λ p lo hi. hale_sound _ _ (tied_hale _ _ _ _ _ (h.points p lo hi));
    }

pub sound_registers : SoundRegisters
sound_registers = record { opening = opened_sound; call = λ r c h. call_sound r c h }
