-- Document 01, "Volumes": the questions, which change nothing. Definitions only.
use Rattle.std.specs.Prelude.{ℕ, zero, suc, ◌+◌, ◌-◌, ◌%◌, ◌^◌, Bool, cond, not, ◌||◌, List, get_or, replicate, nat_le, nat_lt, slice_index_or, Option, Some, None}
use Rattle.std.proofs.Math.Option.{Option as Told, none, some}
use Rattle.rules.specs.declared.{Period.Period, History.History, Register.Register}
use Rattle.rules.specs.Rejections.{not_point, outside}
use Rattle.rules.specs.Pinned.Register.{history, no_period, used, point_at}
use Rattle.questions.specs.declared.{HolderAnswer.HolderAnswer, Advance.Advance}

-- "A question off its range, or on a point not enrolled, gives 22."
abbrev pub unasked : Register → ℕ → Bool
unasked r p = not_point p || not (point_at p r.points).fields.enrolled

-- The periods that may be asked about: none of a point off its range, or not enrolled.
unfoldable pub asked_history : Register → ℕ → History
asked_history r p = cond (unasked r p) (history 0 (replicate 24 no_period)) (point_at p r.points).history

abbrev pub held : ℕ → ℕ → HolderAnswer
held h n = record { held = Some h; probes = n }

-- "a refusal reports 0"
abbrev pub refused_holder : HolderAnswer
refused_holder = record { held = None; probes = 0 }

-- 02, F-1: "The holder question shall begin at the newest period, stop at the first that starts on or before the day,
-- and report how many periods it looked at." Of the first n periods; k are looked at already.
unfoldable pub holder_among : ℕ → ℕ → ℕ → List Period → HolderAnswer
holder_among d k zero ps = refused_holder
holder_among d k (suc n) ps =
    cond (nat_le (get_or ps n no_period).start d) (held (get_or ps n no_period).holder (k + 1)) (holder_among d (k + 1) n ps)

abbrev pub holder_in : ℕ → History → HolderAnswer
holder_in d h = holder_among d 0 (used h) h.periods

-- "holder of p on day d (enrolment to register's day)"
unfoldable pub holder_answer : Register → ℕ → ℕ → HolderAnswer
holder_answer r p d = cond (unasked r p || nat_lt r.day d) refused_holder (holder_in d (point_at p r.points).history)

-- "period n of p (start, holder, volume; n from 1 to their count)"; 02, F-4: "Demand 3 and the questions cover these as
-- they cover the booked ones": the period has both volumes.
abbrev pub period_in : ℕ → History → Option Period
period_in n h = cond (outside 1 (used h) n) None (Some (slice_index_or h.periods (n - 1) no_period))

unfoldable pub period_answer : Register → ℕ → ℕ → Option Period
period_answer r p n = cond (unasked r p) None (period_in n (point_at p r.points).history)

-- One of the two volumes of the first n periods, added up; the sum wraps at 2^64, which no register that calls reach
-- comes to.
unfoldable pub sum_of : (Period → ℕ) → ℕ → List Period → ℕ
sum_of vol zero ps = 0
sum_of vol (suc n) ps = (sum_of vol n ps + vol (slice_index_or ps n no_period)) % 2 ^ 64

abbrev pub advances : ℕ → ℕ → Advance
advances v n = record { volume = record { 0 = v }; normal = record { 0 = n } }

abbrev pub advance_among : ℕ → List Period → Advance
advance_among n ps = advances (sum_of (λ (q : Period). q.volume.0) n ps) (sum_of (λ (q : Period). q.normal.0) n ps)

abbrev pub advance_in : History → Advance
advance_in h = advance_among (used h) h.periods

-- "advance of p"; 02, F-4: "a point's Nm³ advance"
unfoldable pub advance_answer : Register → ℕ → Option Advance
advance_answer r p = cond (unasked r p) None (Some (advance_in (point_at p r.points).history))

-- "A question off its range, or on a point not enrolled, gives 22." The number, 0 where the
-- question is answered, and what is told then: the holder; the period's start, holder and volumes; the advances.
abbrev pub question_number : {A : Type 0} → Option A → ℕ
question_number (Some x) = 0
question_number None = 22

abbrev pub question_told : {A : Type 0} → Option A → Told A
question_told (Some x) = some x
question_told None = none

abbrev pub held_number : Option ℕ → ℕ
held_number = question_number

abbrev pub held_told : Option ℕ → Told ℕ
held_told = question_told

abbrev pub holder_number : HolderAnswer → ℕ
holder_number a = held_number a.held

abbrev pub holder_told : HolderAnswer → Told ℕ
holder_told a = held_told a.held

abbrev pub period_number : Option Period → ℕ
period_number = question_number

abbrev pub period_told : Option Period → Told Period
period_told = question_told

abbrev pub advance_number : Option Advance → ℕ
advance_number = question_number

abbrev pub advance_told : Option Advance → Told Advance
advance_told = question_told
