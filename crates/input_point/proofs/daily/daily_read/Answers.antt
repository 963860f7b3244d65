-- A reading of the register's own day, by its rows and the newest period.
use Rattle.basics.proofs.Basics.{◌≡◌, refl, sym, ◌∙◌, ap, Bool, List, ℕ, arith}
use Rattle.rules.specs.declared.{Answer.Answer, Fields.Fields, Period.Period, PointAction.PointAction, Settings.Settings}
use Rattle.rules.specs.declared.{Span.Span, View.View}
use Rattle.rules.specs.Answers.{is_accepted}
use Rattle.rules.specs.Fields.{reading}
use Rattle.point_volumes.specs.Between.{booked_newest}
use Rattle.point_volumes.proofs.Readings.{read_span}
use Rattle.point_answers.specs.Between.{answer_at}
use Rattle.std.specs.Prelude.{Some}
use Rattle.input_point.specs.Between.Daily.{stored, reading_said, daily_read}
use Rattle.input_point.proofs.DailyRules.{daily_fits}
use Rattle.input_point.proofs.daily.daily_read.Goals as goal

-- what the rows say, and whether it is accepted
said : (day p d x z : ℕ) (f : Fields) {a : Answer} {r b : Bool}
    → ((S : Settings) (u : List Bool) (w : View) → w.fields ≡ f → a ≡ answer_at S day u day p (PointAction.Reading d x z) w) → r ≡ is_accepted a
    → r ≡ b → is_accepted (reading_said day p d x z f) ≡ b
said day p d x z f h k e = ap is_accepted (sym (h _ _ _ refl)) ∙ sym k ∙ e

pub returns-then-not-is_accepted : goal.returns-then-not-is_accepted
unfolding daily_read
returns-then-not-is_accepted c = rw (said _ _ _ _ _ _ (rw c.from.ensures at c.reading_answer-answer.ensures) c.is_accepted.ensures (c.if-not-is_accepted.true))

pub returns-then-not-lies_in : goal.returns-then-not-lies_in
unfolding daily_read
returns-then-not-lies_in c = let ok = said _ _ _ _ _ _ (rw c.from.ensures at c.reading_answer-answer.ensures) c.is_accepted.ensures (c.if-not-is_accepted.false) in
    rw (ok, sym c.lies_in.ensures ∙ c.if-not-lies_in.true)

pub overflow_cast-at : goal.overflow_cast-at
overflow_cast-at c = let ok = said _ _ _ _ _ _ (rw c.from.ensures at c.reading_answer-answer.ensures) c.is_accepted.ensures (c.if-not-is_accepted.false) in
    omega (arith, (daily_fits _ _ _ _ _ _ ok).calendar)

pub returns : goal.returns
unfolding daily_read
returns c = let s = c.args in
    let ok = said _ _ _ _ _ _ (rw c.from.ensures at c.reading_answer-answer.ensures) c.is_accepted.ensures (c.if-not-is_accepted.false) in
    let fits = daily_fits _ _ _ _ _ _ ok in
    let span = c.span_to.ensures ∙ read_span s.f _ _ _ fits.index fits.mark in
    rw (ok, sym c.lies_in.ensures ∙ c.if-not-lies_in.false) (ap
    (λ (b : Period). Some (stored s.day (reading s.d s.x) b.volume b.normal))
    (c.book_newest-booked.ensures ∙ ap (λ (x : Span). booked_newest x s.newest.now.period) span))
