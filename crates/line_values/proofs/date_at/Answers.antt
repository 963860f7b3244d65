-- `line_values::date_at` meets its contract: the year, the month, the day, and then the calendar.
use Rattle.std.specs.Prelude.{Option}
use Rattle.basics.proofs.Basics.{sym, ◌∙◌, ap, ℕ}
use Rattle.line_values.proofs.Steps.{day_found, date_steps}
use Rattle.line_values.proofs.date_at.Goals as goal

pub returns-in_err-year : goal.returns-in_err-year
returns-in_err-year c = rw (date_steps, ← c.fixed_at.ensures, c.in_err-year.was) c.from_residual.ensures

pub returns-in_err-month : goal.returns-in_err-month
returns-in_err-month c = rw (date_steps, ← c.fixed_at.ensures, c.in_ok-year.was, ← c.fixed_at-2.ensures, c.in_err-month.was)
    c.from_residual-in_err-month.ensures

pub returns-in_err-day : goal.returns-in_err-day
returns-in_err-day c = rw (date_steps, ← c.fixed_at.ensures, c.in_ok-year.was)
    (rw (← c.fixed_at-2.ensures, c.in_ok-month.was, ← c.fixed_at-3.ensures, c.in_err-day.was) c.from_residual-in_err-day.ensures)

pub returns-in_err-n : goal.returns-in_err-n
returns-in_err-n c = rw (date_steps, ← c.fixed_at.ensures, c.in_ok-year.was, ← c.fixed_at-2.ensures, c.in_ok-month.was)
    (rw (← c.fixed_at-3.ensures, c.in_ok-day.was)
    (c.from_residual-in_err-n.ensures ∙ ap (λ (a : Option ℕ). day_found a c.in_ok-day.end) (sym c.in_err-n.was ∙ c.day_of.ensures)))

pub returns : goal.returns
returns c = rw (date_steps, ← c.fixed_at.ensures, c.in_ok-year.was, ← c.fixed_at-2.ensures, c.in_ok-month.was)
    (rw (← c.fixed_at-3.ensures, c.in_ok-day.was)
    (rw c.from.ensures (ap (λ (a : Option ℕ). day_found a c.in_ok-day.end) (sym c.in_ok-n.was ∙ c.day_of.ensures))))
