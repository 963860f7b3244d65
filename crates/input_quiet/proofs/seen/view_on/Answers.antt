-- Two events at the most, on another day than the register's that lies in the calendar.
use Rattle.basics.proofs.Basics.{sym, ◌∙◌, arith}
use Rattle.input_quiet.proofs.SeenOn.{seen_day, seen_late, seen_up}
use Rattle.input_quiet.proofs.seen.view_on.Goals as goal

pub returns-then-today-from : goal.returns-then-today-from
returns-then-today-from c = elim c.then-today-from.branch [
  | goal.then-today-from-via-then-today-from w ↦
      rw (← c.min.ensures) (seen_day _ _ _ _ (sym (w.if-today-from.true ∙ c.from.ensures)) c.view.ensures)
  | goal.then-today-from-via-else-today-from+then-from-today w ↦
      rw (← c.min.ensures) (seen_late _ _ _ _ (λ e. w.if-today-from.false (sym (c.from.ensures ∙ e)))
      (omega (arith, w.if-from-today.true, w.from-else-today-from.ensures)) c.view.ensures)
]

pub returns : goal.returns
returns c = rw (← c.min.ensures)
    (seen_up _ _ _ _ (λ e. c.if-today-from.false (sym (c.from.ensures ∙ e))) c.brought_up-once.ensures c.brought_up-twice.ensures c.view-2.ensures)
