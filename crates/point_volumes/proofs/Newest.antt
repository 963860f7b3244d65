-- A reading whose days all lie in the newest period changes that period alone.
use Rattle.basics.proofs.Basics.{◌≡◌, ap, ◌≤◌, ◌-◌, ◌<◌, arith, set}
use Rattle.rules.specs.declared.{History.History, Span.Span}
use Rattle.rules.specs.Pinned.Register.{used, newest, history, booked_period, booked}
use Rattle.point_volumes.proofs.Slots.{slots_last}

pub newest_booked : (s : Span) (h : History) → 0 < h.count → (newest h).start ≤ s.from →
    booked s h ≡ history h.count (set h.periods (used h - 1) (booked_period s s.to (newest h)))
unfolding booked
newest_booked s h some within = ap (history h.count) (slots_last s s.to (used h) h.periods (omega arith) within)
