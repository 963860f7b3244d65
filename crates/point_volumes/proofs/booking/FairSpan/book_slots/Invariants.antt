-- What is left to book from here is what was to be booked from the start.
use Rattle.basics.proofs.Basics.{◌≡◌}
use Rattle.rules.specs.Pinned.Register.{booked_slots}
use Rattle.point_volumes.proofs.booking.FairSpan.book_slots.Given as goal

abbrev pub invariant-loop-i : goal.invariant-loop-i
invariant-loop-i l =
    booked_slots l.self.span l.end l.i l.ps ≡ booked_slots l.self.span l.initial.end l.initial.i l.initial.ps
