-- The volumes passed so far, added up, each kind by itself.
use Rattle.basics.proofs.Basics.{◌≡◌, ℕ}
use Rattle.rules.specs.declared.{Period.Period}
use Rattle.questions.specs.Pinned.Questions.{sum_of}
use Rattle.questions.proofs.sums_of.Given as goal

abbrev pub booked : Period → ℕ
booked q = q.volume.0

abbrev pub converted : Period → ℕ
converted q = q.normal.0

abbrev pub invariant-loop-q : goal.invariant-loop-q
invariant-loop-q l = (l.volume.0 ≡ sum_of booked l.q-index l.ps) × (l.normal.0 ≡ sum_of converted l.q-index l.ps)
