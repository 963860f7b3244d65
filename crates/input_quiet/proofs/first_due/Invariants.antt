use Rattle.input_quiet.proofs.Dues.{Walk}
use Rattle.input_quiet.proofs.first_due.Given as goal

abbrev pub invariant-loop-f : goal.invariant-loop-f
invariant-loop-f l = Walk l.fields l.f-index l.first
