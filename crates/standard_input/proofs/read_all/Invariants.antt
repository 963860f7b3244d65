-- What is still to be taken stands within what was read, and what was read within its buffer; the session leads to the
-- desk of an input.
use Rattle.basics.proofs.Basics.{◌≤◌, length}
use Rattle.standard_input.proofs.Leads.{Leads}
use Rattle.standard_input.proofs.read_all.Given as goal

abbrev pub invariant-loop : goal.invariant-loop
invariant-loop g l = record { within : (l.from ≤ l.end) × (l.end ≤ length l.input); leads : Leads l.s }
