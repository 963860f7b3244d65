-- What is put stands within the buffer.
use Rattle.std.specs.Prelude.{◌≤◌, length}
use Rattle.ask.proofs.every.put_values.Given as goal

abbrev pub invariant-loop-v : goal.invariant-loop-v
invariant-loop-v l = l.end ≤ length l.out
