-- `read_full` is safe and ends. The measure is the room left, which falls because a read of nothing is the last.
use Rattle.basics.proofs.Basics.{◌≤◌, ◌-◌, length}
use Rattle.stored_files.proofs.read_full.Given as goal

abbrev pub invariant-loop-done : goal.invariant-loop-done
invariant-loop-done g l = l.done ≤ length l.buffer

abbrev pub decreases-loop-done : goal.decreases-loop-done
decreases-loop-done g l = length l.buffer - l.done
