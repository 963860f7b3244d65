use Rattle.input_quiet.specs.Between.Quiet.{due_day}
use Rattle.input_quiet.proofs.due_day.Goals as goal

pub returns : goal.returns
unfolding due_day
returns c = rw (← c.kind_ends.ensures, ← c.request_falls.ensures) c.min.ensures
