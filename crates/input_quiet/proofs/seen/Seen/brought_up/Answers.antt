-- The event that falls due first.
use Rattle.input_quiet.specs.Between.Quiet.{next_seen, happened_seen}
use Rattle.input_quiet.proofs.seen.Seen.brought_up.Goals as goal

pub returns-in-Nothing : goal.returns-in-Nothing
unfolding next_seen happened_seen
returns-in-Nothing c = rw (← c.due_by.ensures, c.in-Nothing.is)

pub returns-in-Naming : goal.returns-in-Naming
unfolding next_seen happened_seen
returns-in-Naming c = rw (← c.due_by.ensures, c.in-Naming.is) c.named.ensures
