-- What the question tells is what a walk day by day counts.
use Rattle.basics.proofs.Basics.{le-leb}
use Rattle.holidays.proofs.Counting.{between_days}
use Rattle.working_count.specs.Question.{working_answer}
use Rattle.working_count.specs.Walk.{SameAsWalk}

pub same_as_walk : SameAsWalk
unfolding working_answer
same_as_walk = record { walk = λ a b h l. rw (le-leb a b h, le-leb b 73048 l, between_days a b) }
