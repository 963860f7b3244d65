-- The newest slot is stored as it is.
use Rattle.input_point.proofs.deeds.kept_entry.Goals as goal

pub returns : goal.returns
returns c = rw c.newest_place.ensures
