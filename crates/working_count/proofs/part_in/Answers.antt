-- `part_in` meets its contract: the ones under the mask are the working days of the part.
use Rattle.working_count.proofs.Parts.{counted}
use Rattle.working_count.proofs.part_in.Goals as goal

pub returns : goal.returns
returns c = let upto = rw c.from-2.ensures at c.min.ensures in
    rw c.from.ensures (counted _ _ _ c.requires.0 c.requires.1 _ _ upto (rw c.from.ensures at c.min-hi.ensures)
    _ _ c.words-words.ensures (rw c.from.ensures at c.ones_under.ensures.0))
