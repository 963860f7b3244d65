-- Before any input: no register is open, and no line has begun.
use Rattle.basics.proofs.Basics.{ap, false}
use Rattle.input_desk.specs.Pinned.Desk.{desk}
use Rattle.input_whole.specs.Pinned.Ends.{start_desk}
use Rattle.input_whole.proofs.start.Goals as goal

pub returns : goal.returns
unfolding start_desk
returns c = let none = ap (desk false) c.no_register-r.ensures in
    record { desk = rw c.tables_of.ensures.points none; part = c.nothing_begun.ensures }
