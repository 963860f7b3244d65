-- The closing lines, where a register is open.
use Rattle.basics.proofs.Basics.{not-true, not-false}
use Rattle.input_pieces.specs.Pinned.Session.{desk_of}
use Rattle.input_whole.proofs.Ends.{closed_ready, closed_unready}
use Rattle.input_whole.proofs.close.Goals as goal

pub returns-then-not-s : goal.returns-then-not-s
returns-then-not-s c = let a = c.args in closed_unready (desk_of a.s) a.from a.out.now (not-true _ c.if-not-s.true)

pub returns : goal.returns
returns c = let a = c.args in
    closed_ready (desk_of a.s) a.from a.out.now _ c.put_listing.result (not-false _ c.if-not-s.false)
    (rw c.desk_of.ensures at c.put_listing.ensures)
