-- The points that fit, one behind the other.
use Rattle.basics.proofs.Basics.{arith}
use Rattle.line_text.proofs.Within.{within_length}
use Rattle.line_listing.proofs.Rising.{listed}
use Rattle.line_listing.proofs.put_listing.Goals as goal

pub shape_of-out : goal.shape_of-out
shape_of-out c = within_length c.put_points-written.ensures (omega (arith, c.taken_from-n.ensures))

pub returns : goal.returns
returns c = listed c.args.r c.args.from c.taken_from-n.result _ _ _ c.taken_from-n.ensures
    c.put_points-written.ensures
