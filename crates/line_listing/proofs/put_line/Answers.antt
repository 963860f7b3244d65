-- One period's line, and how long it can be.
use Rattle.basics.proofs.Basics.{arith}
use Rattle.line_listing.proofs.Growing.{period_within}
use Rattle.line_listing.proofs.put_line.Goals as goal

pub returns : goal.returns
returns c = let a = c.args in record {
  text = c.put_period.ensures;
  short = period_within a.p a.q (omega arith) (omega arith) (omega arith) (omega arith);
}
