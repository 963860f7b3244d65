-- `line_values::digit` meets its contract.
use Rattle.basics.proofs.Basics.{arith}
use Rattle.line_values.proofs.digit.Goals as goal

pub returns : goal.returns
returns c = omega arith
