use Rattle.basics.proofs.Basics.{sym}
use Rattle.input_lines.proofs.KeptBytes.{empty_begun}
use Rattle.input_lines.proofs.nothing_begun.Goals as goal

pub returns : goal.returns
returns c = sym empty_begun
