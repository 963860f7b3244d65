-- `ones_under` meets its contract: a word has at most 64 ones.
use Rattle.basics.proofs.Basics.{ap}
use native.Mathlib.Nat.{lt_of_le_of_lt}
use lib.Bits.{bit_and, and_le_l}
use lib.Count.{ones, ones-le}
use Rattle.working_count.proofs.ones_under.Goals as goal

pub returns : goal.returns
returns c = let word = c.args.word in (
  ap (λ m. ones (bit_and word m)) c.mask.ensures,
  ones-le 64 _ (lt_of_le_of_lt (and_le_l word c.mask.result) c.ranges.word.fits),
)
