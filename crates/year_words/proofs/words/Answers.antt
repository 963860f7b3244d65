-- `words` meets its contract: each entry of the table is its year's, and no day past the calendar is worked.
use Rattle.basics.proofs.Basics.{arith}
use Rattle.year_words.proofs.Table.{year_right}
use Rattle.year_words.proofs.YearLaw.{past_words}
use Rattle.year_words.proofs.words.Goals as goal

pub returns-then-k-ge200 : goal.returns-then-k-ge200
returns-then-k-ge200 c = past_words c.args.k (omega arith)

pub returns : goal.returns
returns c = year_right c.args.k (omega arith)
