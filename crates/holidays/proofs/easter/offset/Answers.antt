-- `easter::offset` meets its contract: each entry of the table follows the computus.
use Rattle.basics.proofs.Basics.{rules}
use Rattle.holidays.proofs.EasterTable.{table_follows}
use Rattle.holidays.proofs.easter.offset.Goals as goal

pub returns : goal.returns
returns c = table_follows c.args.k (search rules)
