-- `easter_day` meets its contract: the day of 22 March, where there is one, and the table's entry of days on.
use Rattle.basics.proofs.Basics.{sym, ◌∙◌}
use Rattle.holidays.proofs.EasterTable.{easter_found}
use Rattle.holidays.proofs.easter.easter_day.Goals as goal

pub returns : goal.returns
returns c = rw c.from.ensures (easter_found _ _ (sym c.day_of.ensures ∙ c.in_ok-march_22.was) _ c.offset.ensures)
