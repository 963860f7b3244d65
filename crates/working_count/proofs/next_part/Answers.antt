-- `next_part` meets its contract: the year is that of the day; past the calendar no day is worked.
use Rattle.basics.proofs.Basics.{◌∙◌, sym}
use Rattle.dates.proofs.InYear.{year_found}
use Rattle.working_count.proofs.next_part.Goals as goal

pub part_in-requires : goal.part_in-requires
part_in-requires c = (year_found _ _ (sym c.year_of.ensures ∙ c.in-Some.is), c.requires)
