-- `is_fixed_holiday` meets its contract: some row of the table falls on the date.
use Rattle.basics.proofs.Basics.{◌∙◌}
use Rattle.std.proofs.Common.{rules, tests}
use Rattle.std.proofs.lemmas.Iterator.{YieldsList-from_slice}
use Rattle.std.proofs.lemmas.Iterator.Search.{any_from_yields_List}
use Rattle.holidays.specs.Holidays.{falls_on, fixed_holidays, is_fixed_holiday}
use Rattle.holidays.proofs.FixedTable.{any_row}
use Rattle.holidays.proofs.is_fixed_holiday.Goals as goal

pub returns : goal.returns
unfolding is_fixed_holiday
returns c =
    any_from_yields_List (λ f. falls_on f c.args.x) _ _ _ c.any.ensures.ran (YieldsList-from_slice fixed_holidays cc) (λ f b q k. search (rules, tests)) ∙
    any_row fixed_holidays c.args.x
