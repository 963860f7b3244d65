-- Whether a row of a table of fixed holidays falls on a date, as the library has it and as the definition has it.
use Rattle.std.specs.List.{list_any}
use Rattle.basics.proofs.Basics.{◌≡◌, refl, ap, Bool, ◌||◌, List, [], ◌∷◌}
use Rattle.dates.specs.declared.{Date.Date}
use Rattle.holidays.specs.declared.{FixedHoliday.FixedHoliday}
use Rattle.holidays.specs.Holidays.{falls_on, any_falls_on}

pub any_row : (l : List FixedHoliday) (x : Date) → list_any (λ f. falls_on f x) l ≡ any_falls_on l x
any_row [] x = refl
any_row (f ∷ fs) x = ap (λ (b : Bool). falls_on f x || b) (any_row fs x)
