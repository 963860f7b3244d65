-- The year's bits computed month by month, day by day, from the date alone.
use Rattle.std.specs.Prelude.{Option}
use Rattle.basics.proofs.Basics.{Bool, cond, ◌&&◌, not, ◌||◌, ℕ, ◌+◌, suc, zero, ◌*◌, ◌^◌, ltb}
use Rattle.dates.specs.declared.{Date.Date}
use Rattle.dates.specs.Dates.{date, weekday, month_length, leap_row}
use Rattle.dates.specs.Numbers.{is_real, day_number, day_answer, month_start, year_start}
use Rattle.dates.proofs.Years.{year_formula}
use Rattle.holidays.specs.Easter.{easter_sunday, easter_day}
use Rattle.holidays.specs.Holidays.{is_fixed_holiday, falls_on, is_after_easter}

-- day n, of date x, in a year whose Easter Sunday is e, is worked
unfoldable pub worked_on : ℕ → Date → Option ℕ → Bool
worked_on n x e = ltb (weekday n) 5 && not (is_fixed_holiday x || is_after_easter n e)

-- the bits of l days from day n on, which is day d of month m of year y
unfoldable pub day_bits : Option ℕ → ℕ → ℕ → ℕ → ℕ → ℕ → ℕ
day_bits e y m zero n d = 0
day_bits e y m (suc l) n d = day_bits e y m l (suc n) (suc d) * 2 + cond (worked_on n (date y m d) e) 1 0

-- the bits of j months from month m, counted from 0, whose first day is n
unfoldable pub month_bits : Option ℕ → ℕ → ℕ → ℕ → ℕ → ℕ → ℕ
month_bits e y row zero n m = 0
month_bits e y row (suc j) n m =
    month_bits e y row j (n + month_length row m) (suc m) * 2 ^ month_length row m + day_bits e y (suc m) (month_length row m) n 1

unfoldable pub walked_bits : ℕ → ℕ
walked_bits k = month_bits (easter_day (2000 + k)) (2000 + k) (leap_row (2000 + k)) 12 (year_formula k) 0

-- what the test computes with
unfoldable pub computes : ℕ
unfolding walked_bits month_bits day_bits worked_on is_fixed_holiday falls_on is_after_easter easter_day easter_sunday is_real
    day_number day_answer month_start year_start weekday month_length leap_row
computes = 0
