-- The first day of a year, as the code reckons it, is the sum of the years before it: one step, tested for 200 years.
use Rattle.basics.proofs.Basics.{◌≡◌, refl, ◌≤◌, ℕ, ◌-◌, ◌+◌, ◌<◌, suc, zero, ◌*◌, ◌/◌, arith, eqb, ltb, ltb-false}
use Rattle.basics.proofs.Basics.{eqb-true, ltb-true, cases}
use Rattle.dates.specs.Dates.{leap_row, month_length}
use Rattle.dates.specs.Numbers.{month_start, year_start}
use Rattle.dates.proofs.Every.{every_below}

-- a leap day for each fourth year before it, less that of 2100
abbrev pub year_formula : ℕ → ℕ
year_formula k = 365 * k + (k + 3) / 4 - k / 101

step_is : (k : ℕ) → k < 200 → year_formula k + month_start (leap_row (2000 + k)) 12 ≡ year_formula (suc k)
step_is k h = eqb-true _ _ (every_below (λ k. eqb (year_formula k + month_start (leap_row (2000 + k)) 12) (year_formula (suc k))) 200
    (unfold month_start month_length leap_row in refl) k h)

pub year_is : (k : ℕ) → k < 201 → year_start k ≡ year_formula k
unfolding year_start
year_is zero h = refl
year_is (suc k) h = rw (year_is k (omega arith)) (step_is k (omega arith))

-- one year more
pub year_step : (k : ℕ) → year_start (suc k) ≡ year_start k + month_start (leap_row (2000 + k)) 12
unfolding year_start
year_step k = refl

-- the year of a day of the calendar is a 366th of it, or the year after
pub year_of : (n : ℕ) → n ≤ 73048 → (k : ℕ) × (k < 200) × (year_start k ≤ n) × (n < year_start (suc k))
year_of n h = let a = year_is (n / 366) (omega arith) in let b = year_is (suc (n / 366)) (omega arith) in cases (ltb n (year_start (suc (n / 366))))
    (λ e. let q = ltb-true n (year_start (suc (n / 366))) e in (n / 366, omega arith, omega arith, omega arith))
    (λ e. let q = ltb-false n (year_start (suc (n / 366))) e in let k : suc (n / 366) < 200 = omega arith in
    let c = year_is (suc (suc (n / 366))) (omega arith) in (suc (n / 366), k, omega arith, omega arith))
