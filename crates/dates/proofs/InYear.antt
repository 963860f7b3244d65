-- The year of a day, from what is found of it; and what it says of the day.
use Rattle.std.specs.Prelude.{Some, None}
use Rattle.basics.proofs.Basics.{◌≡◌, refl, ℕ, ◌-◌, ◌≤◌, arith, leb, leb-true, leb-false, cases, ◌+◌, ◌<◌, suc, add-one, le-leb}
use Rattle.dates.specs.declared.{CalendarYear.CalendarYear}
use Rattle.dates.specs.Dates.{last_day, date_of}
use Rattle.dates.specs.Numbers.{year_start}
use Rattle.dates.specs.Between.Years.{year, year_answer, InYear}
use Rattle.dates.proofs.Years.{year_of}
use Rattle.dates.proofs.Counting.{year_of_date}

-- a day between the first days s and e of two years
pub year_told : (n k s e : ℕ) → n ≤ last_day → (k < 200) × (year_start k ≤ n) × (n < year_start (suc k)) → s ≡ year_start k →
    e ≡ year_start (k + 1) → Some (record { index = k; start = s; end = e }) ≡ year_answer n
unfolding year_answer
year_told n k s e h (small, from, to) start_is end_is = let back : 2000 + k - 2000 ≡ k = omega arith in
    rw (le-leb n last_day h, year_of_date n k small from to, back, start_is, end_is, add-one)

in_year : (n : ℕ) → n ≤ last_day → InYear n (year ((date_of n).year - 2000))
in_year n h = let (k, small, from, to) = year_of n h in
    let e : (date_of n).year - 2000 ≡ k = rw (year_of_date n k small from to) (omega arith) in
    rw e record { in_calendar = small; start_is = refl; end_is = refl; from_start = from; before_end = to }

pub year_found : (n : ℕ) (y : CalendarYear) → year_answer n ≡ Some y → InYear n y
unfolding year_answer
year_found n y e = cases (leb n last_day)
    (λ t. let f = rw t at e in let same : year ((date_of n).year - 2000) ≡ y = cc in rw (← same) (in_year n (leb-true n last_day t)))
    (λ t. let f = rw t at e in let z : ◌≡◌ {A = ℕ} 0 1 = cc in absurd (omega arith))

-- a day without a year lies past the calendar
pub year_past : (n : ℕ) → year_answer n ≡ None → 73049 ≤ n
unfolding year_answer
year_past n e = cases (leb n last_day)
    (λ t. let f = rw t at e in let z : ◌≡◌ {A = ℕ} 0 1 = cc in absurd (omega arith)) (λ t. leb-false n last_day t)
