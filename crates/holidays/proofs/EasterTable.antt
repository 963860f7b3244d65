-- The table of Easter Sundays follows the Gregorian computus in every year: one test that antt computes over the whole
-- table, and one law that makes it the rule. Then the code's Easter Sunday from 22 March, and that it is a Sunday.
use Rattle.std.specs.Prelude.{Some, None}
use Rattle.basics.proofs.Basics.{◌≡◌, refl, sym, true, Bool, ◌&&◌, List, [], ◌∷◌, ◌≤◌, ℕ, ◌-◌, ◌+◌, ◌<◌, add_assoc}
use Rattle.basics.proofs.Basics.{arith, eqb, ltb, get_or, eqb-true, ltb-true, rules}
use Rattle.dates.specs.Dates.{leap_row, month_length, weekday, last_day}
use Rattle.dates.specs.Numbers.{month_start, is_real, day_number, day_answer}
use Rattle.dates.proofs.Every.{every, every_below, and_left, and_right}
use Rattle.dates.proofs.Months.{row_is, length_bounds}
use Rattle.dates.proofs.Real.{Real, real_is, real_day, no_date, day_real}
use Rattle.dates.proofs.OneToOne.{one_to_one}
use Rattle.dates.proofs.Years.{year_formula, year_is}
use Rattle.holidays.specs.Easter.{easter_sunday, easter_day, IsOffset, EasterIsSunday}

-- Easter Sunday's month and day of the month, and the day of the year it is, counted from 0
abbrev month : ℕ → ℕ
month y = (easter_sunday y).month

abbrev day : ℕ → ℕ
day y = (easter_sunday y).day

abbrev year_day : ℕ → ℕ → ℕ → ℕ
year_day y m d = month_start (leap_row y) (m - 1) + (d - 1)

-- the entry x of year y: 22 March and x days on is the computus' date
abbrev is_easter : ℕ → ℕ → Bool
is_easter y x = is_real y (month y) (day y) && eqb (year_day y 3 22 + x) (year_day y (month y) (day y)) && ltb x 35

-- the code's table, a decade to a line from 2000 on
abbrev offsets : List ℕ
offsets = 32 ∷ 24 ∷ 9 ∷ 29 ∷ 20 ∷ 5 ∷ 25 ∷ 17 ∷ 1 ∷ 21 ∷
    13 ∷ 33 ∷ 17 ∷ 9 ∷ 29 ∷ 14 ∷ 5 ∷ 25 ∷ 10 ∷ 30 ∷
    21 ∷ 13 ∷ 26 ∷ 18 ∷ 9 ∷ 29 ∷ 14 ∷ 6 ∷ 25 ∷ 10 ∷
    30 ∷ 22 ∷ 6 ∷ 26 ∷ 18 ∷ 3 ∷ 22 ∷ 14 ∷ 34 ∷ 19 ∷
    10 ∷ 30 ∷ 15 ∷ 7 ∷ 26 ∷ 18 ∷ 3 ∷ 23 ∷ 14 ∷ 27 ∷
    19 ∷ 11 ∷ 30 ∷ 15 ∷ 7 ∷ 27 ∷ 11 ∷ 31 ∷ 23 ∷ 8 ∷
    27 ∷ 19 ∷ 4 ∷ 24 ∷ 15 ∷ 7 ∷ 20 ∷ 12 ∷ 31 ∷ 23 ∷
    8 ∷ 28 ∷ 19 ∷ 4 ∷ 24 ∷ 16 ∷ 28 ∷ 20 ∷ 12 ∷ 32 ∷
    16 ∷ 8 ∷ 28 ∷ 13 ∷ 4 ∷ 24 ∷ 9 ∷ 29 ∷ 20 ∷ 12 ∷
    25 ∷ 17 ∷ 8 ∷ 21 ∷ 13 ∷ 33 ∷ 24 ∷ 9 ∷ 29 ∷ 21 ∷
    6 ∷ 26 ∷ 18 ∷ 3 ∷ 22 ∷ 14 ∷ 27 ∷ 19 ∷ 10 ∷ 30 ∷
    15 ∷ 7 ∷ 26 ∷ 11 ∷ 31 ∷ 23 ∷ 7 ∷ 27 ∷ 19 ∷ 4 ∷
    23 ∷ 15 ∷ 7 ∷ 20 ∷ 11 ∷ 31 ∷ 23 ∷ 8 ∷ 27 ∷ 19 ∷
    4 ∷ 24 ∷ 15 ∷ 28 ∷ 20 ∷ 12 ∷ 31 ∷ 16 ∷ 8 ∷ 28 ∷
    12 ∷ 4 ∷ 24 ∷ 9 ∷ 28 ∷ 20 ∷ 12 ∷ 25 ∷ 16 ∷ 8 ∷
    21 ∷ 13 ∷ 32 ∷ 24 ∷ 9 ∷ 29 ∷ 20 ∷ 5 ∷ 25 ∷ 17 ∷
    1 ∷ 21 ∷ 13 ∷ 33 ∷ 17 ∷ 9 ∷ 29 ∷ 14 ∷ 5 ∷ 25 ∷
    10 ∷ 30 ∷ 21 ∷ 13 ∷ 26 ∷ 18 ∷ 9 ∷ 29 ∷ 14 ∷ 6 ∷
    25 ∷ 10 ∷ 30 ∷ 22 ∷ 6 ∷ 26 ∷ 18 ∷ 3 ∷ 22 ∷ 14 ∷
    34 ∷ 19 ∷ 10 ∷ 30 ∷ 15 ∷ 7 ∷ 26 ∷ 18 ∷ 3 ∷ 23 ∷ []

-- every entry follows the computus
all_follow : every (λ k. is_easter (2000 + k) (get_or offsets k 0)) 200 ≡ true
unfolding easter_sunday is_real month_start month_length leap_row
all_follow = refl

pub table_follows : (k : ℕ) → k < 200 → IsOffset (2000 + k) (get_or offsets k 0)
unfolding day_number
table_follows k h = let y = 2000 + k in let x = get_or offsets k 0 in
    let t = every_below (λ k. is_easter (2000 + k) (get_or offsets k 0)) 200 all_follow k h in
    let sum : year_day y 3 22 + x ≡ year_day y (month y) (day y) = search (eqb-true, and_left, and_right) in
    record { is_real = search (and_left, and_right); is_days_on = omega arith; is_small = search (ltb-true, and_left, and_right) }

-- 22 March is a real date of every year of the calendar
march_22_real : (y : ℕ) → 2000 ≤ y → y ≤ 2199 → Real y 3 22
march_22_real y a b = let long = length_bounds (leap_row y) 2 (row_is y) (omega arith) in search rules

module _ (y : ℕ) where
  -- a year without a 22 March has no Easter
  pub easter_none : day_answer y 3 22 ≡ None → None ≡ easter_day y
  unfolding easter_day
  easter_none e = sym (no_date y (month y) (day y) never) where
    never : Real y (month y) (day y) → ⊥
    never r = let found = real_day y 3 22 (march_22_real y r.from_2000 r.to_2199) in
        let z : ◌≡◌ {A = ℕ} 0 1 = cc in omega arith

  module _ (n : ℕ) (e : day_answer y 3 22 ≡ Some n) where
    pub easter_years : (2000 ≤ y) × (y ≤ 2199)
    easter_years = let r = day_real y 3 22 n e in (r.from_2000, r.to_2199)

    pub march_22_in : n ≤ last_day
    march_22_in = (one_to_one.day_has_date y 3 22 n e).0

    -- Easter Sunday is the table's entry of days after 22 March
    pub easter_found : (x : ℕ) → IsOffset (2000 + (y - 2000)) x → Some (n + x) ≡ easter_day y
    unfolding easter_day
    easter_found x o = let back : 2000 + (y - 2000) ≡ y = omega (arith, easter_years) in let o' = rw back at o in
        let r = real_is y (month y) (day y) o'.is_real in
        let same : n ≡ day_number y 3 22 = cc (real_day y 3 22 (day_real y 3 22 n e)) in
        rw (same, o'.is_days_on) (sym (real_day y (month y) (day y) r))

-- Easter Sunday's weekday, by the formula for a year's first day
abbrev is_sunday : ℕ → Bool
is_sunday k = eqb (weekday (year_formula k + year_day (2000 + k) (month (2000 + k)) (day (2000 + k)))) 6

sunday : (k : ℕ) → k < 200 → weekday (day_number (2000 + k) (month (2000 + k)) (day (2000 + k))) ≡ 6
unfolding day_number
sunday k h = let back : 2000 + k - 2000 ≡ k = omega arith in
    let all : every is_sunday 200 ≡ true = unfold weekday easter_sunday month_start month_length leap_row in refl in
    let sum = add_assoc (year_formula k) (month_start (leap_row (2000 + k)) (month (2000 + k) - 1)) (day (2000 + k) - 1) in
    rw (back, year_is k (omega arith), sum) (eqb-true _ _ (every_below is_sunday 200 all k h))

pub easter_is_sunday : EasterIsSunday
unfolding easter_day
easter_is_sunday y n e = let r = day_real y (month y) (day y) n e in let back : 2000 + (y - 2000) ≡ y = omega arith in
    let same : day_number y (month y) (day y) ≡ n = cc (real_day y (month y) (day y) r) in
    rw (← same) (rw back at (sunday (y - 2000) (omega arith)))
