-- Counting dates on from 1 January 2000 comes to the sums of month lengths, and every number is such a sum.
use Rattle.basics.proofs.Basics.{◌≡◌, refl, sym, ◌∙◌, ap, ◌≤◌, ℕ, ◌-◌, ◌+◌, ◌<◌, suc, zero, add-zero, add_assoc}
use Rattle.basics.proofs.Basics.{add-suc, add-one, arith, lt-ltb, le-ltb}
use Rattle.dates.specs.declared.{Date.Date}
use Rattle.dates.specs.Dates.{leap_row, month_length, date, next, date_of}
use Rattle.dates.specs.Numbers.{month_start, year_start}
use Rattle.dates.proofs.Months.{row_is, length_bounds, InMonth, guess, guess_in}
use Rattle.dates.proofs.Years.{year_of, year_step}

-- the date with year, month and day counted from 0, the days of its month, and its number
abbrev pub date_from0 : ℕ → ℕ → ℕ → Date
date_from0 k m d = date (2000 + k) (suc m) (suc d)

abbrev pub length_in : ℕ → ℕ → ℕ
length_in k m = month_length (leap_row (2000 + k)) m

abbrev pub number_from0 : ℕ → ℕ → ℕ → ℕ
number_from0 k m d = year_start k + month_start (leap_row (2000 + k)) m + d

-- each month has a day
month_some : (k m : ℕ) → m < 12 → 0 < length_in k m
month_some k m h = omega (arith, length_bounds (leap_row (2000 + k)) m (row_is (2000 + k)) h)

before : (m : ℕ) → suc m - 1 ≡ m
before m = omega arith

next_day : (k m d : ℕ) → suc d < length_in k m → next (date_from0 k m d) ≡ date_from0 k m (suc d)
unfolding next
next_day k m d h = rw (before m, lt-ltb _ _ h)

next_month : (k m d : ℕ) → suc d ≡ length_in k m → suc m < 12 → next (date_from0 k m d) ≡ date_from0 k (suc m) 0
unfolding next
next_month k m d e h = rw (before m, le-ltb (suc d) (length_in k m) (omega arith), lt-ltb _ _ h)

next_year : (k d : ℕ) → suc d ≡ length_in k 11 → next (date_from0 k 11 d) ≡ date_from0 (suc k) 0 0
unfolding next
next_year k d e = rw (le-ltb (suc d) (length_in k 11) (omega arith), add-suc)

-- from the first of a month on
days : (n k m : ℕ) → date_of n ≡ date_from0 k m 0 → (d : ℕ) → d < length_in k m → date_of (n + d) ≡ date_from0 k m d
unfolding date_of
days n k m e zero h = rw add-zero e
days n k m e (suc d) h = rw add-suc (ap next (days n k m e d (omega arith)) ∙ next_day k m d h)

-- the day after the last day d of a month
month_end : (n k m d : ℕ) → date_of n ≡ date_from0 k m 0 → suc d ≡ length_in k m →
    date_of (n + length_in k m) ≡ next (date_from0 k m d)
unfolding date_of
month_end n k m d e h = rw (← h, add-suc) (ap next (days n k m e d (omega arith)))

-- from the first of a year on
months : (n k : ℕ) → date_of n ≡ date_from0 k 0 0 → (m : ℕ) → m < 12 →
    date_of (n + month_start (leap_row (2000 + k)) m) ≡ date_from0 k m 0
unfolding month_start
months n k e zero h = rw add-zero e
months n k e (suc m) h = let p : suc (length_in k m - 1) ≡ length_in k m = omega (arith, month_some k m (omega arith)) in
    rw (← add_assoc) (month_end _ k m _ (months n k e m (omega arith)) p ∙ next_month k m _ p h)

years : (k : ℕ) → date_of (year_start k) ≡ date_from0 k 0 0
unfolding year_start date_of month_start
years zero = refl
years (suc k) = let p : suc (length_in k 11 - 1) ≡ length_in k 11 = omega (arith, month_some k 11 (omega arith)) in
    rw (← add_assoc) (month_end _ k 11 _ (months _ k (years k) 11 (omega arith)) p ∙ next_year k _ p)

-- the date counted on to a date's number is that date
pub counted : (k m d : ℕ) → m < 12 → d < length_in k m → date_of (number_from0 k m d) ≡ date_from0 k m d
counted k m d h g = days _ k m (months _ k (years k) m h) d g

-- each day of the calendar is the number of a date
pub record Split (n : ℕ) : Type 0 where
  pub k : ℕ
  pub m : ℕ
  pub d : ℕ
  pub year : k < 200
  pub month : m < 12
  pub day : d < length_in k m
  pub total : number_from0 k m d ≡ n

-- one of year k
module _ (n k : ℕ) (year : k < 200) (from : year_start k ≤ n) (to : n < year_start (suc k)) where
  abbrev row : ℕ
  row = leap_row (2000 + k)

  abbrev m : ℕ
  m = guess row (n - year_start k)

  abbrev d : ℕ
  d = n - year_start k - month_start row m

  in_month : InMonth row (n - year_start k) m
  in_month = guess_in row (n - year_start k) (row_is (2000 + k)) (omega (arith, year_step k))

  split_in : Split n
  unfolding month_start
  split_in = let h = in_month in record { k = k; m = m; d = d; year = year; month = h.0; day = omega arith; total = omega arith }

  -- its date is of that year
  pub year_of_date : (date_of n).year ≡ 2000 + k
  unfolding split_in
  year_of_date = let s = split_in in ap (λ (x : Date). x.year) (rw s.total at (counted k m d s.month s.day))

pub split : (n : ℕ) → n ≤ 73048 → Split n
split n h = let (k, year, from, to) = year_of n h in split_in n k year from to

-- A number n whose year k begins at s and whose month m begins t days later, as the code finds them: what is left is
-- the day of the month, and the three are the date of n.
module _ (n k s y m t : ℕ) (year_at : s ≡ year_start k) (same : y ≡ k) (month_at : t ≡ month_start (leap_row (2000 + y)) m)
    (year_from : year_start k ≤ n) (month : m < 12) (from : month_start (leap_row (2000 + k)) m ≤ n - s)
    (to : n - s < month_start (leap_row (2000 + k)) (suc m)) where
  begins : t ≡ month_start (leap_row (2000 + k)) m
  begins = rw same at month_at

  placed_day : n - s - t < length_in k m
  unfolding month_start
  placed_day = let b = begins in omega arith

  pub placed_short : n - s - t < 31
  placed_short = let g = placed_day in omega (arith, length_bounds (leap_row (2000 + k)) m (row_is (2000 + k)) month)

  pub placed : date (2000 + k) (m + 1) (n - s - t + 1) ≡ date_of n
  placed = let b = begins in let e : number_from0 k m (n - s - t) ≡ n = omega arith in
      rw (add-one, add-one) (sym (counted k m (n - s - t) month placed_day) ∙ ap date_of e)
