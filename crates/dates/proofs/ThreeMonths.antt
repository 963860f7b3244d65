-- The code's parts of three months after a day, counted from 0, against the definition's.
use Rattle.basics.proofs.Basics.{◌≡◌, ◌≤◌, ℕ, ◌-◌, ◌+◌, ◌<◌, min, arith, le-leb, lt-leb}
use Rattle.dates.specs.declared.{Date.Date}
use Rattle.dates.specs.Dates.{last_day, leap_row, month_length, date_of, InRange}
use Rattle.dates.specs.Numbers.{day_number}
use Rattle.dates.specs.Months.{on_or_last, three_months_on, three_months_after}

-- day x of a month of l days, where x is d or the month's last, all counted from 0
pub kept_or_last : (k m d l x : ℕ) → l ≡ month_length (leap_row (2000 + k)) m → 1 ≤ l → x ≡ min d (l - 1) →
    day_number (2000 + k) (m + 1) (x + 1) ≡ on_or_last (2000 + k) (m + 1) (d + 1)
unfolding on_or_last
kept_or_last k m d l x e p q = let month : m + 1 - 1 ≡ m = omega arith in
    let day : min (d + 1) l ≡ x + 1 = omega arith in rw (month, ← e, day)

module _ (n : ℕ) (x : Date) (h : n ≤ last_day) (e : x ≡ date_of n) (r : InRange x) where
  day_back : x.day - 1 + 1 ≡ x.day
  day_back = omega arith

  pub in_the_year :
      x.month - 1 < 9 →
      min last_day (on_or_last (2000 + (x.year - 2000)) (x.month - 1 + 3 + 1) (x.day - 1 + 1)) ≡ three_months_after n
  unfolding three_months_after three_months_on
  in_the_year a = let year : 2000 + (x.year - 2000) ≡ x.year = omega arith in
      let month : x.month - 1 + 3 + 1 ≡ x.month + 3 = omega arith in
      let early : x.month ≤ 9 = omega arith in rw (year, month, day_back, le-leb _ _ h, ← e, le-leb _ _ early)

  pub in_the_next :
      9 ≤ x.month - 1 →
      min last_day (on_or_last (2000 + (x.year - 2000 + 1)) (x.month - 1 - 9 + 1) (x.day - 1 + 1)) ≡ three_months_after n
  unfolding three_months_after three_months_on
  in_the_next a = let year : 2000 + (x.year - 2000 + 1) ≡ x.year + 1 = omega arith in
      let month : x.month - 1 - 9 + 1 ≡ x.month - 9 = omega arith in
      let late : 9 < x.month = omega arith in rw (year, month, day_back, le-leb _ _ h, ← e, lt-leb _ _ late)
