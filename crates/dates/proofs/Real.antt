-- What the test of a real date says, fact by fact, and the answer to it.
use Rattle.std.specs.Prelude.{Some, None}
use Rattle.basics.proofs.Basics.{◌≡◌, true, ◌≤◌, ℕ, ◌-◌, ◌+◌, arith, le-leb, leb-true, cases}
use Rattle.dates.specs.Dates.{leap_row, month_length}
use Rattle.dates.specs.Numbers.{is_real, day_number, day_answer}
use Rattle.dates.proofs.Every.{and_left, and_right, and_both}

pub record Real (y m d : ℕ) : Type 0 where
  pub from_2000 : 2000 ≤ y
  pub to_2199 : y ≤ 2199
  pub month_from_1 : 1 ≤ m
  pub month_to_12 : m ≤ 12
  pub day_from_1 : 1 ≤ d
  pub day_to_last : d ≤ month_length (leap_row y) (m - 1)

module _ (y m d : ℕ) where
  pub real_is : is_real y m d ≡ true → Real y m d
  unfolding is_real
  real_is t = search (leb-true, and_left, and_right)

  pub is_real_lem : Real y m d → is_real y m d ≡ true
  unfolding is_real
  is_real_lem r = search (and_both, le-leb) depth 8

  -- a real date's answer is its number
  pub real_day : Real y m d → day_answer y m d ≡ Some (day_number y m d)
  unfolding day_answer
  real_day r = rw (is_real_lem r)

  -- where a date cannot be real, there is no day
  pub no_date : (Real y m d → ⊥) → day_answer y m d ≡ None
  unfolding day_answer
  no_date never = cases (is_real y m d) (λ e. absurd (never (real_is e))) (λ e. rw e)

  -- an answer with a day is that of a real date
  pub day_real : (n : ℕ) → day_answer y m d ≡ Some n → Real y m d
  unfolding day_answer
  day_real n e = cases (is_real y m d) real_is (λ q. absurd (let z : ◌≡◌ {A = ℕ} 0 1 = cc in omega arith))

  -- the number of a real date, as the code reckons it, is its answer
  pub found : (r : ℕ) → Real y m d → r ≡ day_number (2000 + (y - 2000)) (m - 1 + 1) (d - 1 + 1) → Some r ≡ day_answer y m d
  found r real e = let year : 2000 + (y - 2000) ≡ y = omega arith in let month : m - 1 + 1 ≡ m = omega arith in
      let day : d - 1 + 1 ≡ d = omega arith in rw (real_day real, e, year, month, day)
