-- Days and dates are one to one over the whole calendar: the statement `OneToOne`, proved.
use Rattle.std.specs.Prelude.{Some}
use Rattle.basics.proofs.Basics.{◌≡◌, sym, ◌∙◌, ap, true, ◌≤◌, ℕ, ◌-◌, ◌+◌, ◌<◌, suc, arith, le-leb, lt-leb}
use Rattle.dates.specs.Dates.{last_day, leap_row, date, date_of}
use Rattle.dates.specs.Numbers.{is_real, day_number, day_answer, date_answer}
use Rattle.dates.specs.OneToOne.{OneToOne}
use Rattle.dates.proofs.Months.{row_is, month_in_year}
use Rattle.dates.proofs.Years.{year_is, year_step}
use Rattle.dates.proofs.Counting.{date_from0, length_in, number_from0, counted, Split, split}
use Rattle.dates.proofs.Real.{Real, real_is, is_real_lem, real_day, day_real}

-- the number of a date, counted from 0
number_from_0 : (k m d : ℕ) → day_number (2000 + k) (suc m) (suc d) ≡ number_from0 k m d
unfolding day_number
number_from_0 k m d = let year : 2000 + k - 2000 ≡ k = omega arith in let month : suc m - 1 ≡ m = omega arith in
    let day : suc d - 1 ≡ d = omega arith in rw (year, month, day)

-- a date of 2000 to 2199 has a day of the calendar, and no later date has one
number_in : (k m d : ℕ) → k < 200 → m < 12 → d < length_in k m → number_from0 k m d ≤ last_day
number_in k m d hk hm hd = let month = month_in_year (leap_row (2000 + k)) m (row_is (2000 + k)) hm in
    let year = year_is (suc k) (omega arith) in omega (arith, year_step k)

-- the date of a day of the calendar, counted from 0, is real
module _ (n : ℕ) (h : n ≤ last_day) where
  abbrev s : Split n
  s = split n h

  date_split : date_of n ≡ date_from0 s.k s.m s.d
  date_split = sym (ap date_of s.total) ∙ counted _ _ _ s.month s.day

  split_real : Real (2000 + s.k) (suc s.m) (suc s.d)
  split_real = let month_back : suc s.m - 1 ≡ s.m = omega arith in let year = s.year in let month = s.month in
      record {
        from_2000 = omega arith;
        to_2199 = omega arith;
        month_from_1 = omega arith;
        month_to_12 = omega arith;
        day_from_1 = omega arith;
        day_to_last = rw month_back s.day;
      }

  split_number : day_number (2000 + s.k) (suc s.m) (suc s.d) ≡ n
  split_number = number_from_0 s.k s.m s.d ∙ s.total

  its_date_is_real : is_real (date_of n).year (date_of n).month (date_of n).day ≡ true
  its_date_is_real = rw date_split (is_real_lem _ _ _ split_real)

  its_date_has_it : day_answer (date_of n).year (date_of n).month (date_of n).day ≡ Some n
  its_date_has_it = rw date_split (real_day _ _ _ split_real ∙ ap Some split_number)

-- a real date, counted from 0
module _ (y m d : ℕ) (r : Real y m d) where
  year_back : 2000 + (y - 2000) ≡ y
  year_back = omega arith

  real_number : day_number y m d ≡ number_from0 (y - 2000) (m - 1) (d - 1)
  unfolding day_number
  real_number = rw year_back

  real_length : d - 1 < length_in (y - 2000) (m - 1)
  real_length = rw year_back (omega arith)

  real_in : day_number y m d ≤ last_day
  real_in = rw real_number (number_in (y - 2000) (m - 1) (d - 1) (omega arith) (omega arith) real_length)

  real_counted : date_of (day_number y m d) ≡ date y m d
  real_counted = let month_back : suc (m - 1) ≡ m = omega arith in let day_back : suc (d - 1) ≡ d = omega arith in
      rw real_number (counted (y - 2000) (m - 1) (d - 1) (omega arith) real_length ∙ rw (year_back, month_back, day_back))

has_date : (y m d n : ℕ) → day_answer y m d ≡ Some n → (n ≤ last_day) × (date_of n ≡ date y m d)
has_date y m d n e = let r = day_real y m d n e in let same : day_number y m d ≡ n = cc (real_day y m d r) in
    rw (← same) (real_in y m d r, real_counted y m d r)

pub one_to_one : OneToOne
unfolding day_answer date_answer
one_to_one =
    record {
      date_is_real = its_date_is_real;
      day_date_day = its_date_has_it;
      no_other_day = λ n h. rw (lt-leb _ _ h);
      day_is_in = λ y m d t. real_in y m d (real_is y m d t);
      date_day_date = λ y m d t.
          rw (le-leb _ _ (real_in y m d (real_is y m d t)), real_counted y m d (real_is y m d t));
      no_other_date = λ y m d t. rw t;
      day_has_date = has_date;
      date_has_day = λ y m d n h e. rw e at (its_date_has_it n h);
    }
