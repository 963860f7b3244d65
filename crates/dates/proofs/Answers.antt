-- What an answer of `date_answer` says of the day that was asked for.
use Rattle.std.specs.Prelude.{Some, None}
use Rattle.basics.proofs.Basics.{◌≡◌, ◌≤◌, ℕ, ◌<◌, arith, leb, leb-true, leb-false, cases}
use Rattle.dates.specs.declared.{Date.Date}
use Rattle.dates.specs.Dates.{last_day, date_of}
use Rattle.dates.specs.Numbers.{date_answer}

module _ (n : ℕ) where
  -- a date is that of a day of the calendar
  pub answer_on : (x : Date) → date_answer n ≡ Some x → (n ≤ last_day) × (x ≡ date_of n)
  unfolding date_answer
  answer_on x e = cases (leb n last_day) (λ q. (leb-true _ _ q, cc)) (λ q. absurd (let z : ◌≡◌ {A = ℕ} 0 1 = cc in omega arith))

  -- only a number past the calendar's end is off the calendar
  pub answer_off : date_answer n ≡ None → last_day < n
  unfolding date_answer
  answer_off e = cases (leb n last_day) (λ q. absurd (let z : ◌≡◌ {A = ℕ} 0 1 = cc in omega arith)) (λ q. leb-false _ _ q)
