-- Reading a date and writing it are inverse: a day of the calendar is read back from its date, and only from it.
use Rattle.std.specs.Prelude.{Option, Some, None}
use Rattle.basics.proofs.Basics.{◌≡◌, refl, ap, List, ◌≤◌, ℕ, ◌-◌, ◌<◌, ◌^◌, arith, le-leb}
use Rattle.dates.specs.declared.{Date.Date}
use Rattle.dates.specs.Dates.{last_day, leap_row, date_of}
use Rattle.dates.specs.Numbers.{day_answer, date_answer}
use Rattle.dates.proofs.Months.{row_is, length_bounds}
use Rattle.dates.proofs.Real.{real_is}
use Rattle.dates.proofs.OneToOne.{one_to_one}
use Rattle.line_text.specs.Decimal.{fixed}
use Rattle.line_text.specs.Days.{day_text}
use Rattle.line_values.specs.Pinned.Numbers.{fixed_of, Parsed, number, bad}
use Rattle.line_values.specs.Pinned.Days.{and_then, day_read, day_in}
use Rattle.line_values.proofs.Fixed.{fixed_back, fixed_only}

-- the text of a day of the calendar is that of its date
pub on_calendar : (n : ℕ) → n ≤ last_day → date_answer n ≡ Some (date_of n)
unfolding date_answer
on_calendar n h = rw (le-leb n last_day h)

-- the parts of a date of the calendar have at most four, two and two digits
record Short (x : Date) : Type 0 where
  year : x.year < 10 ^ 4
  month : x.month < 10 ^ 2
  day : x.day < 10 ^ 2

date_short : (n : ℕ) → n ≤ last_day → Short (date_of n)
date_short n h = let r = real_is _ _ _ (one_to_one.date_is_real n h) in
    let days = length_bounds (leap_row (date_of n).year) ((date_of n).month - 1) (row_is (date_of n).year) (omega arith) in
    record { year = omega arith; month = omega arith; day = omega arith }

pub day_back : (n : ℕ) (l : List ℕ) → n ≤ last_day → day_in (day_text n l) ≡ number n l
unfolding day_in
day_back n l h = let x = date_of n in let s = date_short n h in rw (
  on_calendar n h,
  fixed_back 4 x.year (fixed 2 x.month (fixed 2 x.day l)) s.year,
  fixed_back 2 x.month (fixed 2 x.day l) s.month,
  fixed_back 2 x.day l s.day,
  one_to_one.day_date_day n h,
)

-- a date that was read, part after part
then_was : (x : Parsed) (f : ℕ → List ℕ → Parsed) (n : ℕ) (r : List ℕ) → and_then x f ≡ number n r →
    (m : ℕ) × (t : List ℕ) × (x ≡ number m t) × (f m t ≡ number n r)
then_was (number m t) f n r e = (m, t, refl, e)
then_was bad f n r e = absurd (let z : ◌≡◌ {A = ℕ} 0 1 = cc in omega arith)

answer_was : (a : Option ℕ) (l : List ℕ) (n : ℕ) (r : List ℕ) → day_read a l ≡ number n r → (a ≡ Some n) × (l ≡ r)
answer_was (Some k) l n r e = let q : k ≡ n = cc in (ap Some q, cc)
answer_was None l n r e = absurd (let z : ◌≡◌ {A = ℕ} 0 1 = cc in omega arith)

pub day_only : (n : ℕ) (l r : List ℕ) → day_in l ≡ number n r → (l ≡ day_text n r) × (n ≤ last_day)
unfolding day_in
day_only n l r e = let (y, l₁, ey, e₁) = then_was (fixed_of 4 0 l) _ n r e in
    let (m, l₂, em, e₂) = then_was (fixed_of 2 0 l₁) _ n r e₁ in let (d, l₃, ed, e₃) = then_was (fixed_of 2 0 l₂) _ n r e₂ in
    let (is, rest) = answer_was (day_answer y m d) l₃ n r e₃ in let has = one_to_one.day_has_date y m d n is in
    (rw ((fixed_only 4 y l l₁ ey).0, (fixed_only 2 m l₁ l₂ em).0, (fixed_only 2 d l₂ l₃ ed).0, rest, on_calendar n has.0, has.1), has.0)
