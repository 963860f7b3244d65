-- Counting working days: a walk day by day, a count that ends past the calendar, and the days between two days.
use Rattle.basics.proofs.Basics.{◌≡◌, refl, sym, ◌∙◌, false, cond, cases, leb, leb-true, leb-false, min, ◌≤◌, ◌<◌, ℕ, ◌-◌, ◌+◌, suc, zero, add-zero, zero-add}
use Rattle.basics.proofs.Basics.{add_assoc, add-suc, suc-add, add-one, arith, lt-leb}
use Rattle.holidays.specs.Working.{is_working, working_from, working_between, working_days}

-- one more day of a walk
pub walk_step : (d last : ℕ) → d ≤ last → working_days d last ≡ cond (is_working d) 1 0 + working_days (d + 1) last
unfolding working_from working_days
walk_step d last h = let e : last + 1 - d ≡ suc (last + 1 - (d + 1)) = omega arith in rw (e, add-one d)

-- none is left after the last day
pub walk_end : (d last : ℕ) → last < d → working_days d last ≡ 0
unfolding working_from working_days
walk_end d last h = let e : last + 1 - d ≡ 0 = omega arith in rw e

-- two stretches of days, one after the other
pub stretches_sum : (s m n : ℕ) → working_from s (m + n) ≡ working_from s m + working_from (s + m) n
unfolding working_from
stretches_sum s zero n = rw (zero-add, zero-add, add-zero)
stretches_sum s (suc m) n = rw (suc-add, stretches_sum (suc s) m n, suc-add, add-suc, add_assoc)

pub past_idle : (n : ℕ) → 73049 ≤ n → is_working n ≡ false
unfolding is_working
past_idle n h = rw (lt-leb n 73048 h)

-- no day past the calendar counts
pub past_none : (s n : ℕ) → 73049 ≤ s → working_from s n ≡ 0
unfolding working_from
past_none s zero h = refl
past_none s (suc n) h = rw (past_idle s h) (omega (arith, past_none (suc s) n (omega arith)))

pub past_days : (first last : ℕ) → 73049 ≤ first → working_days first last ≡ 0
unfolding working_days
past_days first last h = past_none first (last + 1 - first) h

-- a count that ends past the calendar ends with the calendar
pub past_cut : (first last : ℕ) → first ≤ 73048 → 73049 ≤ last → working_days first last ≡ working_days first 73048
unfolding working_days
past_cut s last h g = let e : last + 1 - s ≡ (73049 - s) + (last - 73048) = omega arith in
    let none = past_none (s + (73049 - s)) (last - 73048) (omega arith) in
    rw (e, stretches_sum s (73049 - s) (last - 73048)) (omega arith)

-- so a count may end with the calendar
pub to_the_end : (first last : ℕ) → working_days first (min last 73048) ≡ working_days first last
unfolding working_days
to_the_end first last = cases (leb last 73048)
    (λ t. let h = leb-true last 73048 t in let e : min last 73048 ≡ last = omega arith in rw e)
    (λ t. let h = leb-false last 73048 t in let e : min last 73048 ≡ 73048 = omega arith in
    rw e (cases (leb first 73048)
    (λ u. sym (past_cut first last (leb-true first 73048 u) h))
    (λ u. let g = leb-false first 73048 u in past_none first (73049 - first) g ∙ sym (past_days first last g))))

-- the days after t and before e are those from the day after t to the day before e
pub between_days : (t e : ℕ) → working_days (t + 1) (e - 1) ≡ working_between t e
unfolding working_between working_days
between_days t e = let days : e - 1 + 1 - (t + 1) ≡ e - (t + 1) = omega arith in rw days

-- Where e is not ahead no day lies between.
pub between_none : (t e : ℕ) → e ≤ t → working_between t e ≡ 0
unfolding working_between working_from
between_none t e h = let k : e - (t + 1) ≡ 0 = omega arith in rw k
