-- Counts of working days: a part and the rest, and that no count passes the calendar's days.
use Rattle.basics.proofs.Basics.{◌≡◌, sym, ◌≤◌, ℕ, ◌-◌, ◌+◌, ◌<◌, suc, zero, arith, cases, ltb, ltb-true, ltb-false}
use Rattle.holidays.specs.Working.{is_working, working_from}
use Rattle.holidays.proofs.Counting.{stretches_sum, past_none}
use Rattle.year_words.proofs.Bits.{bit_lt}
use Rattle.working_count.specs.Between.Parts.{Counted}

-- a part and the days after it
pub part_step : (d end n c : ℕ) → Counted d end n c → c + working_from n (end - n) ≡ working_from d (end - d)
part_step d end n c p = let a = p.later in let b = p.within in
    let e : end - d ≡ n - d + (end - n) = omega arith in let f : d + (n - d) ≡ n = omega arith in
    rw (e, stretches_sum d (n - d) (end - n), f, p.count)

-- none is left after the last day
pub none_left : (d end : ℕ) → end ≤ d → working_from d (end - d) ≡ 0
unfolding working_from
none_left d end h = let e : end - d ≡ 0 = omega arith in rw e

few : (d n : ℕ) → working_from d n ≤ n
unfolding working_from
few d zero = omega arith
few d (suc n) = omega (arith, few (suc d) n, bit_lt (is_working d))

-- none of the days past the calendar counts
long : (d n : ℕ) → 73050 ≤ d + n → working_from d n ≤ 73049
long d n h = let e : 73049 - d + (n - (73049 - d)) ≡ n = omega arith in
    let sum = rw e at (stretches_sum d (73049 - d) (n - (73049 - d))) in
    let none = past_none (d + (73049 - d)) (n - (73049 - d)) (omega arith) in omega (arith, few d (73049 - d), sum, none)

-- no count passes the days of the calendar
pub most : (d n : ℕ) → working_from d n ≤ 73049
most d n = cases (ltb (d + n) 73050) (λ t. let h = ltb-true (d + n) 73050 t in omega (arith, few d n)) (λ t. long d n (ltb-false (d + n) 73050 t))

-- past the calendar all that is left is one part
pub rest_past : (d end : ℕ) → 73049 ≤ d → d < end → Counted d end end 0
rest_past d end h g = record { later = g; within = omega arith; count = sym (past_none d (end - d) h) }
