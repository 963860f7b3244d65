-- The year's bits, computed month by month, are those of its working days; cut into words, they are the year's words.
use Rattle.basics.proofs.Basics.{◌≡◌, refl, ◌∙◌, sym, false, and-false, List, [], ◌∷◌, ◌≤◌, ℕ, ◌-◌, ◌+◌, ◌<◌, suc, zero, ◌*◌, ◌^◌, ◌/◌, ◌%◌}
use Rattle.basics.proofs.Basics.{add-zero, zero-add, zero-mul, add_assoc, add-suc, arith, le-leb, lt-ltb}
use lib.Pow.{high, low}
use Rattle.dates.specs.Dates.{date_of, month_length, leap_row}
use Rattle.dates.specs.Numbers.{month_start, year_start}
use Rattle.dates.proofs.Months.{row_is, year_length_lem}
use Rattle.dates.proofs.Counting.{date_from0, length_in, number_from0, counted}
use Rattle.dates.proofs.Years.{year_is, year_step}
use Rattle.holidays.specs.Easter.{easter_day}
use Rattle.holidays.specs.Holidays.{is_holiday, is_holiday_on}
use Rattle.holidays.specs.Working.{is_working}
use Rattle.holidays.proofs.Counting.{past_idle}
use Rattle.year_words.specs.Words.{year_length, is_set, bits_from, year_words}
use Rattle.year_words.proofs.Bits.{bits_lt, bits_sum, none_set}
use Rattle.year_words.proofs.Walk.{worked_on, day_bits, month_bits, walked_bits}

-- the c lowest words of a number, the lowest first
unfoldable pub cut : ℕ → ℕ → List ℕ
cut zero n = []
cut (suc c) n = n % 2 ^ 64 ∷ cut c (n / 2 ^ 64)

-- the days of j months from month m on
length_from : ℕ → ℕ → ℕ → ℕ
length_from row zero m = 0
length_from row (suc j) m = month_length row m + length_from row j (suc m)

all_months : (row : ℕ) → length_from row 12 0 ≡ month_start row 12
unfolding length_from month_start
all_months row = omega arith

module _ (k : ℕ) where
  abbrev y : ℕ
  y = 2000 + k

  -- day i of the year, which is day d of month m
  worked_is :
      (m d i : ℕ) → m < 12 → d < length_in k m → year_start k + i ≡ number_from0 k m d → year_start k + i ≤ 73048 →
      i < year_length k → worked_on (year_start k + i) (date_from0 k m d) (easter_day y) ≡ is_set k i
  unfolding worked_on is_set is_working is_holiday is_holiday_on
  worked_is m d i h g e l b = let on : date_of (year_start k + i) ≡ date_from0 k m d = rw e (counted k m d h g) in
      rw (lt-ltb i (year_length k) b, le-leb (year_start k + i) 73048 l, on)

  module _ (small : year_start k + year_length k ≤ 73049) where
    -- l days of a month
    days_are :
        (m l i d : ℕ) → m < 12 → d + l ≤ length_in k m → year_start k + i ≡ number_from0 k m d → i + l ≤ year_length k →
        day_bits (easter_day y) y (suc m) l (year_start k + i) (suc d) ≡ bits_from k i l
    unfolding day_bits bits_from
    days_are m zero i d h g e b = refl
    days_are m (suc l) i d h g e b = let rest = days_are m l (suc i) (suc d) h (omega arith) (omega arith) (omega arith) in
        rw (← add-suc, rest, worked_is m d i h (omega arith) e (omega arith) (omega arith))

    -- j months
    months_are :
        (j m : ℕ) → m + j ≤ 12 → month_start (leap_row y) m + length_from (leap_row y) j m ≤ year_length k →
        month_bits (easter_day y) y (leap_row y) j (year_start k + month_start (leap_row y) m) m ≡
        bits_from k (month_start (leap_row y) m) (length_from (leap_row y) j m)
    unfolding month_bits length_from bits_from month_start
    months_are zero m g b = refl
    months_are (suc j) m g b = let l = length_in k m in let s = month_start (leap_row y) m in
        let first = days_are m l s 0 (omega arith) (omega arith) (omega arith) (omega arith) in
        let rest = months_are j (suc m) (omega arith) (omega arith) in
        rw (first, add_assoc, rest) (sym (bits_sum k s l (length_from (leap_row y) j (suc m))))

    -- the whole year
    year_bits : k < 200 → walked_bits k ≡ bits_from k 0 (year_length k)
    unfolding walked_bits
    year_bits h = let row = leap_row y in let begin : month_start row 0 ≡ 0 = unfold month_start in refl in
        let all = months_are 12 0 (omega arith) (rw (begin, all_months row) (omega arith)) in
        rw (← year_is k (omega arith)) (rw (begin, add-zero, all_months row) at all)

-- the words of c times 64 bits from bit i on
unfoldable pub words_from : ℕ → ℕ → ℕ → List ℕ
words_from k i zero = []
words_from k i (suc c) = bits_from k i 64 ∷ words_from k (i + 64) c

cut_is : (k i c : ℕ) → cut c (bits_from k i (64 * c)) ≡ words_from k i c
unfolding cut words_from
cut_is k i zero = refl
cut_is k i (suc c) = let e : 64 * suc c ≡ 64 + 64 * c = omega arith in let r = bits_from k (i + 64) (64 * c) in
    rw (e, bits_sum k i 64 (64 * c), low r 64 (bits_lt k i 64), high r 64 (bits_lt k i 64), cut_is k (i + 64) c)

-- six words have all bits of a year, and only zeros past its end
pub all_bits : (k : ℕ) → bits_from k 0 384 ≡ bits_from k 0 (year_length k)
all_bits k = let n = year_length k in let long = year_length_lem (leap_row (2000 + k)) (row_is (2000 + k)) in
    let e : n + (384 - n) ≡ 384 = omega arith in
    rw (← e, bits_sum k 0 n (384 - n), zero-add, none_set k n (384 - n) (omega arith), zero-mul, zero-add)

pub words_are : (k : ℕ) → words_from k 0 6 ≡ year_words k
unfolding words_from year_words
words_are k = refl

year_end : (k : ℕ) → k < 201 → year_start k ≤ 73049
year_end k h = omega (arith, year_is k h)

pub walked_words : (k : ℕ) → k < 200 → cut 6 (walked_bits k) ≡ year_words k
walked_words k h = let end : year_start k + year_length k ≤ 73049 = rw (← year_step k) (year_end (suc k) (omega arith)) in
    rw (year_bits k end h, ← all_bits k) (cut_is k 0 6 ∙ words_are k)

-- years past the calendar: none of their days is worked
year_past : (k : ℕ) → 73049 ≤ year_start (200 + k)
year_past zero = omega (arith, year_is 200 (omega arith))
year_past (suc k) = rw (add-suc, year_step (200 + k)) (omega (arith, year_past k))

none_past : (k i n : ℕ) → 73049 ≤ year_start k → bits_from k i n ≡ 0
unfolding bits_from
none_past k i zero h = refl
none_past k i (suc n) h =
    let none : is_set k i ≡ false = unfold is_set in rw (past_idle (year_start k + i) (omega arith), and-false) in
    rw (none, none_past k (suc i) n h)

pub past_words : (k : ℕ) → 200 ≤ k → (0 ∷ 0 ∷ 0 ∷ 0 ∷ 0 ∷ 0 ∷ []) ≡ year_words k
unfolding year_words
past_words k h = let e : 200 + (k - 200) ≡ k = omega arith in let past = rw e at (year_past (k - 200)) in
    rw (none_past k 0 64 past, none_past k 64 64 past, none_past k 128 64 past, none_past k 192 64 past, none_past k 256 64 past, none_past k 320 64 past)
