-- A part of a count: the days of a year from d to the end of its word, of the year or of the count.
use Rattle.basics.proofs.Basics.{◌≡◌, ◌∙◌, ap, sym, le_trans, List, ◌≤◌, ℕ, ◌-◌, ◌+◌, ◌<◌, ◌*◌, ◌/◌, ◌%◌, min, arith, get_or}
use lib.Bits.{bit_and}
use lib.Count.{ones}
use Rattle.dates.specs.declared.{CalendarYear.CalendarYear}
use Rattle.dates.specs.Dates.{leap_row}
use Rattle.dates.specs.Numbers.{year_start}
use Rattle.dates.specs.Between.Years.{InYear}
use Rattle.dates.proofs.Months.{row_is, year_length_lem}
use Rattle.dates.proofs.Years.{year_step}
use Rattle.year_words.specs.Words.{year_words, year_length}
use Rattle.year_words.specs.Bits.{mask}
use Rattle.year_words.proofs.Laws.{years_as_bits}
use Rattle.working_count.specs.Between.Parts.{Counted}

-- plain arithmetic of a part's ends: the days from d, which lies lo days after first, to the day before first + hi
more_left : (first lo d stop hi : ℕ) → first + lo ≡ d → lo < 64 → d < stop → hi ≡ min (stop - first) 64 → lo < hi
more_left first lo d stop hi a b c h = omega arith

left : (first stop e s o hi : ℕ) {l : ℕ} → first + hi ≤ stop → first ≡ s + o → stop ≤ e → e ≡ s + l → o + hi ≤ l
left first stop e s o hi a b c g = omega arith

covers : (first lo d hi : ℕ) → first + lo ≡ d → lo < hi → (d < first + hi) × (hi - lo ≡ first + hi - d) × (lo ≤ hi)
covers first lo d hi a b = (omega arith, omega arith, omega arith)

module _ (y : CalendarYear) (d end : ℕ) (at : InYear d y) (more : d < end) where
  abbrev k : ℕ
  k = y.index

  abbrev i : ℕ
  i = d - y.start

  abbrev lo : ℕ
  lo = i % 64

  -- the year's days
  long : year_length k ≤ 366
  long = year_length_lem (leap_row (2000 + k)) (row_is (2000 + k))

  ends : y.end ≡ y.start + year_length k
  ends = at.end_is ∙ year_step k ∙ ap (λ (s : ℕ). s + year_length k) (sym at.start_is)

  pub word_in : i / 64 < 6
  word_in = let l = long in let e = ends in let b = at.before_end in omega arith

  module _ (stop hi : ℕ) (stop_is : stop ≡ min end y.end) (hi_is : hi ≡ min (stop - (d - lo)) 64) where
    before_stop : d < stop
    before_stop = let b = at.before_end in omega arith

    first_before : d - lo ≤ stop
    first_before = let b = before_stop in omega arith

    some : lo < hi
    some = more_left (d - lo) lo d stop hi (omega arith) (omega arith) before_stop hi_is

    to_64 : hi ≤ 64
    to_64 = omega arith

    reach : d - lo + hi ≤ stop
    reach = let b = first_before in omega arith

    first_is : d - lo ≡ y.start + 64 * (i / 64)
    first_is = let f = at.from_start in omega arith

    stop_in : stop ≤ y.end
    stop_in = omega arith

    stop_least : stop ≤ end
    stop_least = omega arith

    in_word : 64 * (i / 64) + hi ≤ year_length k
    in_word = left (d - lo) stop y.end y.start (64 * (i / 64)) hi reach first_is stop_in ends

    -- the ones under the mask are the working days from d on
    pub counted :
        (c : ℕ) (ws : List ℕ) → ws ≡ year_words k → c ≡ ones (bit_and (get_or ws (i / 64) 0) (mask lo hi)) →
        Counted d end (d - lo + hi) c
    counted c ws words ones-are =
        let day : year_start k + (64 * (i / 64) + lo) ≡ d = rw (← at.start_is) (let f = at.from_start in omega arith) in
        let (later, days, lo_first) = covers (d - lo) lo d hi (omega arith) some in
        let law = years_as_bits.masked k (i / 64) lo hi word_in lo_first to_64 in_word in
        record { later = later; within = le_trans reach stop_least; count = rw words at ones-are ∙ rw (day, days) at law }
