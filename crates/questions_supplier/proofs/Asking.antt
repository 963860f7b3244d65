-- After any list of calls each supplier's view is the day book's. The statement is specs/Asking.antt.
use Rattle.std.specs.Prelude.{Option, Some, None}
use Rattle.basics.proofs.Basics.{◌≡◌, refl, sym, ◌∙◌, ap, true, false, ◌&&◌, some, List, [], ◌∷◌, map, ◌≤◌, ℕ, ◌-◌, ◌+◌}
use Rattle.basics.proofs.Basics.{arith, eqb, leb, length, take, cases}
use Rattle.basics.proofs.Basics.{Option as Told}
use Rattle.rules.specs.declared.{Period.Period, Register.Register, Opening.Opening, Call.Call}
use Rattle.rules.specs.Answers.{is_accepted}
use Rattle.rules.specs.Volumes.{volume, normal}
use Rattle.rules.specs.Rejections.{opening_answer, not_point, not_supplier}
use Rattle.rules.specs.Pinned.Register.{period, point_at}
use Rattle.rules.specs.DayBook.{Cell, cell, opened, readings, enrolments}
use Rattle.rules.specs.Periods.{holder_on, is_before_next, covering, sum_days, book, register}
use Rattle.agreement.proofs.Slots.{used_count}
use Rattle.agreement.proofs.Theorem.{day_book_agrees}
use Rattle.questions.specs.Pinned.Questions.{unasked}
use Rattle.questions.specs.Latest.{counted}
use Rattle.questions.specs.ByBook.{periods_in, book_periods}
use Rattle.questions.proofs.Asked.{range_in}
use Rattle.questions.proofs.Asking.{point_sized, periods_are, unborn}
use Rattle.rules.proofs.Accept.{neither}
use Rattle.questions_supplier.specs.Pinned.Own.{end_in, own_in, own_periods, own_answer, own_number, own_told}
use Rattle.questions_supplier.specs.ByBook.{day_after, own_marked, perimeter_number, book_own, book_own_period}
use Rattle.questions_supplier.specs.Asking.{is_before, own_on, once, OwnAsking}
use Rattle.questions_supplier.proofs.Own.{own_off, own_on_lem, told_nth, nth_number}

-- The marked cells of s are the periods of s among those of all marked cells, and the next mark is the next one's start.
module _ (vol nor : ℕ → ℕ) (s last : ℕ) where
  marked_own : (cs : List Cell) (end : Option ℕ) (l : List Period) → end ≡ end_in l
      → own_marked vol nor s last end cs (own_in s l) ≡ own_in s (periods_in vol nor (day_after last end) cs l)
  unfolding own_marked own_in periods_in
  marked_own [] end l e = refl
  marked_own (cell d h true ∷ cs) end l e = rw e (marked_own cs (Some d) (period d h
      (sum_days vol d (day_after last (end_in l) - d)) (sum_days nor d (day_after last (end_in l) - d)) ∷ l) refl)
  marked_own (cell d h false ∷ cs) end l e = marked_own cs end l e

-- How many of a list of holders are s.
count_of : ℕ → List (Told ℕ) → ℕ
count_of s [] = 0
count_of s (x ∷ xs) = once s x + count_of s xs

-- A day lies in as many of the periods of s as there are periods that it lies in and s holds.
module _ (s d : ℕ) where
  before_same : (qs : List Period) → is_before d (end_in qs) ≡ is_before_next d qs
  before_same [] = refl
  before_same (q ∷ qs) = refl

  own_on_day : (l : List Period) → length (own_on d (own_in s l)) ≡ count_of s (map (λ (q : Period). some q.holder) (covering d l))
  unfolding own_on own_in covering count_of
  own_on_day [] = refl
  own_on_day (q ∷ qs) = cases (leb q.start d && is_before_next d qs)
      (λ on. cases (eqb q.holder s) (λ e. rw (on, e, before_same qs, on, own_on_day qs) (omega arith))
      (λ e. rw (on, e, own_on_day qs) (omega arith)))
      (λ off. cases (eqb q.holder s) (λ e. rw (off, e, before_same qs, off) (own_on_day qs)) (λ e. rw (off, e) (own_on_day qs)))

module _ (o : Opening) (ok : is_accepted (opening_answer o) ≡ true) (calls : List Call) (s p : ℕ) where
  abbrev r : Register
  r = register o calls

  book_own_lem : not_point p ≡ false → book_own o calls s p ≡ own_in s (book_periods o calls p)
  unfolding book_own book_periods own_in
  book_own_lem is = rw is (marked_own (volume (readings (opened o) calls p)) (normal (readings (opened o) calls p)) s (book o calls).day
      ((book o calls).page p).cells None [] refl)

  -- the periods that the register keeps are the day book's
  kept : not_point p ≡ false → book_own o calls s p ≡ own_in s (counted (point_at p r.points).history)
  kept is = let k = range_in 1 32 p is in rw (
    used_count (point_at p r.points).history (point_sized o ok calls p k.0 k.1),
    periods_are o ok calls p k.0 k.1,
  ) (book_own_lem is)

  -- a point that may not be asked about has none
  none_there : unasked r p ≡ true → book_own o calls s p ≡ []
  unfolding book_own own_in
  none_there off = cases (not_point p) (λ e. rw e)
      (λ e. let k = range_in 1 32 p e in kept e ∙ rw (unborn o ok calls p k.0 k.1 off).1)

  own_is : own_periods r s p ≡ book_own o calls s p
  own_is = cases (unasked r p) (λ off. own_off r s p off ∙ sym (none_there off))
      (λ on. own_on_lem r s p on ∙ sym (kept (neither (not_point p) _ on).0))

  own_period : (n : ℕ) → own_told (own_answer r s p n) ≡ book_own_period o calls s p n
  unfolding own_answer book_own_period
  own_period n = cases (not_supplier s) (λ e. rw e) (λ e. rw (e, own_is) (told_nth n (book_own o calls s p)))

  own_number_lem : (n : ℕ) → own_number (own_answer r s p n) ≡ perimeter_number s (book_own_period o calls s p n)
  unfolding own_answer
  own_number_lem n = rw (← (own_period n)) (cases (not_supplier s) (λ e. rw e) (λ e. rw e (nth_number n (own_periods r s p))))

  -- the only period that a day lies in is its holder's
  own_claimed : (e d : ℕ) → 1 ≤ p → p ≤ 32 → enrolments (opened o) calls p ≡ e ∷ [] → e ≤ d → d ≤ r.day
      → length (own_on d (own_periods r s p)) ≡ once s (holder_on d ((book o calls).page p).cells)
  unfolding count_of
  own_claimed e d lo hi n le due = cases (unasked r p)
      (λ off. let w : ◌≡◌ {A = ℕ} 0 1 = cc ((unborn o ok calls p lo hi off).0, n) in absurd (omega arith))
      (λ on. let h = (point_at p r.points).history in
      rw (own_on_lem r s p on, used_count h (point_sized o ok calls p lo hi)) (own_on_day s d (take h.count h.periods)
      ∙ ap (count_of s) (((day_book_agrees o ok calls).points p lo hi).covered e d n le due) ∙ omega arith))

pub own_asking : OwnAsking
own_asking o ok calls =
    record {
      periods = own_is o ok calls;
      period = own_period o ok calls;
      number = own_number_lem o ok calls;
      claimed = own_claimed o ok calls;
    }
