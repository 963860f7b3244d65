-- The closing lines of a register after any list of calls are the day book's. The statement is specs/ByBook.antt.
use Rattle.basics.proofs.Basics.{◌≡◌, refl, ◌∙◌, ap, ap₂, true, List, [], ◌∷◌, ◌++◌, append_assoc, append-nil, ◌≤◌, ℕ}
use Rattle.basics.proofs.Basics.{◌-◌, ◌+◌, ◌<◌, suc, zero, add-zero, add-one, arith, length, take, get_or, take-suc}
use Rattle.basics.proofs.Basics.{le-ltb, cases}
use Rattle.rules.specs.declared.{Period.Period, Point.Point, Register.Register, Opening.Opening, Call.Call}
use Rattle.rules.specs.Answers.{is_accepted}
use Rattle.rules.specs.Rejections.{opening_answer}
use Rattle.rules.specs.Pinned.Register.{no_period, no_point, point_at}
use Rattle.questions.specs.Pinned.Questions.{advance_answer, advance_told}
use Rattle.rules.specs.Periods.{periods_of, register}
use Rattle.agreement.proofs.Slots.{Sized, used_count}
use Rattle.agreement.proofs.Run.{run_agrees}
use Rattle.questions.specs.ByBook.{book_periods, book_advance}
use Rattle.questions.proofs.Asking.{point_sized, periods_are, advance_is}
use Rattle.line_answers.specs.Answers.{period_line}
use Rattle.line_listing.specs.Pinned.Listing.{period_lines, point_lines, listing_from, listing}
use Rattle.line_listing.specs.ByBook.{lines_of_periods, with_total, rising, book_listing, ListingByBook}

lines_snoc : (p : ℕ) (qs : List Period) (q : Period) → lines_of_periods p (qs ++ (q ∷ [])) ≡ lines_of_periods p qs ++ period_line p q
unfolding lines_of_periods
lines_snoc p [] q = append-nil (period_line p q)
lines_snoc p (x ∷ qs) q = rw (lines_snoc p qs q, append_assoc)

-- the lines of the first n slots
lines_first : (p n : ℕ) (ps : List Period) → n ≤ length ps → period_lines p n ps ≡ lines_of_periods p (take n ps)
unfolding period_lines lines_of_periods
lines_first p zero ps le = refl
lines_first p (suc n) ps le =
    rw (take-suc ps n no_period le, lines_snoc p (take n ps) (get_or ps n no_period), lines_first p n ps (omega arith))

-- one point, by what its questions tell
point_told : (r : Register) (p : ℕ) → 1 ≤ p → p ≤ 32 → Sized (point_at p r.points).history
    → point_lines p (point_at p r.points) ≡ with_total p (periods_of (point_at p r.points)) (advance_told (advance_answer r p))
unfolding point_lines advance_answer
point_told r p lo hi z = let h = (point_at p r.points).history in
    let first = lines_first p h.count h.periods (omega (arith, z.slots, z.some)) in
    rw (le-ltb p 1 lo, le-ltb 32 p hi) (cases (point_at p r.points).fields.enrolled (λ e. rw (e, used_count h z, first)) (λ e. rw e))

-- points one behind the other
rising_told : (f : ℕ → List ℕ) (gs : List Point) (p : ℕ) → ((i : ℕ) → i < length gs → point_lines (p + i) (get_or gs i no_point) ≡ f (p + i))
    → listing_from p gs ≡ rising f p (length gs)
unfolding listing_from rising
rising_told f [] p k = refl
rising_told f (g ∷ gs) p k = let first : point_lines p g ≡ f p = rw (add-zero p) at (k 0 (omega arith)) in
    let rest : listing_from (p + 1) gs ≡ rising f (suc p) (length gs) =
    ap (λ (n : ℕ). listing_from n gs) (add-one p) ∙ rising_told f gs (suc p) shifted in
    ap₂ (λ (a b : List ℕ). a ++ b) first rest
  where
    shifted : (i : ℕ) → i < length gs → point_lines (suc p + i) (get_or gs i no_point) ≡ f (suc p + i)
    shifted i lt = let e : p + suc i ≡ suc p + i = omega arith in rw e at (k (suc i) (omega arith))

-- one point after a list of calls
module _ (o : Opening) (ok : is_accepted (opening_answer o) ≡ true) (calls : List Call) where
  abbrev book_lines : ℕ → List ℕ
  book_lines p = with_total p (book_periods o calls p) (book_advance o calls p)

  point_by_book : (p : ℕ) → 1 ≤ p → p ≤ 32 → point_lines p (point_at p (register o calls).points) ≡ book_lines p
  point_by_book p lo hi = point_told (register o calls) p lo hi (point_sized o ok calls p lo hi)
      ∙ rw (periods_are o ok calls p lo hi, advance_is o ok calls p)

  count : length (register o calls).points ≡ 32
  count = (run_agrees o ok calls).count

  pub each_by_book : (i : ℕ) → i < length (register o calls).points
      → point_lines (1 + i) (get_or (register o calls).points i no_point) ≡ book_lines (1 + i)
  each_by_book i lt = let k : 1 + i - 1 ≡ i = omega arith in
      rw k at (point_by_book (1 + i) (omega arith) (omega (arith, count)))

pub listing_by_book : ListingByBook
unfolding listing book_listing
listing_by_book o ok calls = rising_told (book_lines o ok calls) (register o calls).points 1 (each_by_book o ok calls)
    ∙ ap (rising (book_lines o ok calls) 1) (count o ok calls)
