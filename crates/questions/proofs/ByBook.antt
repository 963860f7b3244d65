-- A point's periods are those that the day book's cells and the list's readings give.
use Rattle.basics.proofs.Basics.{◌≡◌, refl, ap₂, true, false, some, none, List, [], ◌∷◌, map, reverse_aux, ◌≤◌, ℕ, ◌-◌, ◌+◌, ◌<◌}
use Rattle.basics.proofs.Basics.{suc, zero, arith, length, take, get_or}
use Rattle.rules.specs.declared.{Period.Period, Point.Point}
use Rattle.rules.specs.Pinned.Register.{period, no_period}
use Rattle.rules.specs.DayBook.{Cell, cell}
use Rattle.rules.specs.Periods.{periods_of, sum_days}
use Rattle.agreement.specs.Sound.{Side, wheels, normal}
use Rattle.agreement.proofs.Tally.{Cut, cut, tally, Runs, Live, live_runs}
use Rattle.agreement.proofs.Slots.{cut_on, listed, Sized, take_listed}
use Rattle.agreement.proofs.Cover.{sum_days_none, sum_days_more}
use Rattle.questions.specs.ByBook.{periods_in, nth}

-- the volume of one side
side_of : (x : Side) (v : Side → ℕ) (d h : ℕ) → cut_on x (period d h (v wheels) (v normal)) ≡ cut d h (v x)
side_of wheels v d h = refl
side_of normal v d h = refl

-- On either side, whichever volumes the days have: a is what the days from e on to the day `end` give.
module _ (x : Side) (vol : Side → ℕ → ℕ) where
  tally_periods : (cs : List Cell) (e end a : ℕ) (l : List Period) → Runs e cs → e ≤ end → a ≡ sum_days (vol x) e (end - e)
      → reverse_aux (tally (vol x) cs a) (map (cut_on x) l) ≡ map (cut_on x) (periods_in (vol wheels) (vol normal) end cs l)
  unfolding tally periods_in
  tally_periods [] e end a l r le q = refl
  tally_periods (cell d h true ∷ cs) e end a l r le q =
      rw (sum_days_more (vol x) d e end a r.0 le q, ← (side_of x (λ (y : Side). sum_days (vol y) d (end - d)) d h))
      (tally_periods cs d d 0 (period d h (sum_days (vol wheels) d (end - d)) (sum_days (vol normal) d (end - d)) ∷ l)
      r.1 (omega arith) (sum_days_none (vol x) d))
  tally_periods (cell d h false ∷ cs) e end a l r le q =
      tally_periods cs d end (a + vol x d) l r.1 (omega arith) (sum_days_more (vol x) d e end a r.0 le q)

-- Periods that are the same on either side are the same.
same_cons : {c d : Cut} {l m : List Cut} → c ∷ l ≡ d ∷ m → (c ≡ d) × (l ≡ m)
same_cons q = (cc, cc)

same_periods : (ps qs : List Period) → ((x : Side) → map (cut_on x) ps ≡ map (cut_on x) qs) → ps ≡ qs
same_periods [] [] k = refl
same_periods [] (q ∷ qs) k = let z : ◌≡◌ {A = ℕ} 0 1 = cc (k wheels) in absurd (omega arith)
same_periods (p ∷ ps) [] k = let z : ◌≡◌ {A = ℕ} 0 1 = cc (k wheels) in absurd (omega arith)
same_periods (p ∷ ps) (q ∷ qs) k = ap₂ (λ (p : Period) (l : List Period). p ∷ l)
    (λ i. record {
      start = (w.0 i).start;
      holder = (w.0 i).holder;
      volume = record { 0 = (w.0 i).volume };
      normal = record { 0 = (n.0 i).volume };
    }) (same_periods ps qs (λ x. (same_cons (k x)).1))
  where
    w : (cut_on wheels p ≡ cut_on wheels q) × (map (cut_on wheels) ps ≡ map (cut_on wheels) qs)
    w = same_cons (k wheels)

    n : (cut_on normal p ≡ cut_on normal q) × (map (cut_on normal) ps ≡ map (cut_on normal) qs)
    n = same_cons (k normal)

pub periods_told : (g : Point) → Sized g.history → (vol : Side → ℕ → ℕ) (cs : List Cell)
    → ((x : Side) → listed x g.history ≡ tally (vol x) cs 0)
    → (t : ℕ) → Live t cs → periods_of g ≡ periods_in (vol wheels) (vol normal) (suc t) cs []
periods_told g sized vol cs told t live = same_periods _ _ (λ x. rw (take_listed x g.history sized, told x)
    (tally_periods x vol cs (suc t) (suc t) 0 [] (live_runs t cs live) (omega arith) (sum_days_none (vol x) (suc t))))

-- the n-th of the first c
pub nth_in : (n c : ℕ) (ps : List Period) → n < c → c ≤ length ps → nth n (take c ps) ≡ some (get_or ps n no_period)
unfolding nth
nth_in n zero ps lt le = let z : ⊥ = omega arith in absurd z
nth_in n (suc c) [] lt le = let z : ⊥ = omega arith in absurd z
nth_in zero (suc c) (q ∷ ps) lt le = refl
nth_in (suc n) (suc c) (q ∷ ps) lt le = nth_in n c ps (omega arith) (omega arith)

pub nth_past : (n c : ℕ) (ps : List Period) → c ≤ n → nth n (take c ps) ≡ none
unfolding nth
nth_past n zero ps le = refl
nth_past n (suc c) [] le = refl
nth_past zero (suc c) (q ∷ ps) le = let z : ⊥ = omega arith in absurd z
nth_past (suc n) (suc c) (q ∷ ps) le = nth_past n c ps (omega arith)
