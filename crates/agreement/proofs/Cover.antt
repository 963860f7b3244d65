-- From periods that are the tally of the cells to what demand 3 says of a point: the starts are the marked cells' days,
-- each volume is the sum of its days, and each day lies in one period, with the cell's holder.
--
-- The slots are oldest first and the tally newest first: a law here speaks of the tally reversed onto later periods l.
use Rattle.basics.proofs.Basics.{◌≡◌, refl, ◌∙◌, ap, ap₂, true, false, Bool, cond, ◌&&◌, some, Option, List, [], ◌∷◌}
use Rattle.basics.proofs.Basics.{map, reverse_aux, reverse, ◌≤◌, ℕ, ◌-◌, ◌+◌, ◌<◌, suc, add-zero, sub_self, ℕ_discrete}
use Rattle.basics.proofs.Basics.{arith, take, ltb, leb, lt-ltb, le-leb, le-ltb, lt-leb, ne_eqb, eq-eqb, cases}
use Rattle.rules.specs.declared.{Period.Period, Point.Point}
use Rattle.rules.specs.DayBook.{Cell, cell}
use Rattle.rules.specs.Periods.{periods_of, starts_of, marked_days, holder_on, is_before_next, covering, sum_days}
use Rattle.rules.specs.Periods.{day_after, daily_sums, total}
use Rattle.agreement.specs.Sound.{Side, volume_on}
use Rattle.agreement.proofs.Tally.{Cut, cut, tally, Runs, Live, Held, Desc, live_runs, tally_desc, sum_volumes, oldest}
use Rattle.agreement.proofs.Slots.{cut_on, listed, Sized, take_listed}

abbrev starts : List Cut → List ℕ
starts ps = map (λ (q : Cut). q.start) ps

abbrev volumes : List Cut → List ℕ
volumes ps = map (λ (q : Cut). q.volume) ps

abbrev holders : List Cut → List (Option ℕ)
holders ps = map (λ (q : Cut). some q.holder) ps

-- `is_before_next` and `covering`, of periods with one volume: neither looks at a volume.
before_next : ℕ → List Cut → Bool
before_next d [] = true
before_next d (q ∷ ps) = ltb d q.start

lying : ℕ → List Cut → List Cut
lying d [] = []
lying d (q ∷ ps) = cond (leb q.start d && before_next d ps) (q ∷ lying d ps) (lying d ps)

next_on : (x : Side) (d : ℕ) (ps : List Period) → is_before_next d ps ≡ before_next d (map (cut_on x) ps)
unfolding before_next
next_on x d [] = refl
next_on x d (q ∷ ps) = refl

covering_on : (x : Side) (d : ℕ) (ps : List Period)
    → map (λ (q : Period). some q.holder) (covering d ps) ≡ holders (lying d (map (cut_on x) ps))
unfolding covering lying
covering_on x d [] = refl
covering_on x d (q ∷ ps) = rw (← (next_on x d ps)) (cases (leb q.start d && is_before_next d ps)
    (λ e. rw e (ap (λ (l : List (Option ℕ)). some q.holder ∷ l) (covering_on x d ps))) (λ e. rw e (covering_on x d ps)))

first_start : (p : Cut) (ps l : List Cut) → take 1 (starts (reverse_aux ps (p ∷ l))) ≡ oldest ps p.start ∷ []
unfolding oldest
first_start p [] l = refl
first_start p (q ∷ ps) l = first_start q ps (p ∷ l)

first_reverse : (ps : List Cut) (e : ℕ) → ((x : ℕ) → oldest ps x ≡ e) → take 1 (starts (reverse ps)) ≡ e ∷ []
unfolding oldest
first_reverse [] e o = let z : ⊥ = omega (arith, o (suc e)) in absurd z
first_reverse (p ∷ ps) e o = first_start p ps [] ∙ ap (λ (n : ℕ). n ∷ []) (o e)

total_reverse : (ps l : List Cut) → total (volumes (reverse_aux ps l)) ≡ sum_volumes ps + total (volumes l)
unfolding sum_volumes total
total_reverse [] l = omega arith
total_reverse (p ∷ ps) l = omega (arith, total_reverse ps (p ∷ l))

module _ (vol : ℕ → ℕ) where
  starts_tally : (cs : List Cell) (a : ℕ) (l : List Cut)
      → starts (reverse_aux (tally vol cs a) l) ≡ marked_days cs (starts l)
  unfolding tally marked_days
  starts_tally [] a l = refl
  starts_tally (cell d h true ∷ cs) a l = starts_tally cs 0 (cut d h (a + vol d) ∷ l)
  starts_tally (cell d h false ∷ cs) a l = starts_tally cs (a + vol d) l

  pub sum_days_none : (d : ℕ) → 0 ≡ sum_days vol d (d - d)
  unfolding sum_days
  sum_days_none d = rw (sub_self d)

  -- a is what the days from e on to the day `end` give, and day d comes before them
  pub sum_days_more : (d e end a : ℕ) → e ≡ suc d → e ≤ end → a ≡ sum_days vol e (end - e)
      → a + vol d ≡ sum_days vol d (end - d)
  unfolding sum_days
  sum_days_more d e end a q le k = let n : end - d ≡ suc (end - suc d) = omega arith in
      rw n (omega (arith, ap (λ (m : ℕ). sum_days vol m (end - m)) q))

  volumes_tally : (t : ℕ) (cs : List Cell) (e a : ℕ) (l : List Cut) → Runs e cs → e ≤ day_after t (starts l)
      → a ≡ sum_days vol e (day_after t (starts l) - e) → volumes l ≡ daily_sums vol t (starts l)
      → volumes (reverse_aux (tally vol cs a) l) ≡ daily_sums vol t (marked_days cs (starts l))
  unfolding tally marked_days daily_sums
  volumes_tally t [] e a l r le q k = k
  volumes_tally t (cell d h true ∷ cs) e a l r le q k =
      let v = sum_days_more d e (day_after t (starts l)) a r.0 le q in
      volumes_tally t cs d 0 (cut d h (a + vol d) ∷ l) r.1 (omega arith) (sum_days_none d)
      (ap₂ (λ (n : ℕ) (vs : List ℕ). n ∷ vs) v k)
  volumes_tally t (cell d h false ∷ cs) e a l r le q k = volumes_tally t cs d (a + vol d) l r.1 (omega arith)
      (sum_days_more d e (day_after t (starts l)) a r.0 le q) k

-- Day d lies before the periods l.
abbrev Ahead : ℕ → List Cut → Type 0
Ahead d l = (before_next d l ≡ true) × (lying d l ≡ [])

module _ (d : ℕ) where
  ahead_cons : (p : Cut) (l : List Cut) → d < p.start → Ahead d l → Ahead d (p ∷ l)
  unfolding lying before_next
  ahead_cons p l lt k = (lt-ltb d p.start lt, rw (lt-leb p.start d lt) k.1)

  -- where a period has begun by day d, those before it are over
  covering_older : (p : Cut) (ps l : List Cut) → p.start ≤ d → Desc p.start ps
      → lying d (reverse_aux ps (p ∷ l)) ≡ lying d (p ∷ l)
  unfolding lying before_next
  covering_older p [] l le r = refl
  covering_older p (q ∷ ps) l le r = covering_older q ps (p ∷ l) (omega arith) r.1
      ∙ rw (le-leb q.start d (omega arith), le-ltb d p.start le)

  covering_begun : (p : Cut) (ps l : List Cut) → p.start ≤ d → Desc p.start ps → Ahead d l
      → holders (lying d (reverse_aux ps (p ∷ l))) ≡ some p.holder ∷ []
  unfolding lying before_next
  covering_begun p ps l le r k = rw (covering_older p ps l le r, le-leb p.start d le, k.0, k.1)

  module _ (vol : ℕ → ℕ) where
    -- day d after the cells: the newest period goes on, to the day `end`
    held_after : (cs : List Cell) (e end a h : ℕ) (l : List Cut) → Runs e cs → Held h cs → e ≤ d → d < end
        → oldest (tally vol cs a) end ≤ d → Ahead d l
        → holders (lying d (reverse_aux (tally vol cs a) l)) ≡ some h ∷ []
    unfolding tally oldest
    held_after [] e end a h l r k le lt o w = let z : ⊥ = omega arith in absurd z
    held_after (cell c j true ∷ cs) e end a h l r k le lt o w =
        covering_begun (cut c j (a + vol c)) (tally vol cs 0) l (omega arith) (tally_desc vol cs c 0 r.1) w
        ∙ ap (λ (n : ℕ). some n ∷ []) k.0
    held_after (cell c j false ∷ cs) e end a h l r k le lt o w =
        held_after cs c end (a + vol c) h l r.1 k.1 (omega arith) lt o w

    -- day d among the cells
    held_on : (cs : List Cell) (e end a h : ℕ) (l : List Cut) → Runs e cs → Held h cs → d < e → e ≤ end
        → oldest (tally vol cs a) end ≤ d → Ahead d l
        → holders (lying d (reverse_aux (tally vol cs a) l)) ≡ holder_on d cs ∷ []
    unfolding tally oldest holder_on
    held_on [] e end a h l r k lt le o w = let z : ⊥ = omega arith in absurd z
    held_on (cell c j true ∷ cs) e end a h l r k lt le o w = let p : Cut = cut c j (a + vol c) in
        elim (ℕ_discrete c d) [
          | yes q ↦ rw (eq-eqb c d q)
              (covering_begun p (tally vol cs 0) l (omega arith) (tally_desc vol cs c 0 r.1) w)
          | no q ↦ rw (ne_eqb c d q) (held_on cs c c 0 k.1.0 (p ∷ l) r.1 k.1.1 (omega arith) (omega arith) o
              (ahead_cons p l (omega arith) w))
        ]
    held_on (cell c j false ∷ cs) e end a h l r k lt le o w = elim (ℕ_discrete c d) [
      | yes q ↦ rw (eq-eqb c d q, k.0)
          (held_after cs c end (a + vol c) h l r.1 k.1 (omega arith) (omega arith) o w)
      | no q ↦ rw (ne_eqb c d q) (held_on cs c end (a + vol c) h l r.1 k.1 (omega arith) (omega arith) o w)
    ]

-- A point whose periods are the tally of the cells.
map_on : {A : Type 0} (x : Side) (f : Cut → A) (ps : List Period) → map (λ (q : Period). f (cut_on x q)) ps ≡ map f (map (cut_on x) ps)
map_on x f [] = refl
map_on x f (q ∷ ps) = ap (λ (l : List _). f (cut_on x q) ∷ l) (map_on x f ps)

module _ (g : Point) (sized : Sized g.history) (x : Side) where
  periods_read : map (cut_on x) (periods_of g) ≡ reverse (listed x g.history)
  periods_read = take_listed x g.history sized

  starts_on : starts_of g ≡ starts (reverse (listed x g.history))
  starts_on = map_on x (λ (q : Cut). q.start) (periods_of g) ∙ ap starts periods_read

  volumes_on : map (volume_on x) (periods_of g) ≡ volumes (reverse (listed x g.history))
  volumes_on = map_on x (λ (q : Cut). q.volume) (periods_of g) ∙ ap volumes periods_read

  pub total_read : total (map (volume_on x) (periods_of g)) ≡ sum_volumes (listed x g.history)
  unfolding total
  total_read = rw volumes_on (total_reverse (listed x g.history) [] ∙ add-zero (sum_volumes (listed x g.history)))

  pub first_read_none : listed x g.history ≡ [] → take 1 (starts_of g) ≡ []
  first_read_none q = rw (starts_on, q)

  pub first_read : (e : ℕ) → ((d : ℕ) → oldest (listed x g.history) d ≡ e) → take 1 (starts_of g) ≡ e ∷ []
  first_read e o = rw starts_on (first_reverse (listed x g.history) e o)

  module _ (vol : ℕ → ℕ) (cs : List Cell) (told : listed x g.history ≡ tally vol cs 0) where
    pub starts_read : starts_of g ≡ marked_days cs []
    starts_read = rw (starts_on, told) (starts_tally vol cs 0 [])

    module _ (t : ℕ) (live : Live t cs) where
      pub volumes_read : map (volume_on x) (periods_of g) ≡ daily_sums vol t (starts_of g)
      unfolding daily_sums
      volumes_read = rw (starts_read, volumes_on, told)
          (volumes_tally vol t cs (suc t) 0 [] (live_runs t cs live) (omega arith) (sum_days_none vol (suc t)) refl)

      pub covered_read : (h : ℕ) → Held h cs → (d : ℕ) → ((e : ℕ) → oldest (listed x g.history) e ≤ d) → d ≤ t
          → map (λ (q : Period). some q.holder) (covering d (periods_of g)) ≡ holder_on d cs ∷ []
      unfolding lying before_next
      covered_read h held d o le = rw (covering_on x d (periods_of g), periods_read, told)
          (held_on d vol cs (suc t) (suc t) 0 h [] (live_runs t cs live) held (omega arith) (omega arith)
          (rw (← told) (o (suc t))) (refl, refl))
