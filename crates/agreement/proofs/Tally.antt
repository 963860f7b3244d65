-- The periods as a function of the day book's cells and the day volumes, here newest first and with one of their two
-- volumes: what naming a holder, a new day and booking a reading do to it. Then the sum of the volumes, the oldest start
-- and the order of the starts. Nothing here depends on which volume it is.
--
-- Cut   a period with one volume
use Rattle.basics.proofs.Basics.{◌≡◌, refl, ◌∙◌, ap, fun_ext, true, false, Bool, cond, List, [], ◌∷◌, ◌≤◌, ℕ, ◌-◌, ◌+◌}
use Rattle.basics.proofs.Basics.{◌<◌, suc, zero, le_trans, zero-add, suc-add, arith, eqb, length, ne_eqb, eq-eqb}
use Rattle.basics.proofs.Basics.{eqb-true, eqb-false}
use Rattle.rules.specs.declared.{Span.Span}
use Rattle.rules.specs.Volumes.{summed}
use Rattle.rules.specs.DayBook.{Cell, cell, overwritten, count_marks, is_marked}
use Rattle.agreement.specs.Sound.{Side}
use Rattle.agreement.proofs.Shares.{All, given_on, day_on, whole_on, days_on, wholes_on, step_on, before_on, after_on}

pub record Cut : Type 0 where
  pub start : ℕ
  pub holder : ℕ
  pub volume : ℕ

abbrev pub cut : ℕ → ℕ → ℕ → Cut
cut d h v = record { start = d; holder = h; volume = v }

-- A holder is named on day t: a new period, or the newest replaced where it starts on that day.
abbrev pub begin : ℕ → ℕ → List Cut → List Cut
begin t h [] = cut t h 0 ∷ []
begin t h (p ∷ ps) = cond (eqb p.start t) (cut t h p.volume ∷ ps) (cut t h 0 ∷ p ∷ ps)

abbrev pub began_on : ℕ → List Cut → Bool
began_on t [] = false
began_on t (p ∷ ps) = eqb p.start t

pub begin_new : (t h : ℕ) (ps : List Cut) → began_on t ps ≡ false → begin t h ps ≡ cut t h 0 ∷ ps
begin_new t h [] b = refl
begin_new t h (p ∷ ps) b = rw b

-- Book a running total that is c d before day d: each period gets the rise from its start to its end; the newest ends
-- before day e.
unfoldable pub book_total : (ℕ → ℕ) → ℕ → List Cut → List Cut
book_total c e [] = []
book_total c e (p ∷ ps) = cut p.start p.holder (p.volume + (c e - c p.start)) ∷ book_total c p.start ps

unfoldable pub book_totals : Side → List Span → ℕ → List Cut → List Cut
book_totals x [] e ps = ps
book_totals x (s ∷ l) e ps = book_totals x l e (book_total (given_on x s) e ps)

-- Walk the cells, today's first, and add up the day volumes; a marked cell begins a period.
unfoldable pub tally : (ℕ → ℕ) → List Cell → ℕ → List Cut
tally vol [] a = []
tally vol (cell d h true ∷ cs) a = cut d h (a + vol d) ∷ tally vol cs 0
tally vol (cell d h false ∷ cs) a = tally vol cs (a + vol d)

-- The cells are those of the days before e, each once.
abbrev pub Runs : ℕ → List Cell → Type 0
Runs e [] = Unit {0}
Runs e (cell d h m ∷ cs) = (e ≡ suc d) × Runs d cs

-- The newest cell is that of day t.
abbrev pub Live : ℕ → List Cell → Type 0
Live t [] = ⊥
Live t (c ∷ cs) = Runs (suc t) (c ∷ cs)

pub live_runs : (t : ℕ) (cs : List Cell) → Live t cs → Runs (suc t) cs
live_runs t [] r = elim r [ ]
live_runs t (c ∷ cs) r = r

pub live_overwritten : (t h : ℕ) (cs : List Cell) → Live t cs → Live t (overwritten h cs)
live_overwritten t h [] r = elim r [ ]
live_overwritten t h (cell d k m ∷ cs) r = r

-- An unmarked cell has the holder of the cell before; the newest has holder h.
abbrev pub Held : ℕ → List Cell → Type 0
Held h [] = Unit {0}
Held h (cell d k true ∷ cs) = (k ≡ h) × ((j : ℕ) × Held j cs)
Held h (cell d k false ∷ cs) = (k ≡ h) × Held h cs

pub held_overwritten : (h j : ℕ) (cs : List Cell) → Held j cs → Held h (overwritten h cs)
held_overwritten h j [] r = tt
held_overwritten h j (cell d k true ∷ cs) r = (refl, r.1)
held_overwritten h j (cell d k false ∷ cs) r = (refl, (j, r.1))

module _ (vol : ℕ → ℕ) where
  pub tally_length : (cs : List Cell) (a : ℕ) → length (tally vol cs a) ≡ count_marks cs
  unfolding tally
  tally_length [] a = refl
  tally_length (cell d h true ∷ cs) a = ap suc (tally_length cs 0)
  tally_length (cell d h false ∷ cs) a = tally_length cs (a + vol d)

  -- no period of earlier cells begins on day t
  began_later : (t : ℕ) (cs : List Cell) (e a : ℕ) → e ≤ t → Runs e cs → began_on t (tally vol cs a) ≡ false
  unfolding tally
  began_later t [] e a le r = refl
  began_later t (cell d k true ∷ cs) e a le r = ne_eqb d t (omega arith)
  began_later t (cell d k false ∷ cs) e a le r = began_later t cs d (a + vol d) (omega arith) r.1

  pub began : (t : ℕ) (cs : List Cell) → Live t cs → began_on t (tally vol cs 0) ≡ is_marked cs
  unfolding tally
  began t [] r = elim r [ ]
  began t (cell d h true ∷ cs) r = eq-eqb d t (omega arith)
  began t (cell d h false ∷ cs) r = began_later t cs d (0 + vol d) (omega arith) r.1

  -- a holder is named on day t
  pub begin_tally : (t h : ℕ) (cs : List Cell) → vol t ≡ 0 → Live t cs
      → begin t h (tally vol cs 0) ≡ tally vol (overwritten h cs) 0
  unfolding tally
  begin_tally t h [] z r = elim r [ ]
  begin_tally t h (cell d k true ∷ cs) z r = let q : d ≡ t = omega arith in rw (eq-eqb d t q, q)
  begin_tally t h (cell d k false ∷ cs) z r = let q : d ≡ t = omega arith in
      let v : 0 + vol d ≡ 0 = rw q (omega arith) in rw (v, q) (begin_new t h (tally vol cs 0) (began_later t cs d 0 (omega arith) r.1))

  -- the unmarked cell of a day with no volume changes nothing
  pub dawn : (t h : ℕ) (cs : List Cell) → vol t ≡ 0 → tally vol (cell t h false ∷ cs) 0 ≡ tally vol cs 0
  unfolding tally
  dawn t h cs z = ap (tally vol cs) (omega arith)

-- A running total c that grows by v d on day d, booked over the cells of the days before e.
module _ (c v : ℕ → ℕ) (step : (d : ℕ) → c (suc d) ≡ c d + v d) where
  total_up : (a n : ℕ) → c a ≤ c (n + a)
  total_up a zero = rw (zero-add a) (omega arith)
  total_up a (suc n) = rw (suc-add n a) (omega (arith, total_up a n, step (n + a)))

  pub book_total_tally : (vol : ℕ → ℕ) (cs : List Cell) (e end a : ℕ) → Runs e cs → c e ≤ c end
      → book_total c end (tally vol cs a) ≡ tally (λ (d : ℕ). vol d + v d) cs (a + (c end - c e))
  unfolding tally book_total
  book_total_tally vol [] e end a r le = refl
  book_total_tally vol (cell d h true ∷ cs) e end a r le = let k : c e ≡ c d + v d = ap c r.0 ∙ step d in
      let x : a + vol d + (c end - c d) ≡ a + (c end - c e) + (vol d + v d) = omega arith in
      let z : 0 + (c d - c d) ≡ 0 = omega arith in rw (x, book_total_tally vol cs d d 0 r.1 (omega arith), z)
  book_total_tally vol (cell d h false ∷ cs) e end a r le = let k : c e ≡ c d + v d = ap c r.0 ∙ step d in
      book_total_tally vol cs d end (a + vol d) r.1 (omega arith)
      ∙ ap (tally (λ (n : ℕ). vol n + v n) cs) (omega arith)

pub book_totals_tally : (x : Side) (l : List Span) (vol : ℕ → ℕ) (cs : List Cell) (e : ℕ) → Runs e cs
    → All (λ (s : Span). s.from < s.to) l
    → book_totals x l e (tally vol cs 0) ≡ tally (λ (d : ℕ). vol d + days_on x l d) cs 0
unfolding book_totals summed
book_totals_tally x [] vol cs e r k = ap (λ (v : ℕ → ℕ). tally v cs 0) (fun_ext (λ d. omega arith))
book_totals_tally x (s ∷ l) vol cs e r k = let z : 0 + (given_on x s e - given_on x s e) ≡ 0 = omega arith in
    rw (book_total_tally (given_on x s) (day_on x s) (step_on x s k.0) vol cs e e 0 r (omega arith), z)
    (book_totals_tally x l (λ (d : ℕ). vol d + day_on x s d) cs e r k.1
    ∙ ap (λ (v : ℕ → ℕ). tally v cs 0) (fun_ext (λ d. omega arith)))

unfoldable pub sum_volumes : List Cut → ℕ
sum_volumes [] = 0
sum_volumes (p ∷ ps) = p.volume + sum_volumes ps

-- The start of the oldest period, or e where there is none.
unfoldable pub oldest : List Cut → ℕ → ℕ
oldest [] e = e
oldest (p ∷ ps) e = oldest ps p.start

-- The starts fall, from below e.
abbrev pub Desc : ℕ → List Cut → Type 0
Desc e [] = Unit {0}
Desc e (p ∷ ps) = (p.start < e) × Desc p.start ps

pub desc_up : {e f : ℕ} (ps : List Cut) → e ≤ f → Desc e ps → Desc f ps
desc_up [] h r = tt
desc_up (p ∷ ps) h r = (omega arith, r.1)

pub tally_desc : (vol : ℕ → ℕ) (cs : List Cell) (e a : ℕ) → Runs e cs → Desc e (tally vol cs a)
unfolding tally
tally_desc vol [] e a r = tt
tally_desc vol (cell d h true ∷ cs) e a r = (omega arith, tally_desc vol cs d 0 r.1)
tally_desc vol (cell d h false ∷ cs) e a r =
    desc_up (tally vol cs (a + vol d)) (omega arith) (tally_desc vol cs d (a + vol d) r.1)

pub oldest_le : (t : ℕ) (ps : List Cut) → Desc (suc t) ps → oldest ps t ≤ t
unfolding oldest
oldest_le t [] r = omega arith
oldest_le t (p ∷ ps) r = le_trans (oldest_le p.start ps (desc_up ps (omega arith) r.1)) (omega arith)

-- What holds of the newest period replaced, or of a new one before it, holds of what begins.
begin_holds : (P : List Cut → Type 0) (t h : ℕ) (ps : List Cut)
    → ((p : Cut) (qs : List Cut) → ps ≡ p ∷ qs → p.start ≡ t → P (cut t h p.volume ∷ qs))
    → (began_on t ps ≡ false → P (cut t h 0 ∷ ps)) → P (begin t h ps)
begin_holds P t h [] k n = n refl
begin_holds P t h (p ∷ ps) k n = go (eqb p.start t) refl
  where
    go : (b : Bool) → eqb p.start t ≡ b → P (cond b (cut t h p.volume ∷ ps) (cut t h 0 ∷ p ∷ ps))
    go true q = k p ps refl (eqb-true p.start t q)
    go false q = n q

pub oldest_begin : (t h : ℕ) (ps : List Cut) (e : ℕ) → oldest (begin t h ps) e ≡ oldest ps t
unfolding oldest
oldest_begin t h ps e = begin_holds (λ (q : List Cut). oldest q e ≡ oldest ps t) t h ps (λ p qs i j. rw (i, j)) (λ n. refl)

pub sum_begin : (t h : ℕ) (ps : List Cut) → sum_volumes (begin t h ps) ≡ sum_volumes ps
unfolding sum_volumes
sum_begin t h ps = begin_holds (λ (q : List Cut). sum_volumes q ≡ sum_volumes ps) t h ps (λ p qs i j. rw i) (λ n. omega arith)

module _ (c : ℕ → ℕ) where
  pub desc_book_total : (ps : List Cut) (e end : ℕ) → Desc e ps → Desc e (book_total c end ps)
  unfolding book_total
  desc_book_total [] e end r = tt
  desc_book_total (p ∷ ps) e end r = (r.0, desc_book_total ps p.start p.start r.1)

  oldest_book_total : (ps : List Cut) (e end : ℕ) → oldest (book_total c end ps) e ≡ oldest ps e
  unfolding book_total oldest
  oldest_book_total [] e end = refl
  oldest_book_total (p ∷ ps) e end = oldest_book_total ps p.start p.start

  sum_book_total : ((a n : ℕ) → c a ≤ c (n + a)) → (ps : List Cut) (e : ℕ) → Desc e ps
      → sum_volumes (book_total c e ps) + c (oldest ps e) ≡ sum_volumes ps + c e
  unfolding book_total sum_volumes oldest
  sum_book_total up [] e r = refl
  sum_book_total up (p ∷ ps) e r = let z : e - p.start + p.start ≡ e = omega (arith, r.0) in
      let u : c p.start ≤ c e = rw z at (up p.start (e - p.start)) in
      omega (arith, sum_book_total up ps p.start r.1)

-- a reading adds all that it gives, less what it gives before the oldest period
pub sum_reading : (x : Side) (s : Span) (ps : List Cut) (e : ℕ) → s.from < s.to → s.to ≤ e → Desc e ps
    → sum_volumes (book_total (given_on x s) e ps) + given_on x s (oldest ps e) ≡ sum_volumes ps + whole_on x s
sum_reading x s ps e lt le r = sum_book_total (given_on x s) (total_up (given_on x s) (day_on x s) (step_on x s lt)) ps e r
    ∙ ap (λ (n : ℕ). sum_volumes ps + n) (after_on x s lt e le)

-- readings that begin on day d, at or after the oldest period's start
pub sum_book_totals : (x : Side) (l : List Span) (ps : List Cut) (e d : ℕ) → Desc e ps → oldest ps e ≤ d
    → All (λ (s : Span). (s.from ≡ d) × (s.from < s.to) × (s.to ≤ e)) l
    → sum_volumes (book_totals x l e ps) ≡ sum_volumes ps + wholes_on x l
unfolding book_totals summed
sum_book_totals x [] ps e d r o k = omega arith
sum_book_totals x (s ∷ l) ps e d r o k =
    let ih = sum_book_totals x l (book_total (given_on x s) e ps) e d (desc_book_total (given_on x s) ps e e r)
    (rw (oldest_book_total (given_on x s) ps e e) o) k.1 in
    omega (arith, ih, sum_reading x s ps e k.0.1 k.0.2 r, before_on x s k.0.1 (oldest ps e) (omega arith))

length_book_total : (c : ℕ → ℕ) (ps : List Cut) (e : ℕ) → length (book_total c e ps) ≡ length ps
unfolding book_total
length_book_total c [] e = refl
length_book_total c (p ∷ ps) e = ap suc (length_book_total c ps p.start)

module _ (x : Side) where
  pub oldest_book_totals : (l : List Span) (ps : List Cut) (e end : ℕ) → oldest (book_totals x l end ps) e ≡ oldest ps e
  unfolding book_totals
  oldest_book_totals [] ps e end = refl
  oldest_book_totals (s ∷ l) ps e end =
      oldest_book_totals l (book_total (given_on x s) end ps) e end ∙ oldest_book_total (given_on x s) ps e end

  pub desc_book_totals : (l : List Span) (ps : List Cut) (e : ℕ) → Desc e ps → Desc e (book_totals x l e ps)
  unfolding book_totals
  desc_book_totals [] ps e r = r
  desc_book_totals (s ∷ l) ps e r = desc_book_totals l (book_total (given_on x s) e ps) e (desc_book_total (given_on x s) ps e e r)

  -- Booking moves no start, so a day is begun on as before, and there are as many periods.
  pub began_book_totals : (l : List Span) (ps : List Cut) (e t : ℕ) → began_on t (book_totals x l e ps) ≡ began_on t ps
  unfolding book_totals book_total
  began_book_totals [] ps e t = refl
  began_book_totals (s ∷ l) [] e t = began_book_totals l [] e t
  began_book_totals (s ∷ l) (p ∷ ps) e t = began_book_totals l _ e t

  pub length_book_totals : (l : List Span) (ps : List Cut) (e : ℕ) → length (book_totals x l e ps) ≡ length ps
  unfolding book_totals
  length_book_totals [] ps e = refl
  length_book_totals (s ∷ l) ps e =
      length_book_totals l (book_total (given_on x s) e ps) e ∙ length_book_total (given_on x s) ps e

begun_before : (t : ℕ) (ps : List Cut) → began_on t ps ≡ false → Desc (suc t) ps → Desc t ps
begun_before t [] n r = tt
begun_before t (p ∷ ps) n r = let z : p.start ≡ t → ⊥ = eqb-false p.start t n in (omega (arith, r.0), r.1)

pub desc_begin : (t h : ℕ) (ps : List Cut) → Desc (suc t) ps → Desc (suc t) (begin t h ps)
desc_begin t h ps r = begin_holds (Desc (suc t)) t h ps (λ p qs i j. (omega arith, (rw (i, j) at r).1)) (λ n. (omega arith, begun_before t ps n r))

pub length_begin : (t h : ℕ) (ps : List Cut) → length (begin t h ps) ≡ length ps + cond (began_on t ps) 0 1
length_begin t h ps = begin_holds (λ (q : List Cut). length q ≡ length ps + cond (began_on t ps) 0 1) t h ps
    (λ p qs i j. rw (i, eq-eqb p.start t j) (omega arith)) (λ n. rw n (omega arith))
