-- 02, F-1: on rising starts the search from the newest period is the walk over all of them. The statement is
-- specs/Latest.antt.
use Rattle.basics.proofs.Basics.{◌≡◌, refl, ◌∙◌, ap, true, false, Bool, cond, ◌||◌, some, Option, none, List, []}
use Rattle.basics.proofs.Basics.{◌∷◌, ◌++◌, map, ◌≤◌, ℕ, ◌-◌, ◌+◌, ◌<◌, suc, zero, zero-add, dec_le, arith, ltb, leb}
use Rattle.basics.proofs.Basics.{length, take, get_or, take-suc, lt-ltb, le-leb, le-ltb, lt-leb}
use Rattle.rules.specs.declared.{Period.Period, History.History, Register.Register}
use Rattle.rules.specs.Pinned.Register.{no_period, used, newest, point_at}
use Rattle.questions.specs.declared.{HolderAnswer.HolderAnswer}
use Rattle.questions.specs.Pinned.Questions.{unasked, refused_holder, holder_among, holder_in, holder_answer, holder_told}
use Rattle.questions.specs.Latest.{walked, later_than, probes_for, starts_in, Rising, Searched}
use Rattle.agreement.specs.Sound.{wheels}
use Rattle.agreement.proofs.Tally.{Desc}
use Rattle.agreement.proofs.Slots.{recent}
use Rattle.questions.proofs.Walks.{among_found}

abbrev starts : List Period → List ℕ
starts qs = map (λ (q : Period). q.start) qs

abbrev Below : ℕ → List Period → ℕ → Type 0
Below n ps e = (j : ℕ) → j < n → (get_or ps j no_period).start < e

abbrev Rises : ℕ → List Period → Type 0
Rises n ps = (i j : ℕ) → i < j → j < n → (get_or ps i no_period).start < (get_or ps j no_period).start

module _ (d : ℕ) where
  walked_last : (z : Option ℕ) (xs : List Period) (q : Period)
      → walked d z (xs ++ q ∷ []) ≡ cond (leb q.start d) (some q.holder) (walked d z xs)
  unfolding walked
  walked_last z [] q = refl
  walked_last z (x ∷ xs) q = walked_last (cond (leb x.start d) (some x.holder) z) xs q

  later_last : (xs : List Period) (q : Period)
      → later_than d (starts (xs ++ q ∷ [])) ≡ cond (ltb d q.start) (suc (later_than d (starts xs))) (later_than d (starts xs))
  unfolding later_than
  later_last [] q = refl
  later_last (x ∷ xs) q = rw (later_last xs q) (go (ltb d x.start) (ltb d q.start) (later_than d (starts xs)))
    where
      go : (a b : Bool) (n : ℕ) → cond a (suc (cond b (suc n) n)) (cond b (suc n) n) ≡ cond b (suc (cond a (suc n) n)) (cond a (suc n) n)
      go true true n = refl
      go true false n = refl
      go false true n = refl
      go false false n = refl

  module _ (ps : List Period) where
    -- where the n-th is the last to start by the day, none starts after it
    none_later : (n : ℕ) → n ≤ length ps → Below n ps (suc d) → later_than d (starts (take n ps)) ≡ 0
    unfolding later_than
    none_later zero le h = refl
    none_later (suc n) le h = let by : (get_or ps n no_period).start ≤ d = omega (arith, h n (omega arith)) in
        rw (take-suc ps n no_period le, later_last (take n ps) (get_or ps n no_period), le-ltb d _ by)
        (none_later n (omega arith) (λ i lt. h i (omega arith)))

    abbrev Finds : ℕ → ℕ → Type 0
    Finds k n = (holder_told (holder_among d k n ps) ≡ walked d none (take n ps))
        × ((holder_among d k n ps).probes ≡ probes_for (walked d none (take n ps)) (k + later_than d (starts (take n ps))))

    finds : (k n : ℕ) → n ≤ length ps → Rises n ps → Finds k n
    unfolding holder_among walked
    finds k zero le h = (refl, refl)
    finds k (suc n) le h = let q : Period = get_or ps n no_period in
        rw (take-suc ps n no_period le, walked_last none (take n ps) q, later_last (take n ps) q) (elim (dec_le q.start d) [
          | yes y ↦ rw (le-leb _ _ y, le-ltb _ _ y, none_later n (omega arith) (λ i lt. omega (arith, h i n lt (omega arith)))) (refl, omega arith)
          | no y ↦ let one : k + suc (later_than d (starts (take n ps))) ≡ k + 1 + later_than d (starts (take n ps)) = omega arith in
              rw (lt-leb q.start d (omega arith), lt-ltb d q.start (omega arith), one)
              (finds (k + 1) n (omega arith) (λ i j lt le. h i j lt (omega arith)))
        ])

pub searched : (d : ℕ) (h : History) → 24 ≤ length h.periods → Rising h → Searched d h
searched d h slots r = let w = finds d h.periods 0 (used h) (omega arith) r in
    let z = zero-add (later_than d (starts (take (used h) h.periods))) in record { holder = w.0; probes = rw z at w.1 }

-- a refusal reports 0, and else the starts after the day are counted
pub probes_told : (r : Register) (p d : ℕ) → 24 ≤ length (point_at p r.points).history.periods → Rising (point_at p r.points).history
    → (holder_answer r p d).probes ≡ probes_for (holder_told (holder_answer r p d)) (later_than d (starts_in (point_at p r.points).history))
unfolding holder_answer
probes_told r p d slots rise = go (unasked r p || ltb r.day d)
  where
    h : History
    h = (point_at p r.points).history

    go : (b : Bool) → (cond b refused_holder (holder_in d h)).probes ≡ probes_for (holder_told (cond b refused_holder (holder_in d h))) (later_than d (starts_in h))
    go true = refl
    go false = let w = searched d h slots rise in rw w.holder w.probes

-- the newest period is the first that is looked at
pub newest_one : (d : ℕ) (h : History) → 0 < used h → (newest h).start ≤ d → (holder_in d h).probes ≡ 1
newest_one d h any le = ap (λ (a : HolderAnswer). a.probes)
    (among_found d h.periods (used h - 1) 0 (used h) (omega arith) le (λ j lo hi. absurd (omega (arith, any, lo, hi))))
    ∙ omega arith

-- periods that fall from the newest down rise from the oldest up, and all start before day e
rises : (n : ℕ) (ps : List Period) (e : ℕ) → Desc e (recent wheels n ps) → Below n ps e × Rises n ps
unfolding recent
rises zero ps e r = (λ j lt. absurd (omega arith), λ i j lt le. absurd (omega arith))
rises (suc n) ps e r = let w = rises n ps (get_or ps n no_period).start r.1 in (
  λ j lt. elim (dec_le n j) [
    | yes y ↦ let q : j ≡ n = omega arith in rw q r.0
    | no y ↦ omega (arith, w.0 j (omega arith), r.0)
  ],
  λ i j lt le. elim (dec_le n j) [
    | yes y ↦ let q : j ≡ n = omega arith in rw q (w.0 i (omega arith))
    | no y ↦ w.1 i j lt (omega arith)
  ],
)

pub falling_rise : (h : History) (e : ℕ) → Desc e (recent wheels (used h) h.periods) → Rising h
falling_rise h e r = (rises (used h) h.periods e r).1
