-- The walks of the questions over a point's periods, one turn of each loop.
use Rattle.basics.proofs.Basics.{◌≡◌, refl, List, ◌≤◌, ℕ, ◌-◌, ◌+◌, ◌<◌, suc, zero, ◌^◌, ◌%◌, add-one, arith, get_or, dec_le}
use Rattle.basics.proofs.Basics.{le-leb, lt-leb, length, take, get_or-take, length-take-le}
use Rattle.rules.specs.declared.{Period.Period}
use Rattle.rules.specs.Pinned.Register.{no_period}
use Rattle.questions.specs.Pinned.Questions.{held, refused_holder, holder_among, sum_of}

-- The n periods from slot i on start after day d.
abbrev Later : ℕ → ℕ → ℕ → List Period → Type 0
Later d i n ps = (k : ℕ) → i ≤ k → k < n → d < (get_or ps k no_period).start

module _ (d : ℕ) (ps : List Period) where
  -- the last of the first n that starts on or before the day is i
  pub among_found : (i k n : ℕ) → i < n → (get_or ps i no_period).start ≤ d → Later d (suc i) n ps
      → holder_among d k n ps ≡ held (get_or ps i no_period).holder (k + (n - i))
  unfolding holder_among
  among_found i k zero lt le later = absurd (omega arith)
  among_found i k (suc n) lt le later = elim (dec_le n i) [
    | yes y ↦ let e : n ≡ i = omega arith in let one : k + (suc n - i) ≡ k + 1 = omega arith in
        let l : (get_or ps n no_period).start ≤ d = rw (← e) at le in rw (one, ← e, le-leb _ _ l)
    | no y ↦ let one : k + (suc n - i) ≡ k + 1 + (n - i) = omega arith in
        rw (one, lt-leb (get_or ps n no_period).start d (later n (omega arith) (omega arith)))
        (among_found i (k + 1) n (omega arith) le (λ j lo hi. later j lo (omega arith)))
  ]

  -- all of the first n start after the day
  pub among_none : (k n : ℕ) → Later d 0 n ps → holder_among d k n ps ≡ refused_holder
  unfolding holder_among
  among_none k zero later = refl
  among_none k (suc n) later = rw (lt-leb (get_or ps n no_period).start d (later n (omega arith) (omega arith)))
      (among_none (k + 1) n (λ j lo hi. later j lo (omega arith)))

  -- the first n of the first m
  pub among_first : (m k n : ℕ) → n ≤ m → holder_among d k n (take m ps) ≡ holder_among d k n ps
  unfolding holder_among
  among_first m k zero le = refl
  among_first m k (suc n) le = rw (get_or-take m ps n no_period (omega arith), among_first m (k + 1) n (omega arith))

  pub among_used : (m : ℕ) → m ≤ length ps → holder_among d 0 (length (take m ps)) (take m ps) ≡ holder_among d 0 m ps
  among_used m le = rw (length-take-le m ps le) (among_first m 0 m (omega arith))

module _ (vol : Period → ℕ) (ps : List Period) where
  -- one period more
  pub sum_next : (i sum more : ℕ) → sum ≡ sum_of vol i ps → more ≡ (sum + vol (get_or ps i no_period)) % 2 ^ 64
      → more ≡ sum_of vol (i + 1) ps
  unfolding sum_of
  sum_next i sum more e m = rw (add-one i, ← e) m

  pub sum_none : sum_of vol 0 ps ≡ 0
  unfolding sum_of
  sum_none = refl

  sum_first : (m n : ℕ) → n ≤ m → sum_of vol n (take m ps) ≡ sum_of vol n ps
  unfolding sum_of
  sum_first m zero le = refl
  sum_first m (suc n) le = rw (get_or-take m ps n no_period (omega arith), sum_first m n (omega arith))

  -- the first m by themselves
  pub sum_used : (m : ℕ) → m ≤ length ps → sum_of vol (length (take m ps)) (take m ps) ≡ sum_of vol m ps
  sum_used m le = rw (length-take-le m ps le) (sum_first m m (omega arith))
