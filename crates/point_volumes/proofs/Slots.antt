-- Booking the slots, one turn of the loop: the newest of the first i is booked, and it is the last or the next older one follows.
use Rattle.basics.proofs.Basics.{◌≡◌, refl, ◌∙◌, List, ◌++◌, ◌≤◌, ℕ, ◌-◌, ◌<◌, suc, zero, arith, get_or, set, le-leb, lt-leb, leb, cases}
use Rattle.basics.proofs.Basics.{length, take, drop, length-take-le, get_or-take}
use Rattle.std.proofs.lemmas.List.{drop-set-lt, take-append-drop}
use Rattle.std.proofs.Math.Seq.{take-set-lt}
use Rattle.rules.specs.declared.{Period.Period, Span.Span}
use Rattle.rules.specs.Pinned.Register.{no_period, booked_period, booked_slots}

module _ (s : Span) (e : ℕ) where
  pub slots_last : (i : ℕ) (ps : List Period) → 0 < i → (get_or ps (i - 1) no_period).start ≤ s.from
      → booked_slots s e i ps ≡ set ps (i - 1) (booked_period s e (get_or ps (i - 1) no_period))
  unfolding booked_slots
  slots_last zero ps h le = absurd (omega arith)
  slots_last (suc i) ps h le = let k : suc i - 1 ≡ i = omega arith in
      let l : (get_or ps i no_period).start ≤ s.from = rw k at le in rw (k, le-leb _ _ l)

  pub slots_on : (i : ℕ) (ps : List Period) → 0 < i → s.from < (get_or ps (i - 1) no_period).start → booked_slots s e i ps
      ≡ booked_slots s (get_or ps (i - 1) no_period).start (i - 1) (set ps (i - 1) (booked_period s e (get_or ps (i - 1) no_period)))
  unfolding booked_slots
  slots_on zero ps h lt = absurd (omega arith)
  slots_on (suc i) ps h lt = let k : suc i - 1 ≡ i = omega arith in
      let l : s.from < (get_or ps i no_period).start = rw k at lt in rw (k, lt-leb _ _ l)

  pub slots_none : (ps : List Period) → booked_slots s e 0 ps ≡ ps
  unfolding booked_slots
  slots_none ps = refl

module _ (s : Span) where
  -- the first n of the first m, and what stands behind them
  slots_first : (m n e : ℕ) (ps : List Period) → n ≤ m → booked_slots s e n (take m ps) ≡ take m (booked_slots s e n ps)
  unfolding booked_slots
  slots_first m zero e ps le = refl
  slots_first m (suc n) e ps le =
      let q = get_or ps n no_period in let x = booked_period s e q in
      rw (get_or-take m ps n no_period (omega arith), ← (take-set-lt m ps n x (omega arith)))
      (cases (leb q.start s.from) (λ l. rw l) (λ l. rw l (slots_first m n q.start (set ps n x) (omega arith))))

  slots_behind : (m n e : ℕ) (ps : List Period) → n ≤ m → drop m (booked_slots s e n ps) ≡ drop m ps
  unfolding booked_slots
  slots_behind m zero e ps le = refl
  slots_behind m (suc n) e ps le =
      let q = get_or ps n no_period in let x = booked_period s e q in let k = drop-set-lt m ps n x (omega arith) in
      cases (leb q.start s.from) (λ l. rw l k) (λ l. rw l (slots_behind m n q.start (set ps n x) (omega arith) ∙ k))

  -- the first n booked by themselves, before the others
  pub slots_used : (n e : ℕ) (ps : List Period) → n ≤ length ps
      → booked_slots s e (length (take n ps)) (take n ps) ++ drop n ps ≡ booked_slots s e n ps
  slots_used n e ps le = rw (length-take-le n ps le, slots_first n n e ps (omega arith), ← (slots_behind n n e ps (omega arith)))
      (take-append-drop n (booked_slots s e n ps))
