-- A point's periods: what stands from the i-th on, and one turn of the walk over them.
use Rattle.std.specs.Prelude.{Ok, Err}
use Rattle.basics.proofs.Basics.{◌≡◌, List, [], ◌∷◌, ◌≤◌, ℕ, ◌-◌, ◌+◌, ◌<◌, add-one, arith, eq-eqb, ne_eqb}
use Rattle.basics.proofs.Basics.{length, drop, get_or, drop-cons, drop_of_length-le}
use Rattle.rules.specs.declared.{Period.Period}
use Rattle.rules.specs.Pinned.Register.{no_period}
use Rattle.questions_supplier.specs.declared.{ViewRefusal.ViewRefusal}
use Rattle.questions_supplier.specs.Pinned.Own.{own, end_in, own_in, nth_own}

module _ (ps : List Period) where
  slot : (i : ℕ) → i < length ps → drop i ps ≡ get_or ps i no_period ∷ drop (i + 1) ps
  slot i lt = rw (add-one i) (drop-cons ps i no_period lt)

  none_behind : (i : ℕ) → length ps ≤ i → drop i ps ≡ []
  none_behind i le = drop_of_length-le ps {i = i} le

  -- `seen` of theirs stand before period i: how the n-th is looked for from there on
  module _ (s n seen i : ℕ) where
    pub own_found : i < length ps → (get_or ps i no_period).holder ≡ s → seen + 1 ≡ n → nth_own (n - seen) (own_in s (drop i ps))
        ≡ Ok (own (get_or ps i no_period) (end_in (drop (i + 1) ps)))
    unfolding own_in nth_own
    own_found lt h e = rw (slot i lt, eq-eqb _ _ h, eq-eqb (n - seen) 1 (omega arith))

    pub own_passed : i < length ps → (get_or ps i no_period).holder ≡ s → (seen + 1 ≡ n → ⊥)
        → nth_own (n - seen) (own_in s (drop i ps)) ≡ nth_own (n - (seen + 1)) (own_in s (drop (i + 1) ps))
    unfolding own_in nth_own
    own_passed lt h e = let next : n - (seen + 1) ≡ n - seen - 1 = omega arith in
        rw (next, slot i lt, eq-eqb _ _ h, ne_eqb (n - seen) 1 (λ q. e (omega arith)))

    pub own_other : i < length ps → ((get_or ps i no_period).holder ≡ s → ⊥)
        → nth_own (n - seen) (own_in s (drop i ps)) ≡ nth_own (n - seen) (own_in s (drop (i + 1) ps))
    unfolding own_in
    own_other lt h = rw (slot i lt, ne_eqb _ _ h)

    pub own_none : length ps ≤ i → nth_own (n - seen) (own_in s (drop i ps)) ≡ Err ViewRefusal.OutOfPerimeter
    unfolding own_in nth_own
    own_none le = rw (none_behind i le)
