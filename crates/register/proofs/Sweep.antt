-- A loop that changes each element of an array in turn: after i turns the first i are changed.
use Rattle.basics.proofs.Basics.{◌≡◌, refl, ap, List, [], ◌∷◌, ◌++◌, map, ◌≤◌, ℕ, ◌+◌, ◌<◌, suc, zero, add-one, arith}
use Rattle.basics.proofs.Basics.{length, drop, take, get_or, set}

abbrev pub swept : {A : Type 0} → (A → A) → ℕ → List A → List A
swept f i l = map f (take i l) ++ drop i l

module _ {A : Type 0} (f : A → A) where
  swept_next : (l : List A) (i : ℕ) (d : A) → i < length l
      → set (swept f i l) i (f (get_or (swept f i l) i d)) ≡ swept f (suc i) l
  swept_next [] i d h = absurd (omega arith)
  swept_next (x ∷ l) zero d h = refl
  swept_next (x ∷ l) (suc i) d h = ap (λ (r : List A). f x ∷ r) (swept_next l i d (omega arith))

  pub swept_more : (l : List A) (i : ℕ) (d : A) → i < length l
      → set (swept f i l) i (f (get_or (swept f i l) i d)) ≡ swept f (i + 1) l
  swept_more l i d h = rw (add-one i) (swept_next l i d h)

  pub swept_all : (l : List A) (i : ℕ) → length l ≤ i → swept f i l ≡ map f l
  swept_all [] zero h = refl
  swept_all [] (suc i) h = refl
  swept_all (x ∷ l) zero h = absurd (omega arith)
  swept_all (x ∷ l) (suc i) h = ap (λ (r : List A). f x ∷ r) (swept_all l i (omega arith))
