-- Loops that fill an array in turn: all n places, after i turns the first i are those of the list m; and a slice of it
-- written over.
use Rattle.basics.proofs.Basics.{◌≡◌, sym, ◌∙◌, List, ◌≤◌, ℕ, ◌+◌, ◌-◌, ◌<◌, add-one, arith, length, take, get_or, set}
use Rattle.basics.proofs.Basics.{length-set, take_all, paste, take-suc}
use Rattle.basics.proofs.Basics.{take-suc-set}
use Rattle.std.proofs.lemmas.Slice.{put_mid-paste}
use borrow.Rule.Slice.PartMut.{put_mid}

abbrev pub Filled : {A : Type 0} → ℕ → List A → List A → ℕ → Type 0
Filled n m out i = (length m ≡ n) × (length out ≡ n) × (take i out ≡ take i m)

module _ {A : Type 0} {n : ℕ} (m out : List A) where
  pub filled_next : (i : ℕ) {a : A} (d : A) → i < n → Filled n m out i → a ≡ get_or m i d → Filled n m (set out i a) (i + 1)
  filled_next i {a} d h (e, k, t) z = let l : i < length out = omega arith in let r : i < length m = omega arith in
      (e, length-set out i a ∙ k, rw (add-one i, take-suc-set out i a l, take-suc m i d r, t, z))

  pub filled_all : (i : ℕ) → n ≤ i → Filled n m out i → out ≡ m
  filled_all i h (e, k, t) = sym (take_all i out (omega arith)) ∙ t ∙ take_all i m (omega arith)

-- A slice of 24 written over.
pub pasted_mid : {A : Type 0} (d s new : List A) (at : ℕ) → new ≡ s → length s ≡ 24 → put_mid at (at + 24 - at) d new ≡ paste d at s 24
pasted_mid d s new at e l = put_mid-paste at (at + 24 - at) d new s 24 e (omega arith) (sym l)
