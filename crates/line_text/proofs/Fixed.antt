-- Texts of a fixed number of digits: what stands behind them, and how many they are.
use Rattle.basics.proofs.Basics.{◌≡◌, refl, sym, ◌∙◌, List, ◌∷◌, ◌++◌, ℕ, ◌+◌, suc, zero, ◌/◌, ◌%◌, zero-add, arith}
use Rattle.basics.proofs.Basics.{length}
use Rattle.line_text.specs.Decimal.{fixed}

-- what stands behind the digits does not change them, and there are k of them
pub fixed_append : (k n : ℕ) (l m : List ℕ) → fixed k n (l ++ m) ≡ fixed k n l ++ m
unfolding fixed
fixed_append zero n l m = refl
fixed_append (suc k) n l m = fixed_append k (n / 10) ((48 + n % 10) ∷ l) m

pub fixed_length : (k n : ℕ) (l : List ℕ) → length (fixed k n l) ≡ k + length l
unfolding fixed
fixed_length zero n l = sym (zero-add (length l))
fixed_length (suc k) n l = fixed_length k (n / 10) ((48 + n % 10) ∷ l) ∙ omega arith
