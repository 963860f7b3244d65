-- 01, Message lines: numbers as decimal text. Definitions only.
use Rattle.std.specs.Prelude.{ℕ, zero, suc, ◌+◌, ◌/◌, ◌%◌, cond, List, ◌∷◌, ltb}

-- The decimal digits of n, no leading zero but 0 itself, at most k of them, in front of the text l; 48 is the byte of
-- 0.
unfoldable pub spell : ℕ → ℕ → List ℕ → List ℕ
spell zero n l = l
spell (suc k) n l = cond (ltb n 10) ((48 + n) ∷ l) (spell k (n / 10) ((48 + n % 10) ∷ l))

-- A number's decimal text in front of l; a number of 64 bits has at most 20 digits.
abbrev pub decimal : ℕ → List ℕ → List ℕ
decimal n l = spell 20 n l

-- The last k digits of n, leading zeros kept, in front of l.
unfoldable pub fixed : ℕ → ℕ → List ℕ → List ℕ
fixed zero n l = l
fixed (suc k) n l = fixed k (n / 10) ((48 + n % 10) ∷ l)
