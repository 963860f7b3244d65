-- 01, Message lines: the number that a text begins with. Definitions only.
use Rattle.std.specs.Prelude.{ℕ, zero, suc, ◌+◌, ◌-◌, ◌*◌, ◌^◌, Bool, cond, ◌&&◌, List, [], ◌∷◌, ltb, leb, eqb}

-- What a text begins with: a number and what follows it, or none.
pub data Parsed : Type 0 where
  number : ℕ → List ℕ → Parsed
  bad : Parsed

abbrev pub is_digit : ℕ → Bool
is_digit c = leb 48 c && leb c 57

-- The rest of a number whose digits so far are those of v. A thirteenth digit is refused.
unfoldable pub more_of : ℕ → List ℕ → Parsed
more_of v [] = number v []
more_of v (c ∷ l) =
    cond (is_digit c) (cond (ltb v (10 ^ 11)) (more_of (v * 10 + (c - 48)) l) bad) (number v (c ∷ l))

-- 01: "other fields decimal, 1 to 12 digits, no leading zero except 0 itself".
unfoldable pub number_of : List ℕ → Parsed
number_of [] = bad
number_of (c ∷ l) = cond (eqb c 48) (number 0 l) (cond (is_digit c) (more_of (c - 48) l) bad)

-- A number of exactly k digits more, behind those of v.
unfoldable pub fixed_of : ℕ → ℕ → List ℕ → Parsed
fixed_of zero v l = number v l
fixed_of (suc k) v [] = bad
fixed_of (suc k) v (c ∷ l) = cond (is_digit c) (fixed_of k (v * 10 + (c - 48)) l) bad
