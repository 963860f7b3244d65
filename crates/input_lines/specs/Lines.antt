-- 01, Message lines: the lines of an input. A line feed, 10, ends a line; the last line may lack it. Definitions only.
use Rattle.std.specs.Prelude.{ℕ, suc, Bool, cond, not, List, [], ◌∷◌, ◌++◌, eqb}

-- How many line feeds there are.
unfoldable pub feeds : List ℕ → ℕ
feeds [] = 0
feeds (b ∷ l) = cond (eqb b 10) (suc (feeds l)) (feeds l)

-- The lines as text again, each with its line feed.
unfoldable pub unlines : List (List ℕ) → List ℕ
unlines [] = []
unlines (l ∷ ls) = l ++ (10 ∷ unlines ls)

-- Whether an input ends within a line; begun says that bytes of a line have come before.
unfoldable pub ends_within : Bool → List ℕ → Bool
ends_within begun [] = begun
ends_within begun (b ∷ l) = ends_within (not (eqb b 10)) l

-- The pieces of an input, one behind the other.
unfoldable pub joined : List (List ℕ) → List ℕ
joined [] = []
joined (c ∷ cs) = c ++ joined cs
