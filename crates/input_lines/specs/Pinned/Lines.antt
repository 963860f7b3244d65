-- 01, Message lines: the lines of an input. A line feed, 10, ends a line; the last line may lack it. `LinesAre` pins
-- them. Definitions only.
use Rattle.std.specs.Prelude.{ℕ, cond, List, [], ◌∷◌, ◌++◌, eqb}

-- The line that the end of the input ends: none where nothing stands behind the last line feed.
abbrev pub last_line : List ℕ → List (List ℕ)
last_line [] = []
last_line (b ∷ l) = (b ∷ l) ∷ []

-- The lines of an input of which the bytes begun have come before.
unfoldable pub lines_from : List ℕ → List ℕ → List (List ℕ)
lines_from begun [] = last_line begun
lines_from begun (b ∷ l) = cond (eqb b 10) (begun ∷ lines_from [] l) (lines_from (begun ++ (b ∷ [])) l)

unfoldable pub lines_of : List ℕ → List (List ℕ)
lines_of input = lines_from [] input
