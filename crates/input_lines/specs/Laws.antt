-- What the lines of an input are, told by two laws that leave no other choice. Definitions only: proofs/Lines proves
-- them.
use Rattle.std.specs.Prelude.{ℕ, ◌≡◌, false, cond, List, [], ◌∷◌, ◌++◌}
use Rattle.input_lines.specs.Lines.{feeds, unlines, ends_within}
use Rattle.input_lines.specs.Pinned.Lines.{lines_of}

-- No line has a line feed in it.
pub data Clear : List (List ℕ) → Type 0 where
  none : Clear []
  one : {l : List ℕ} {ls : List (List ℕ)} → feeds l ≡ 0 → Clear ls → Clear (l ∷ ls)

-- The lines, each with a line feed, are the input, with the line feed that its last line may lack.
pub record LinesAre (input : List ℕ) : Type 0 where
  pub clear : Clear (lines_of input)
  pub back : unlines (lines_of input) ≡ input ++ cond (ends_within false input) (10 ∷ []) []
