-- What a machine writes that answers line by line, whatever the machine: next is its state after a line, say what it
-- writes for a line, close what it writes at the end. Definitions only.
use Rattle.std.specs.Prelude.{ℕ, List, [], ◌∷◌, ◌++◌}
use Rattle.input_lines.specs.Pinned.Lines.{lines_of}

module _ {S : Type 0} (next : S → List ℕ → S) (say : S → List ℕ → List ℕ) where
  -- The answers to lines, in order, and the state after them.
  unfoldable pub said : S → List (List ℕ) → List ℕ
  said s [] = []
  said s (l ∷ ls) = say s l ++ said (next s l) ls

  unfoldable pub after_lines : S → List (List ℕ) → S
  after_lines s [] = s
  after_lines s (l ∷ ls) = after_lines (next s l) ls

  -- The answers to the lines of an input, and then the closing lines.
  unfoldable pub transcript : (S → List ℕ) → S → List ℕ → List ℕ
  transcript close s input = said s (lines_of input) ++ close (after_lines s (lines_of input))
