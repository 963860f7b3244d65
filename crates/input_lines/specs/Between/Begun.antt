-- What is kept of a line that has not ended yet. Definitions only.
use Rattle.std.specs.Prelude.{ℕ, ◌+◌, ◌-◌, min, List, ◌++◌, length, take, replicate}
use Rattle.line_text.specs.Longest.{longest_line}
use Rattle.input_lines.specs.declared.{Begun.Begun}

-- A byte more than a line may have is enough to know that it is too long; in the code `KEPT`.
abbrev pub kept_bytes : ℕ
kept_bytes = longest_line + 1

unfoldable pub capped : List ℕ → List ℕ
capped l = take kept_bytes l

-- The bytes that the start of a line holds; a length past kept_bytes counts as kept_bytes.
abbrev pub kept : Begun → List ℕ
kept p = take (min p.len kept_bytes) p.bytes

-- The start of a line that holds these bytes, with zeros behind them.
unfoldable pub begun_of : List ℕ → Begun
begun_of l = record { len = length l; bytes = l ++ replicate (kept_bytes - length l) 0 }
