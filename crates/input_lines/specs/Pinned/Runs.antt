-- A machine that is run byte by byte, as the code runs it. The theorem on the transcript pins it. Definitions only.
use Rattle.std.specs.Prelude.{ℕ, cond, List, [], ◌∷◌, ◌++◌, eqb}
use Rattle.input_lines.specs.Between.Begun.{capped}

-- Where a machine stands: its state, the start of the line that is under way, and what it has written.
pub record Run (S : Type 0) : Type 0 where
  pub state : S
  pub part : List ℕ
  pub out : List ℕ

-- Something was written before.
abbrev pub behind : {S : Type 0} → List ℕ → Run S → Run S
behind o r = record { state = r.state; part = r.part; out = o ++ r.out }

-- A run over bytes, one by one; of a line that has not ended only the first 129 bytes are kept.
module _ {S : Type 0} (next : S → List ℕ → S) (say : S → List ℕ → List ℕ) where
  unfoldable pub run : S → List ℕ → List ℕ → Run S
  run s part [] = record { state = s; part = part; out = [] }
  run s part (b ∷ l) =
      cond (eqb b 10) (behind (say s part) (run (next s part) [] l)) (run s (capped (part ++ (b ∷ []))) l)
