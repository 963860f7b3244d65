-- Writing a text into a lent buffer from a position on. Definitions only.
use Rattle.std.specs.Prelude.{ℕ, ◌+◌, ◌≤◌, ◌≡◌, Bool, cond, List, ◌++◌, leb, length, take, drop}

-- The buffer o with the text t from the position at on: what stands before it and behind it stays.
unfoldable pub put : ℕ → List ℕ → List ℕ → List ℕ
put at t o = take at o ++ (t ++ drop (at + length t) o)

-- A buffer of len bytes has n from the position at on.
abbrev pub has_room : ℕ → ℕ → ℕ → Bool
has_room len at n = leb (at + n) len

-- What a writer does: where there is room the text is put, and the next position is the one behind it; else nothing
-- changes.
pub record Appended (at : ℕ) (t before after : List ℕ) (next : ℕ) : Type 0 where
  pub bytes : after ≡ cond (has_room (length before) at (length t)) (put at t before) before
  pub end : next ≡ cond (has_room (length before) at (length t)) (at + length t) at

-- A text that is put, and is at most n bytes long.
pub record AppendedWithin (n at : ℕ) (t before after : List ℕ) (next : ℕ) : Type 0 where
  pub text : Appended at t before after next
  pub short : length t ≤ n
