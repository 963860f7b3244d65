-- What passes between the reader of a word and what it asks for. Definitions only.
use Rattle.std.specs.Prelude.{ℕ, cond, ltb, Option, Some, None}

-- What the code read of a word of len bytes, and the position behind it: a value where nothing follows.
abbrev pub whole_of : ℕ → Option (ℕ × ℕ) → Option ℕ
whole_of len (Some (v, next)) = cond (ltb next len) None (Some v)
whole_of len None = None
