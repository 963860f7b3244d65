-- 01, Message lines: the lines of an input, each up to its line feed, "which the last may lack". The next line is read
-- with a known date, whichever it is; `NextIsLine` says what that comes to. Definitions only.
use Rattle.std.specs.Prelude.{ℕ, suc, ◌+◌, ◌-◌, ◌≡◌, Bool, false, cond, ◌&&◌, List, [], ◌∷◌, eqb, length, take, drop}
use Rattle.line_fields.specs.declared.{KnownDate.KnownDate}
use Rattle.line_fields.specs.Between.Known.{IsKnown}
use Rattle.line_fields.specs.Between.With.{AllWith, fields_in_with}
use Rattle.input_lines.specs.Between.Feeds.{until_feed}
use Rattle.line_kinds.specs.declared.{Kind.Kind}
use Rattle.line_kinds.specs.Pinned.Naming.{kind_named}
use Rattle.line_kinds.specs.Kinds.{shape_of}
use Rattle.line_messages.specs.declared.{Message.Message}
use Rattle.line_messages.specs.Between.Values.{line_message}
use Rattle.line_messages.specs.Pinned.Messages.{message_of}
use Rattle.line_messages.specs.Pinned.Reading.{read_line}
use Rattle.line_next.specs.declared.{NextLine.NextLine}

-- The first line of a text, without its line feed.
abbrev pub first_line : List ℕ → List ℕ
first_line l = take (until_feed l) l

-- A text begins with a line feed.
abbrev pub feed_first : List ℕ → Bool
feed_first [] = false
feed_first (c ∷ l) = eqb c 10

-- How many bytes stand before the first `;` or line feed.
unfoldable pub stop_at : List ℕ → ℕ
stop_at [] = 0
stop_at (c ∷ l) = cond (eqb c 59) 0 (cond (eqb c 10) 0 (suc (stop_at l)))

-- The kind that the first word of a text names, and the fields behind it, read with a known date.
abbrev pub first_kind : List ℕ → Kind
first_kind l = kind_named (take (stop_at l) l)

abbrev pub first_fields : KnownDate → List ℕ → AllWith
first_fields k l = fields_in_with k (shape_of (first_kind l)) (drop (stop_at l) l)

abbrev pub taken : Message → ℕ → KnownDate → NextLine
taken m end k = record { read = line_message m; end = end; known = k }

-- What is taken of a text, which stands at a position: by its fields where a line feed follows them, else by its first
-- line.
abbrev pub taken_by : ℕ → List ℕ → AllWith → NextLine
taken_by from l x =
    cond (x.ok && feed_first x.rest)
    (taken (message_of (first_kind l) x.read) (from + (length l - length x.rest)) x.known)
    (taken (read_line (first_line l)) (from + until_feed l) x.known)

-- What is taken from a position of an input on.
unfoldable pub next_line : KnownDate → List ℕ → ℕ → NextLine
next_line k l from = taken_by from (drop from l) (first_fields k (drop from l))

-- What the first line from a position on says, the position of that line's end, and a date that is a right one.
pub record IsNext (l : List ℕ) (from : ℕ) (t : NextLine) : Type 0 where
  pub read : t.read ≡ line_message (read_line (first_line (drop from l)))
  pub end : t.end ≡ from + until_feed (drop from l)
  pub known : IsKnown t.known

-- With a right known date the next line is the first line, whichever way it is read: `next_is_line` of proofs/
-- proves it.
abbrev pub NextIsLine : Type 0
NextIsLine = (k : KnownDate) (l : List ℕ) (from : ℕ) → IsKnown k → IsNext l from (next_line k l from)
