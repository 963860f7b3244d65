-- 01, Message lines: what a line says. `OneLine` pins these definitions to `line_of`. Definitions only.
use Rattle.std.specs.Prelude.{ℕ, suc, cond, List, [], ◌∷◌, leb, eqb, length, take, drop}
use Rattle.line_text.specs.Longest.{longest_line}
use Rattle.line_fields.specs.Between.Shapes.{sorts_of}
use Rattle.line_fields.specs.Pinned.Reading.{AllParsed, values, unread, fields_of}
use Rattle.line_kinds.specs.declared.{Kind.Kind}
use Rattle.line_kinds.specs.Kinds.{shape_of}
use Rattle.line_kinds.specs.Pinned.Naming.{kind_named}
use Rattle.line_messages.specs.declared.{Message.Message}
use Rattle.line_messages.specs.Pinned.Messages.{message_of}

-- How many bytes stand before the first `;`.
unfoldable pub word_end : List ℕ → ℕ
word_end [] = 0
word_end (c ∷ l) = cond (eqb c 59) 0 (suc (word_end l))

-- A line of a kind with the fields that follow its word, and nothing behind them.
abbrev pub message_with : Kind → AllParsed → Message
message_with k (values vs []) = message_of k vs
message_with k (values vs (c ∷ r)) = Message.Unreadable
message_with k unread = Message.Unreadable

abbrev pub message_as : Kind → List ℕ → Message
message_as k l = message_with k (fields_of (sorts_of (shape_of k)) [] l)

-- 02, F-4: "a line may have 128 bytes"; 01: "without its line feed".
unfoldable pub read_line : List ℕ → Message
read_line l =
    cond (leb (length l) longest_line) (message_as (kind_named (take (word_end l) l)) (drop (word_end l) l))
    Message.Unreadable
