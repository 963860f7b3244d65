-- 01, Message lines: which messages can be written, and the line that is written. Definitions only.
use Rattle.std.specs.Prelude.{ℕ, Bool, false, cond, List, []}
use Rattle.line_fields.specs.Fields.{fit_all}
use Rattle.line_messages.specs.declared.{Message.Message}
use Rattle.line_messages.specs.Lines.{said, line_of}

-- Each day is in the calendar, and each number has at most 12 digits.
unfoldable pub is_writable : Message → Bool
is_writable (Message.Open o) = fit_all (said (Message.Open o)).fields
is_writable (Message.Ask c) = fit_all (said (Message.Ask c)).fields
is_writable Message.Unreadable = false

-- The text that is written: no byte for a message that is not writable.
unfoldable pub text_of : Message → List ℕ
text_of m = cond (is_writable m) (line_of m) []
