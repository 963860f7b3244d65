-- The line of a message, as the code returns it. Definitions only.
use Rattle.std.specs.Prelude.{◌-◌, ◌++◌, length, replicate}
use Rattle.line_text.specs.Longest.{longest_line}
use Rattle.line_messages.specs.declared.{Message.Message}
use Rattle.line_messages.specs.Writing.{text_of}
use Rattle.line_writing.specs.declared.{Line.Line}

-- A message's text, with zeros behind it.
unfoldable pub written_line : Message → Line
written_line m = record { len = length (text_of m); bytes = text_of m ++ replicate (longest_line - length (text_of m)) 0 }
