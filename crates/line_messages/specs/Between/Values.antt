-- A message as the code passes it: with its kind, or as its kind and the values of its fields. Definitions only.
use Rattle.std.specs.Prelude.{◌-◌, ◌++◌, length, replicate}
use Rattle.line_fields.specs.Between.Shapes.{most_fields, values_in}
use Rattle.line_messages.specs.declared.{Message.Message, LineMessage.LineMessage, Values.Values}
use Rattle.line_messages.specs.Lines.{Said, kind_of}

abbrev pub line_message : Message → LineMessage
line_message m = record { kind = kind_of m; message = m }

-- The values, and zeros behind them.
abbrev pub values_of : Said → Values
values_of s =
    record {
      kind = s.kind;
      values = values_in s.fields ++ replicate (most_fields - length (values_in s.fields)) 0;
    }
