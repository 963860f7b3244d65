-- What passes between functions of the code only: a line as it is written. Definitions only.
use Rattle.std.specs.Prelude.{List, ℕ, replicate, take}
use Rattle.line_text.specs.Between.Appending.{AppendedWithin}
use Rattle.ask_lines.specs.declared.{Line.Line}

-- What stands in a line.
abbrev pub written : Line → List ℕ
written l = take l.len l.text

-- A text of at most k bytes is put behind a line.
abbrev pub Adds : ℕ → List ℕ → Line → Line → Type 0
Adds k t before after = AppendedWithin k before.len t before.text after.text after.len

-- A line that is not begun; and one that holds a text.
abbrev pub no_line : Line
no_line = record { text = replicate 75 0; len = 0 }

abbrev pub Holds : List ℕ → Line → Type 0
Holds t = Adds 75 t no_line
