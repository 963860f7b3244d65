-- 01, Message lines: what is written for the lines of an input, and what a piece of it does to a session. Definitions
-- only.
use Rattle.std.specs.Prelude.{ℕ, ◌/◌, ◌≡◌, Bool, List, ◌++◌, length, take}
use Rattle.rules.specs.declared.{Fields.Fields, Period.Period, Register.Register, Settings.Settings}
use Rattle.rules.specs.Pinned.Register.{register}
use Rattle.line_text.specs.Between.Appending.{put}
use Rattle.line_messages.specs.declared.{LineMessage.LineMessage}
use Rattle.line_messages.specs.Between.Values.{line_message}
use Rattle.line_messages.specs.Lines.{kind_of}
use Rattle.line_messages.specs.Pinned.Reading.{read_line}
use Rattle.line_answers.specs.Answers.{answer_line, longest_answer}
use Rattle.input_lines.specs.Between.Feeds.{fitting}
use Rattle.input_lines.specs.declared.{Begun.Begun}
use Rattle.input_lines.specs.Between.Begun.{capped, kept, begun_of}
use Rattle.input_lines.specs.Pinned.Runs.{Run, run}
use Rattle.input_desk.specs.declared.{Desk.Desk}
use Rattle.input_desk.specs.Pinned.Desk.{desk, answer_of, desk_after}
use Rattle.input_tables.specs.Between.Tables.{points_of}
use Rattle.input_pieces.specs.declared.{Session.Session, Fed.Fed}

-- The register whose points stand in tables, and the desk that a session stands for.
abbrev pub register_in : Settings → ℕ → List Bool → List Fields → List ℕ → List Period → Register
register_in S day u fs ns ss = register S day u (points_of fs ns ss)

abbrev pub desk_of : Session → Desk
desk_of s = desk s.ready (register_in s.settings s.day s.contracts s.tables.fields s.tables.counts s.tables.slots)

-- The desk after a line.
abbrev pub next_desk : Desk → List ℕ → Desk
next_desk d l = desk_after d (read_line l)

-- The line that is written for a line.
abbrev pub say_line : Desk → List ℕ → List ℕ
say_line d l = answer_line (kind_of (read_line l)) (answer_of d (read_line l))

abbrev pub run_of : Desk → List ℕ → List ℕ → Run Desk
run_of d part l = run next_desk say_line d part l

abbrev pub run_from : Session → List ℕ → Run Desk
run_from s piece = run_of (desk_of s) (kept s.part) piece

-- What a line says with its part, where read is what it says by itself.
abbrev pub WholeMessage : Begun → List ℕ → LineMessage → LineMessage → Type 0
WholeMessage p l read m = read ≡ line_message (read_line l) → m ≡ line_message (read_line (capped (kept p ++ l)))

-- A run has come to the session s, n bytes are written, and nothing else of a buffer has changed.
pub record RunTo (r : Run Desk) (before after : List ℕ) (s : Session) (n : ℕ) : Type 0 where
  pub desk : desk_of s ≡ r.state
  pub part : s.part ≡ begun_of r.part
  pub written : n ≡ length r.out
  pub bytes : after ≡ put 0 r.out before

-- Of a piece as many bytes are taken as have lines that can surely be answered.
abbrev pub taken_of : List ℕ → List ℕ → ℕ
taken_of piece out = fitting (length out / longest_answer) piece

pub record FedBy (s : Session) (piece before after : List ℕ) (r : Fed) : Type 0 where
  pub taken : r.taken ≡ taken_of piece before
  pub runs : RunTo (run_from s (take (taken_of piece before) piece)) before after r.session r.written
