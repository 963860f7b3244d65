-- What an input comes to that is read to its end. No contract can say what the system reads, so this is said of some
-- input: that it is the one read is not said, and a loop that forgot what it read would meet this too. Ruled out are a
-- desk that no input leads to, and a line left under way. Definitions only.
use Rattle.std.specs.Prelude.{◌≡◌, List, [], ℕ, Result, IfOk}
use Rattle.input_desk.specs.declared.{Desk.Desk}
use Rattle.input_pieces.specs.declared.{Session.Session}
use Rattle.input_pieces.specs.Pinned.Session.{desk_of}
use Rattle.input_whole.specs.Transcript.{Through, story_desk, story_told}
use Rattle.standard_input.specs.declared.{InputError.InputError}

-- A desk that an input comes to.
pub record Reached (d : Desk) : Type 0 where
  pub input : List ℕ
  pub desk : d ≡ story_desk (story_told input)

-- The session stands behind an input's last line, and no line is under way.
pub record ReadWhole (s : Session) : Type 0 where
  pub reached : Reached (desk_of s)
  pub part : s.part.len ≡ 0

-- What is handed out has come to the end of an input.
abbrev pub ReadAll : Result Session InputError → Type 0
ReadAll r = IfOk r ReadWhole

-- The same behind what a session has come to.
pub record Finished (s last : Session) : Type 0 where
  pub out : List ℕ
  pub through : Through s [] out (desk_of last)
  pub part : last.part.len ≡ 0
