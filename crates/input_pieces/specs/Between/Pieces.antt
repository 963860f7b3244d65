-- The loop's own parts. Definitions only.
use Rattle.std.specs.Prelude.{ℕ, ◌≡◌, ◌≤◌}
use Rattle.rules.specs.declared.{Answer.Answer}
use Rattle.line_messages.specs.declared.{Message.Message}
use Rattle.input_desk.specs.Pinned.Desk.{answer_of, desk_after}
use Rattle.input_tables.specs.Between.Tables.{Sized}
use Rattle.input_quiet.specs.Between.Quiet.{first_due}
use Rattle.input_pieces.specs.declared.{Session.Session}
use Rattle.input_pieces.specs.Pinned.Session.{desk_of}

-- Nothing falls due before the day quiet.
pub record Calm (s : Session) (quiet : ℕ) : Type 0 where
  pub sized : Sized s.tables.fields s.tables.counts s.tables.slots
  pub due : quiet ≤ first_due s.tables.fields

-- What a message is answered, and the session after it.
pub record Told (s : Session) (m : Message) (a : Answer) (s' : Session) (quiet : ℕ) : Type 0 where
  pub answer : a ≡ answer_of (desk_of s) m
  pub after : desk_of s' ≡ desk_after (desk_of s) m
  pub part : s'.part ≡ s.part
  pub calm : Calm s' quiet
