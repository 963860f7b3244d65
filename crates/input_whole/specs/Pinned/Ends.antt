-- 01, Message lines: before any input, and at its end. Definitions only.
use Rattle.std.specs.Prelude.{ℕ, ◌+◌, ◌≡◌, false, cond, List, [], ◌∷◌, eqb, length}
use Rattle.line_text.specs.Between.Appending.{put}
use Rattle.input_lines.specs.Between.Begun.{begun_of}
use Rattle.input_desk.specs.declared.{Desk.Desk}
use Rattle.input_desk.specs.Pinned.Desk.{desk}
use Rattle.register.specs.Pinned.Opens.{no_register}
use Rattle.line_listing.specs.declared.{Listed.Listed}
use Rattle.line_listing.specs.Pinned.Pieces
use Rattle.line_listing.specs.Pinned.Listing.{listing}
use Rattle.line_listing.specs.Pinned.Pieces.{piece}
use Rattle.input_pieces.specs.declared.{Session.Session}
use Rattle.input_pieces.specs.Pinned.Session.{desk_of}

-- Before any input: the register of a desk that is not ready is not looked at, and no line has begun.
unfoldable pub start_desk : Desk
start_desk = desk false no_register

pub record Started (s : Session) : Type 0 where
  pub desk : desk_of s ≡ start_desk
  pub part : s.part ≡ begun_of []

-- The line feed that a last line lacks.
abbrev pub missing_feed : Session → List ℕ
missing_feed s = cond (eqb s.part.len 0) [] (10 ∷ [])

-- 01: "At the end come .. its periods .. and `total`": nothing where no register is open.
abbrev pub closing : Desk → List ℕ
closing d = cond d.ready (listing d.register) []

-- What a call writes of the closing lines, where those of the first points are written already, and how far it comes.
abbrev pub closing_piece : Desk → ℕ → ℕ → List ℕ
closing_piece d from room = cond d.ready (piece d.register from room) []

abbrev pub closed_next : Desk → ℕ → ℕ → ℕ
closed_next d from room = cond d.ready (from + Pieces.taken from room) 32

pub record ClosedFrom (d : Desk) (from : ℕ) (before after : List ℕ) (x : Listed) : Type 0 where
  pub bytes : after ≡ put 0 (closing_piece d from (length before)) before
  pub answer : x ≡ record {
    next = closed_next d from (length before);
    written =
        length (closing_piece d from (length before));
  }
