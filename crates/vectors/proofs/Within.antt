-- What is taken of a piece stays within the piece, and so within what is left.
use Rattle.basics.proofs.Basics.{List, ◌≤◌, ℕ, ◌/◌, length, take, length-take, arith}
use Rattle.input_lines.proofs.Feeds.{fitting_le}
use Rattle.input_pieces.specs.declared.{Session.Session, Fed.Fed}
use Rattle.input_pieces.specs.Pinned.Session.{FedBy}

-- no more is taken of a piece than it has
taken_within : (s : Session) (piece before after : List ℕ) (f : Fed) → FedBy s piece before after f →
    f.taken ≤ length piece
taken_within s piece before after f h = omega (arith, h.taken, fitting_le (length before / 24) piece)

-- and so no more than is left, of which the piece is the first n bytes
pub taken_of : (s : Session) (n : ℕ) (rest before after : List ℕ) (f : Fed) → FedBy s (take n rest) before after f →
    (f.taken ≤ n) × (f.taken ≤ length rest)
taken_of s n rest before after f h = let t = taken_within s (take n rest) before after f h in
    let l = length-take n rest in (omega arith, omega arith)
