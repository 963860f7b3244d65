-- No more is taken than the part of a buffer that was handed in.
use Rattle.basics.proofs.Basics.{List, ◌≤◌, ℕ, ◌-◌, ◌/◌, arith, length, drop, take, length-take}
use Rattle.input_lines.proofs.Feeds.{fitting_le}
use Rattle.input_pieces.specs.declared.{Session.Session, Fed.Fed}
use Rattle.input_pieces.specs.Pinned.Session.{FedBy}

pub part_taken : (s : Session) (input : List ℕ) (from end : ℕ) (before after : List ℕ) (f : Fed) →
    FedBy s (take (end - from) (drop from input)) before after f → f.taken ≤ end - from
part_taken s input from end before after f h = let piece = take (end - from) (drop from input) in
    omega (arith, h.taken, fitting_le (length before / 24) piece, length-take (end - from) (drop from input))
