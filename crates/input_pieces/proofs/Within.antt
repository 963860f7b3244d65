-- What is written stands within the buffer.
use Rattle.basics.proofs.Basics.{◌≡◌, ap, List, ◌≤◌, ℕ, ◌+◌, arith, length, drop, length-append}
use Rattle.line_text.specs.Between.Appending.{put}
use Rattle.input_pieces.specs.declared.{Session.Session, Fed.Fed}
use Rattle.input_pieces.specs.Pinned.Session.{FedBy}

pub put_within : (t o after : List ℕ) → after ≡ put 0 t o → length t ≤ length after
unfolding put
put_within t o after e = omega (arith, ap length e, length-append t (drop (0 + length t) o))

pub fed_within : (s : Session) (piece before after : List ℕ) (f : Fed) → FedBy s piece before after f → f.written ≤ length after
fed_within s piece before after f h = omega (arith, h.runs.written, put_within _ before after h.runs.bytes)
