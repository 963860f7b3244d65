-- What is still to come behind a session leads to a desk of an input.
use Rattle.std.specs.Prelude.{Result, Ok, Err, IfOk}
use Rattle.basics.proofs.Basics.{◌≡◌, List, [], ◌≤◌, ℕ, arith, length, take}
use Rattle.input_desk.specs.declared.{Desk.Desk}
use Rattle.input_pieces.specs.declared.{Session.Session, Fed.Fed}
use Rattle.input_pieces.specs.Pinned.Session.{FedBy}
use Rattle.input_whole.specs.Pinned.Ends.{Started, missing_feed}
use Rattle.input_whole.specs.Transcript.{Through, fed, ended}
use Rattle.input_whole.proofs.Told.{every_desk}
use Rattle.standard_input.specs.declared.{InputError.InputError}
use Rattle.standard_input.specs.Reached.{Reached, ReadAll, Finished}

abbrev pub Leads : Session → Type 0
Leads s = (rest out : List ℕ) (d : Desk) → Through s rest out d → Reached d

pub leads_first : (s : Session) → Started s → Leads s
leads_first s st rest out d h = record { input = rest; desk = every_desk s st rest out d h }

pub leads_on : (s : Session) (piece before after : List ℕ) (f : Fed) → Leads s → FedBy s piece before after f → Leads f.session
leads_on s piece before after f l h rest out d t = l _ _ d (fed before after f h t)

pub leads_last : (s : Session) (r : Result Session InputError) → Leads s → IfOk r (Finished s) → ReadAll r
leads_last s (Ok last) l w = record { reached = l [] w.out _ w.through; part = w.part }
leads_last s (Err e) l w = tt

pub taken_whole : (s : Session) (before after : List ℕ) (f : Fed) → FedBy s (missing_feed s) before after f → 24 ≤ length before
    → f.session.part.len ≤ 0 → Finished s f.session
taken_whole s before after f h room none =
    record { out = take f.written after; through = ended before after f h room; part = omega arith }
