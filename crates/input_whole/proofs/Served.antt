-- However an input is cut, what is handed on for writing is its transcript. The statement is specs/Transcript.antt.
use Rattle.basics.proofs.Basics.{◌≡◌, refl, sym, ◌∙◌, ap, ap₂, subst, true, false, Bool, cond, false≢true, List, []}
use Rattle.basics.proofs.Basics.{◌∷◌, ◌++◌, append_assoc, ◌≤◌, ℕ, ◌+◌, ◌/◌, not-suc-le-zero, arith, eqb, length, drop}
use Rattle.basics.proofs.Basics.{take, take_all, drop-length, take-append_seam, ne_eqb, cases}
use Rattle.rules.specs.declared.{Register.Register}
use Rattle.line_text.specs.Between.Appending.{put}
use Rattle.line_listing.specs.declared.{Listed.Listed}
use Rattle.line_listing.specs.Pinned.Listing.{listing, listing_from}
use Rattle.line_listing.specs.Pinned.Pieces.{piece}
use Rattle.line_listing.specs.Pinned.Pieces as L
use Rattle.line_listing.specs.Pinned.Pieces.{left}
use Rattle.line_listing.proofs.Pieces.{pieces_join}
use Rattle.input_lines.specs.declared.{Begun.Begun}
use Rattle.input_lines.specs.Between.Feeds.{fitting}
use Rattle.input_lines.specs.Pinned.Lines.{lines_of}
use Rattle.input_lines.specs.Between.Begun.{kept_bytes, capped, kept, begun_of}
use Rattle.input_lines.specs.Pinned.Machine.{said, after_lines}
use Rattle.input_lines.specs.Pinned.Runs.{Run, run}
use Rattle.input_lines.proofs.Feeds.{fitting_all, fitting_le, fitting_some}
use Rattle.input_lines.proofs.KeptBytes.{kept_begun}
use Rattle.input_lines.proofs.Runs.{run_append, run_part_le, run_lines, run_transcript, last_said, last_state}
use Rattle.input_desk.specs.declared.{Desk.Desk}
use Rattle.input_pieces.specs.declared.{Session.Session}
use Rattle.input_pieces.specs.Pinned.Session.{desk_of, next_desk, say_line, run_of, run_from, taken_of}
use Rattle.input_whole.specs.Pinned.Ends.{start_desk, Started, missing_feed, closing, closing_piece, closed_next}
use Rattle.input_whole.specs.Transcript.{Closing, done, more, Through, fed, ended, served, TranscriptServed, EveryFeedGoesOn, last_desk}
use Rattle.input_pieces.proofs.Capped.{read_capped}
use Rattle.input_whole.proofs.Sized.{Sized, run_sized}

-- what was put at the start of a buffer can be taken from it
put_start : (t o : List ℕ) → take (length t) (put 0 t o) ≡ t
unfolding put
put_start t o = take-append_seam t (drop (0 + length t) o)

-- ---- the closing lines

-- what is still to be listed
abbrev to_list : Desk → ℕ → List ℕ
to_list d from = cond d.ready (left d.register from) []

none_left : (r : Register) (from : ℕ) → length r.points ≡ 32 → from ≡ 32 → left r from ≡ []
unfolding listing_from
none_left r from h e = rw e (ap (listing_from 33) (ap (λ (n : ℕ). drop n r.points) (sym h) ∙ drop-length r.points))

closing_all : {d : Desk} {from : ℕ} {w : List ℕ} → Sized d → from ≤ 32 → Closing d from w → w ≡ to_list d from
closing_all {d} {from} s le (done h) = cases d.ready (λ e. rw e (sym (none_left d.register from (s e) (omega arith)))) (λ e. rw e)
closing_all {d} {from} s le (more {w = w} before after x c rest) = let n = length before in
    let at : x.next ≡ closed_next d from n = ap (λ (y : Listed). y.next) c.answer in
    let long : x.written ≡ length (closing_piece d from n) = ap (λ (y : Listed). y.written) c.answer in
    let text : take x.written after ≡ closing_piece d from n =
    ap₂ (λ (k : ℕ) (o : List ℕ). take k o) long c.bytes ∙ put_start (closing_piece d from n) before
    in
    let tail : w ≡ to_list d (closed_next d from n) = rw at at (closing_all s (rw at (reach d.ready n)) rest) in
    ap₂ (λ (a b : List ℕ). a ++ b) text tail ∙ joins d.ready n
  where
    reach : (b : Bool) (n : ℕ) → cond b (from + L.taken from n) 32 ≤ 32
    reach true n = pieces_join.in_range from n le
    reach false n = omega arith

    joins : (b : Bool) (n : ℕ) →
        cond b (piece d.register from n) [] ++ cond b (left d.register (cond b (from + L.taken from n) 32)) []
        ≡ cond b (left d.register from) []
    joins true n = pieces_join.one d.register from n
    joins false n = refl

closing_from_start : (d : Desk) (w : List ℕ) → Sized d → Closing d 0 w → w ≡ closing d
unfolding listing
closing_from_start d w s h = closing_all s (omega arith) h

-- ---- the last line

-- what is said by the end of an input, and the state there
abbrev said_by : Desk → List ℕ → List ℕ → List ℕ
said_by d l input = last_said next_desk say_line (run_of d l input)

abbrev desk_by : Desk → List ℕ → List ℕ → Desk
desk_by d l input = last_state next_desk say_line (run_of d l input)

-- a run over nothing but the line feed that is missing
abbrev missing : List ℕ → List ℕ
missing l = cond (eqb (length l) 0) [] (10 ∷ [])

last_line : (d : Desk) (l : List ℕ) → ((run_of d l (missing l)).out ≡ said_by d l []) × ((run_of d l (missing l)).state ≡ desk_by d l [])
unfolding run said after_lines
last_line d [] = (refl, refl)
last_line d (b ∷ l) =
    rw (ne_eqb (length (b ∷ l)) 0 (λ e. not-suc-le-zero {n = length l} (omega arith))) (refl, refl)

-- ---- the whole input

module _ (s : Session) (l : List ℕ) (is : s.part ≡ begun_of l) (short : length l ≤ kept_bytes) where
  kept_is : kept s.part ≡ l
  kept_is = ap kept is ∙ kept_begun l short

  run_is : (input : List ℕ) → run_from s input ≡ run_of (desk_of s) l input
  run_is input = ap (λ (p : List ℕ). run_of (desk_of s) p input) kept_is

  missing_is : missing_feed s ≡ missing l
  unfolding begun_of
  missing_is = ap (λ (p : Begun). cond (eqb p.len 0) [] (10 ∷ [])) is

-- an input goes on where its first part stopped
said_append : (d : Desk) (l a rest : List ℕ) →
    said_by d l (a ++ rest) ≡ (run_of d l a).out ++ said_by (run_of d l a).state (run_of d l a).part rest
said_append d l a rest = rw (run_append next_desk say_line d l a rest, append_assoc)

desk_append : (d : Desk) (l a rest : List ℕ) → desk_by d l (a ++ rest) ≡ desk_by (run_of d l a).state (run_of d l a).part rest
desk_append d l a rest = rw (run_append next_desk say_line d l a rest)

missing_short : (b : Bool) → length {A = ℕ} (cond b [] (10 ∷ [])) ≤ 1
missing_short true = omega arith
missing_short false = omega arith

-- what an input's run hands on, where it comes to, and that an open register there has 32 points
pub record Runs (d : Desk) (l input w : List ℕ) (e : Desk) : Type 0 where
  pub text : w ≡ said_by d l input
  pub desk : e ≡ desk_by d l input
  pub sized : Sized e

sized_at : {d e : Desk} → d ≡ e → Sized e → Sized d
sized_at e h = subst (λ (x : Desk). Sized x) (sym e) h

through : {s : Session} {input w : List ℕ} {e : Desk} (l : List ℕ) → s.part ≡ begun_of l → length l ≤ kept_bytes → Sized (desk_of s) →
    Through s input w e → Runs (desk_of s) l input w e
through {s} l is short sized (fed {piece = c} {rest = rest} {w = w} before after f h next) =
    let r = run_from s (take (taken_of c before) c) in let a = take (taken_of c before) c in
    let run = run_is s l is short a in let text : take f.written after ≡ r.out =
    ap₂ (λ (k : ℕ) (o : List ℕ). take k o) h.runs.written h.runs.bytes ∙ put_start r.out before
    in
    let desk_is : desk_of f.session ≡ r.state = h.runs.desk in
    let part_is : f.session.part ≡ begun_of r.part = h.runs.part in
    let taken_is : take f.taken c ≡ a = ap (λ (k : ℕ). take k c) h.taken in
    let part_le : length r.part ≤ kept_bytes = ap_le run (run_part_le next_desk say_line (desk_of s) l a short) in
    let sized' : Sized (desk_of f.session) = sized_at (desk_is ∙ ap (λ (x : Run Desk). x.state) run) (run_sized (desk_of s) l a sized) in
    let tail = through r.part part_is part_le sized' next in
    record {
      text = rw (text, tail.text, desk_is, taken_is, run) (sym (said_append (desk_of s) l a rest));
      desk = rw (tail.desk, desk_is, taken_is, run) (sym (desk_append (desk_of s) l a rest));
      sized = tail.sized;
    }
  where
    ap_le : {x y : Run Desk} → x ≡ y → length y.part ≤ kept_bytes → length x.part ≤ kept_bytes
    ap_le e k = rw e k
through {s} l is short sized (ended before after f h room) =
    let r = run_from s (take (taken_of (missing_feed s) before) (missing_feed s)) in
    let enough : fitting (length before / 24) (missing_feed s) ≡ length (missing_feed s) =
    fitting_all (length before / 24) (missing_feed s) (omega (arith, missing_short (eqb s.part.len 0)))
    in
    let all : take (taken_of (missing_feed s) before) (missing_feed s) ≡ missing l =
    take_all (taken_of (missing_feed s) before) (missing_feed s) (omega (arith, enough)) ∙ missing_is s l is short
    in
    let run : r ≡ run_of (desk_of s) l (missing l) = ap (run_from s) all ∙ run_is s l is short (missing l) in
    let text : take f.written after ≡ r.out =
    ap₂ (λ (k : ℕ) (o : List ℕ). take k o) h.runs.written h.runs.bytes ∙ put_start r.out before
    in
    let desk_is : desk_of f.session ≡ r.state = h.runs.desk in
    record {
      text = rw (text, run) (last_line (desk_of s) l).0;
      desk = rw (desk_is, run) (last_line (desk_of s) l).1;
      sized = sized_at (desk_is ∙ ap (λ (x : Run Desk). x.state) run) (run_sized (desk_of s) l (missing l) sized);
    }

-- a line says what its first bytes, as many as are kept, say
say_capped : (d : Desk) (l : List ℕ) → say_line d (capped l) ≡ say_line d l
say_capped d l = rw (read_capped l)

next_capped : (d : Desk) (l : List ℕ) → next_desk d (capped l) ≡ next_desk d l
next_capped d l = rw (read_capped l)

from_start : (s : Session) → Started s → (input w : List ℕ) (e : Desk) → Through s input w e → Runs start_desk [] input w e
unfolding start_desk
from_start s st input w e h = let sized : Sized (desk_of s) = sized_at st.desk (λ q. absurd (false≢true q)) in
    rw st.desk at (through [] st.part (omega arith) sized h)

pub transcript_served : TranscriptServed
transcript_served s st input v (served {w = w} {c = c} {d = d} h close) = let r = from_start s st input w d h in
    let tail : c ≡ closing (desk_by start_desk [] input) =
    closing_from_start d c r.sized close ∙ ap closing r.desk in
    ap₂ (λ (x y : List ℕ). x ++ y) r.text tail
    ∙ run_transcript next_desk say_line say_capped next_capped closing start_desk input

-- the desk that an input comes to, line by line
pub desk_reached : (s : Session) → Started s → (input w : List ℕ) (d : Desk) → Through s input w d → d ≡ last_desk input
unfolding lines_of capped
desk_reached s st input w d h =
    (from_start s st input w d h).desk ∙ (run_lines next_desk say_line say_capped next_capped start_desk [] input).1

pub every_feed_goes_on : EveryFeedGoesOn
every_feed_goes_on s piece before after f h =
    record {
      most = omega (arith, h.taken, fitting_le (length before / 24) piece);
      some = λ room any. omega (arith, h.taken, fitting_some (length before / 24) piece (omega arith) any);
    }
