-- A line of a piece answered, on plain values: what is written so far, then the run from here, is the whole run.
use Rattle.basics.proofs.Basics.{◌≡◌, refl, sym, ◌∙◌, ap, List, [], ◌++◌, append_assoc, append-nil, ◌≤◌, ℕ, ◌-◌}
use Rattle.basics.proofs.Basics.{◌+◌, ◌<◌, suc, ◌*◌, ◌/◌, zero-add, arith, length, drop, take, length-drop}
use Rattle.basics.proofs.Basics.{take-append-drop, length-take-le, drop-drop}
use Rattle.rules.specs.declared.{Answer.Answer}
use Rattle.line_text.specs.Between.Appending.{put, Appended}
use Rattle.line_text.proofs.Appends.{room_put, put_drop, appended_take, appended_length}
use Rattle.line_messages.specs.declared.{Message.Message, LineMessage.LineMessage}
use Rattle.line_messages.specs.Between.Values.{line_message}
use Rattle.line_messages.specs.Lines.{kind_of}
use Rattle.line_messages.specs.Pinned.Reading.{read_line}
use Rattle.line_next.specs.declared.{NextLine.NextLine}
use Rattle.line_next.specs.Between.NextLine.{IsNext}
use Rattle.line_answers.specs.Answers.{answer_line, longest_answer}
use Rattle.line_answers.proofs.LineTexts.{answer_short}
use Rattle.input_lines.specs.declared.{Begun.Begun}
use Rattle.input_lines.specs.Between.Feeds.{until_feed, fitting}
use Rattle.input_lines.specs.Lines.{feeds}
use Rattle.input_lines.specs.Between.Begun.{capped, kept, begun_of}
use Rattle.input_lines.specs.Pinned.Runs.{behind}
use Rattle.input_lines.proofs.Feeds.{feeds_behind, fitting_feeds}
use Rattle.input_lines.proofs.KeptBytes.{kept_le}
use Rattle.input_lines.proofs.Runs.{run_found, run_none}
use Rattle.input_desk.specs.declared.{Desk.Desk}
use Rattle.input_desk.specs.Pinned.Desk.{answer_of, desk_after}
use Rattle.input_desk.proofs.Tabled.{every_answer_tabled, tabled_small}
use Rattle.input_pieces.specs.declared.{Session.Session}
use Rattle.input_pieces.specs.Pinned.Session.{desk_of, next_desk, say_line, run_of, WholeMessage, RunTo}

-- What holds at the loop's head.
pub record Going (piece out₀ : List ℕ) (d₀ : Desk) (part₀ out : List ℕ) (part : Begun) (d : Desk) (at written : ℕ) : Type 0 where
  pub here : at ≤ length piece
  pub room : written + longest_answer * feeds (drop at piece) ≤ length out₀
  pub size : length out ≡ length out₀
  pub tail : drop written out ≡ drop written out₀
  pub does : behind (take written out) (run_of d (kept part) (drop at piece)) ≡ run_of d₀ part₀ piece

pub going_start : (piece out : List ℕ) (d : Desk) (part : Begun) → longest_answer * feeds piece ≤ length out →
    Going piece out d (kept part) out part d 0 0
going_start piece out d part hr = record { here = omega arith; room = omega (arith, hr); size = refl; tail = refl; does = refl }

-- the answer to a line has at most longest_answer bytes
said_short : (d : Desk) (m : Message) → length (answer_line (kind_of m) (answer_of d m)) ≤ longest_answer
said_short d m = let n = tabled_small (answer_of d m) (every_answer_tabled d m) in
    let e : length (answer_line (kind_of m) (answer_of d m)) ≤ 21 + 2 = answer_short (kind_of m) (answer_of d m) 2 (omega arith) n in
    omega arith

abbrev emptied : Begun → Begun
emptied p = record { len = 0; bytes = p.bytes }

-- What a message is answered, and the desk after it.
pub record Turned (d : Desk) (m : Message) (a : Answer) (d' : Desk) : Type 0 where
  pub answer : a ≡ answer_of d m
  pub after : d' ≡ desk_after d m

module _ {piece out₀ : List ℕ} {d₀ : Desk} {part₀ out : List ℕ} {part : Begun} {d : Desk} {at written : ℕ}
    (g : Going piece out₀ d₀ part₀ out part d at written) (end : ℕ) (stops : end ≡ at + until_feed (drop at piece))
    (more : end < length piece) (m : Message) (says : m ≡ read_line (capped (kept part ++ take (end - at) (drop at piece)))) {a : Answer}
    {d' : Desk} (t : Turned d m a d') {out' : List ℕ} {written' : ℕ} (w : Appended written (answer_line (kind_of m) a) out out' written') where
  abbrev text : List ℕ
  text = answer_line (kind_of m) (answer_of d m)

  abbrev l : List ℕ
  l = drop at piece

  within : until_feed l < length l
  within = omega (arith, stops, length-drop at piece, more)

  one_fewer : feeds l ≡ suc (feeds (drop (suc (until_feed l)) l))
  one_fewer = feeds_behind l within

  behind_line : drop (suc (until_feed l)) l ≡ drop (end + 1) piece
  behind_line = let e : at + suc (until_feed l) ≡ end + 1 = omega (arith, stops) in
      drop-drop (suc (until_feed l)) at piece ∙ ap (λ (n : ℕ). drop n piece) e

  appended : Appended written text out out' written'
  appended = rw t.answer at w

  fits : written + length text ≤ length out
  fits = omega (arith, g.room, g.size, one_fewer, said_short d m)

  end_is : written' ≡ written + length text
  end_is = (room_put written text out out' written' appended fits).1

  line_is : take (end - at) l ≡ take (until_feed l) l
  line_is = let e : end - at ≡ until_feed l = omega (arith, stops) in
      ap (λ (n : ℕ). take n l) e

  step : run_of d (kept part) l ≡ behind text (run_of (desk_after d m) [] (drop (end + 1) piece))
  step = run_found next_desk say_line d (kept part) l (kept_le part) within ∙
      rw (← line_is, ← says, behind_line)

  joined : behind (take written out ++ text) (run_of (desk_after d m) [] (drop (end + 1) piece))
      ≡ behind (take written out) (run_of d (kept part) l)
  joined = rw (step, append_assoc)

  line_turn : Going piece out₀ d₀ part₀ out' (emptied part) d' (end + 1) written'
  line_turn =
      record {
        here = omega (arith, more);
        room = omega (arith, g.room, one_fewer, said_short d m, end_is, ap feeds behind_line);
        size = appended_length written text out out' written' appended ∙ g.size;
        tail = rw end_is (ap (drop (written + length text)) (room_put written text out out' written' appended fits).0 ∙
            put_drop written text out fits ∙
            sym (drop-drop (length text) written out) ∙ ap (drop (length text)) g.tail ∙ drop-drop (length text) written out₀);
        does = rw (appended_take written text out out' written' appended fits, t.after) (joined ∙ g.does);
      }

-- no line feed is left: what stands behind the last one is kept
module _ {piece out₀ : List ℕ} {d₀ : Desk} {part₀ out : List ℕ} {part : Begun} {d : Desk} {at written : ℕ}
    (g : Going piece out₀ d₀ part₀ out part d at written) (none : length piece ≤ at + until_feed (drop at piece)) where
  whole : run_of d₀ part₀ piece ≡ record { state = d; part = capped (kept part ++ drop at piece); out = take written out }
  whole = sym g.does ∙
      rw (
        run_none next_desk say_line d (kept part) (drop at piece) (kept_le part) (omega (arith, none, length-drop at piece)),
        append-nil,
      )

  written_le : written ≤ length out
  written_le = omega (arith, g.room, g.size)

  pub going_end : {s : Session} {n : ℕ} {line : List ℕ} → line ≡ drop at piece → s.part ≡ begun_of (capped (kept part ++ line)) →
      desk_of s ≡ d →
      n ≡ written → RunTo (run_of d₀ part₀ piece) out₀ out s n
  unfolding put
  going_end hl hp hd hn =
      record {
        desk = rw whole hd;
        part = rw (whole, ← hl) hp;
        written = rw (whole, length-take-le written out written_le) hn;
        bytes =
            rw (whole, length-take-le written out written_le, zero-add written, ← g.tail) (sym (take-append-drop written out));
      }

-- ---- a piece, as much of it as there is room for

-- the lines that are taken can be answered
pub taken_room : (piece out : List ℕ) (n : ℕ) → n ≡ fitting (length out / longest_answer) piece → longest_answer * feeds (take n piece) ≤ length out
taken_room piece out n e = let k = fitting_feeds (length out / longest_answer) piece in
    let f : feeds (take n piece) ≤ length out / longest_answer = rw (← e) at k in omega (arith, f)

-- a message with its kind
said_is : (r : LineMessage) (m : Message) → r ≡ line_message m → (r.message ≡ m) × (r.kind ≡ kind_of r.message)
said_is r m e = rw e (refl, refl)

-- the line that was read is the one up to the line feed; with the part before it, it says what r says
pub line_done : {piece out₀ : List ℕ} {d₀ : Desk} {part₀ out : List ℕ} {part : Begun} {d : Desk} {at written : ℕ} →
    Going piece out₀ d₀ part₀ out part d at written → {t : NextLine} → IsNext piece at t → t.end < length piece → {r : LineMessage} →
    WholeMessage part (take (t.end - at) (drop at piece)) t.read r → {a : Answer} {d' : Desk} → Turned d r.message a d' →
    {out' : List ℕ} {written' : ℕ} → Appended written (answer_line r.kind a) out out' written' →
    Going piece out₀ d₀ part₀ out' (emptied part) d' (t.end + 1) written'
line_done {piece} {at = at} g {t} right more {r} says turned w = let n : t.end - at ≡ until_feed (drop at piece) = omega (arith, right.end) in
    let s = said_is r _ (says (right.read ∙ ap (λ (k : ℕ). line_message (read_line (take k (drop at piece)))) (sym n))) in
    line_turn g t.end right.end more r.message s.0 turned (rw (← s.1) w)
