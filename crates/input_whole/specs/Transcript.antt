-- A whole input: what the calls of `feed`, `finish` and `close` hand on for writing, in whatever pieces the input
-- comes, and what that means. Definitions only: proofs/Served and proofs/Told prove them.
use Rattle.std.specs.Prelude.{ℕ, ◌≤◌, ◌<◌, ◌≡◌, true, cond, List, [], ◌∷◌, ◌++◌, map, length, take}
use Rattle.rules.specs.declared.{Opening.Opening, Call.Call, Answer.Answer}
use Rattle.rules.specs.Answers.{is_accepted}
use Rattle.rules.specs.Rejections.{opening_answer}
use Rattle.rules.specs.DayBook
use Rattle.rules.specs.DayBook.{Book}
use Rattle.rules.specs.Periods.{register}
use Rattle.agreement.specs.Demand3.{Demand3}
use Rattle.questions.specs.Asking.{Asked}
use Rattle.line_messages.specs.declared.{Message.Message}
use Rattle.line_messages.specs.Lines.{kind_of}
use Rattle.line_messages.specs.Pinned.Reading.{read_line}
use Rattle.line_answers.specs.Answers.{answer_line}
use Rattle.line_listing.specs.declared.{Listed.Listed}
use Rattle.line_listing.specs.ByBook.{book_listing}
use Rattle.input_lines.specs.Pinned.Lines.{lines_of}
use Rattle.input_lines.specs.Pinned.Machine.{said, after_lines, transcript}
use Rattle.input_desk.specs.declared.{Desk.Desk}
use Rattle.input_desk.specs.Pinned.Desk.{desk, unreadable}
use Rattle.input_pieces.specs.declared.{Session.Session, Fed.Fed}
use Rattle.input_pieces.specs.Pinned.Session.{desk_of, next_desk, say_line, FedBy}
use Rattle.input_whole.specs.Pinned.Ends.{start_desk, Started, missing_feed, closing, ClosedFrom}

-- ---- what is handed on for writing

-- `close` again and again, until all 32 points are done.
pub data Closing : Desk → ℕ → List ℕ → Type 0 where
  done : {d : Desk} {from : ℕ} → 32 ≤ from → Closing d from []
  more : {d : Desk} {from : ℕ} {w : List ℕ} (before after : List ℕ) (x : Listed) → ClosedFrom d from before after x →
      Closing d x.next w → Closing d from (take x.written after ++ w)

-- `feed` over pieces, each as far as it was taken, and at the end `finish`, with room for one answer: what is handed
-- on for the lines of an input, and the desk that it comes to.
pub data Through : Session → List ℕ → List ℕ → Desk → Type 0 where
  fed : {s : Session} {piece rest w : List ℕ} {d : Desk} (before after : List ℕ) (f : Fed) →
      FedBy s piece before after f →
      Through f.session rest w d → Through s (take f.taken piece ++ rest) (take f.written after ++ w) d
  ended : {s : Session} (before after : List ℕ) (f : Fed) → FedBy s (missing_feed s) before after f →
      24 ≤ length before →
      Through s [] (take f.written after) (desk_of f.session)

-- And then `close`.
pub data Served : Session → List ℕ → List ℕ → Type 0 where
  served : {s : Session} {input w c : List ℕ} {d : Desk} → Through s input w d → Closing d 0 c → Served s input (w ++ c)

-- However an input is cut, what is handed on is the answers to its lines, in order, and then the closing lines.
abbrev pub TranscriptServed : Type 0
TranscriptServed = (s : Session) → Started s → (input w : List ℕ) → Served s input w →
    w ≡ transcript next_desk say_line closing start_desk input

-- `feed` takes no more than it is handed, and with room for one answer some of it: to hand in the rest again and
-- again takes all.
pub record FeedGoesOn (piece out : List ℕ) (f : Fed) : Type 0 where
  pub most : f.taken ≤ length piece
  pub some : 24 ≤ length out → 0 < length piece → 0 < f.taken

abbrev pub EveryFeedGoesOn : Type 0
EveryFeedGoesOn = (s : Session) (piece before after : List ℕ) (f : Fed) → FedBy s piece before after f →
    FeedGoesOn piece before f

-- ---- what that means: the day book beside it

-- The day book, once a `set` has opened it.
pub data BookDesk : Type 0 where
  closed : BookDesk
  at : Book → BookDesk

abbrev pub book_answer : BookDesk → Message → Answer
book_answer closed (Message.Open o) = opening_answer o
book_answer closed (Message.Ask c) = unreadable
book_answer closed Message.Unreadable = unreadable
book_answer (at b) (Message.Open o) = unreadable
book_answer (at b) (Message.Ask c) = DayBook.says b c
book_answer (at b) Message.Unreadable = unreadable

abbrev pub book_after : BookDesk → Message → BookDesk
book_after closed (Message.Open o) = cond (is_accepted (opening_answer o)) (at (DayBook.opened o)) closed
book_after closed (Message.Ask c) = closed
book_after closed Message.Unreadable = closed
book_after (at b) (Message.Open o) = at b
book_after (at b) (Message.Ask c) = at (DayBook.next b c)
book_after (at b) Message.Unreadable = at b

abbrev pub next_book : BookDesk → List ℕ → BookDesk
next_book b l = book_after b (read_line l)

abbrev pub say_book : BookDesk → List ℕ → List ℕ
say_book b l = answer_line (kind_of (read_line l)) (book_answer b (read_line l))

-- What the messages of an input tell: the first accepted opening, and the calls behind it.
pub data Story : Type 0 where
  untold : Story
  told : Opening → List Call → Story

unfoldable pub calls_in : List Message → List Call
calls_in [] = []
calls_in (Message.Open o ∷ ms) = calls_in ms
calls_in (Message.Ask c ∷ ms) = c ∷ calls_in ms
calls_in (Message.Unreadable ∷ ms) = calls_in ms

unfoldable pub story_of : List Message → Story
story_of [] = untold
story_of (Message.Open o ∷ ms) = cond (is_accepted (opening_answer o)) (told o (calls_in ms)) (story_of ms)
story_of (Message.Ask c ∷ ms) = story_of ms
story_of (Message.Unreadable ∷ ms) = story_of ms

abbrev pub story_told : List ℕ → Story
story_told input = story_of (map read_line (lines_of input))

-- The desk at the end of an input, line by line; and by its story: the register after the calls that its lines read as.
abbrev pub last_desk : List ℕ → Desk
last_desk input = after_lines next_desk say_line start_desk (lines_of input)

abbrev pub story_desk : Story → Desk
story_desk untold = start_desk
story_desk (told o cs) = desk true (register o cs)

-- The closing lines, by the day book and the list alone.
abbrev pub book_closing : Story → List ℕ
book_closing untold = []
book_closing (told o cs) = book_listing o cs

-- All that an input gives, by the day book's definitions alone: the answers to its lines, and the closing lines.
unfoldable pub book_output : List ℕ → List ℕ
book_output input = said next_book say_book closed (lines_of input) ++ book_closing (story_told input)

pub record TranscriptTold (input : List ℕ) : Type 0 where
  -- the answers printed are the day book's for the calls that the lines read as
  pub answers : said next_desk say_line start_desk (lines_of input) ≡
      said next_book say_book closed (lines_of input)
  -- so are the closing lines; there are none where no opening was accepted
  pub closing_lines : closing (last_desk input) ≡ book_closing (story_told input)
  -- the desk holds the register after those calls, of which demand 3 holds, and its questions are answered by the day
  -- book
  pub desk : last_desk input ≡ story_desk (story_told input)
  pub opened : (o : Opening) (cs : List Call) → story_told input ≡ told o cs → Demand3 o cs × Asked o cs

abbrev pub EveryInput : Type 0
EveryInput = (input : List ℕ) → TranscriptTold input

-- What `registre` writes: however an input is cut, the whole of what is handed on is the day book's output.
abbrev pub EveryOutput : Type 0
EveryOutput = (s : Session) → Started s → (input w : List ℕ) → Served s input w → w ≡ book_output input

-- What `ask` asks: the desk that an input comes to, however it is cut.
abbrev pub EveryDesk : Type 0
EveryDesk = (s : Session) → Started s → (input w : List ℕ) (d : Desk) → Through s input w d →
    d ≡ story_desk (story_told input)
