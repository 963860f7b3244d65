-- The answers printed and the closing lines are the day book's, and so is what is asked at the end. The statements are
-- specs/Transcript.antt.
use Rattle.basics.proofs.Basics.{◌≡◌, refl, sym, ◌∙◌, ap, ap₂, true, false, Bool, cond, List, [], ◌∷◌, ◌++◌, map, ℕ}
use Rattle.rules.specs.declared.{Register.Register, Opening.Opening, Call.Call, Span.Span}
use Rattle.rules.specs.Answers.{is_accepted}
use Rattle.rules.specs.Rejections.{opening_answer}
use Rattle.rules.specs.Pinned.Register.{applied}
use Rattle.rules.specs.Pinned.Register as R
use Rattle.rules.specs.DayBook.{Book}
use Rattle.rules.specs.DayBook as D
use Rattle.agreement.proofs.Step.{Agree, says_agree, call_agree, read_now, enrolled_now}
use Rattle.agreement.proofs.Run.{run_agrees}
use Rattle.agreement.proofs.Theorem.{day_book_agrees}
use Rattle.line_messages.specs.declared.{Message.Message}
use Rattle.line_messages.specs.Lines.{kind_of}
use Rattle.line_messages.specs.Pinned.Reading.{read_line}
use Rattle.line_answers.specs.Answers.{answer_line}
use Rattle.questions.proofs.Asking.{asking}
use Rattle.line_listing.proofs.ByBook.{listing_by_book}
use Rattle.input_lines.specs.Pinned.Lines.{lines_of}
use Rattle.input_lines.specs.Pinned.Machine.{said, after_lines, transcript}
use Rattle.register.specs.Pinned.Opens.{no_register}
use Rattle.input_desk.specs.declared.{Desk.Desk}
use Rattle.input_desk.specs.Pinned.Desk.{desk, answer_of, desk_after}
use Rattle.input_pieces.specs.Pinned.Session.{next_desk, say_line}
use Rattle.input_whole.specs.Pinned.Ends.{start_desk, closing}
use Rattle.input_whole.specs.Transcript.{
  closed,
  at,
  book_answer,
  book_after,
  next_book,
  say_book,
  Story,
  untold,
  told,
  calls_in,
  story_of,
  last_desk,
  story_desk,
  book_closing,
  book_output,
  EveryInput,
  EveryOutput,
  EveryDesk,
}
use Rattle.input_whole.proofs.Served.{transcript_served, desk_reached}

-- ---- after the opening

says_same : (l : ℕ → List Span) (n : ℕ → List ℕ) (b : Book) (r : Register) (c : Call) → Agree l n b r → (applied r c).answer ≡ D.says b c
unfolding applied
says_same l n b r c h = sym (says_agree c l n b r h)

open_said : (ls : List (List ℕ)) (l : ℕ → List Span) (n : ℕ → List ℕ) (b : Book) (r : Register) → Agree l n b r →
    said next_desk say_line (desk true r) ls ≡ said next_book say_book (at b) ls
unfolding said answer_of desk_after
open_said [] l n b r h = refl
open_said (x ∷ ls) l n b r h = go (read_line x) (open_said ls l n b r h)
    (λ c. open_said ls (λ p. l p ++ read_now c l n b r h p) (λ p. n p ++ enrolled_now c l n b r h p) (D.next b c) (applied r c).register
    (call_agree c l n b r h))
  where
    go : (m : Message) → said next_desk say_line (desk true r) ls ≡ said next_book say_book (at b) ls →
        ((c : Call) → said next_desk say_line (desk true (applied r c).register) ls ≡ said next_book say_book (at (D.next b c)) ls) →
        answer_line (kind_of m) (answer_of (desk true r) m) ++ said next_desk say_line (desk_after (desk true r) m) ls
        ≡ answer_line (kind_of m) (book_answer (at b) m) ++ said next_book say_book (book_after (at b) m) ls
    go (Message.Open o) same next = rw same
    go (Message.Ask c) same next = rw (says_same l n b r c h, next c)
    go Message.Unreadable same next = rw same

open_after : (ls : List (List ℕ)) (r : Register) →
    after_lines next_desk say_line (desk true r) ls ≡ desk true (R.after r (calls_in (map read_line ls)))
unfolding after_lines calls_in R.after desk_after
open_after [] r = refl
open_after (x ∷ ls) r = go (read_line x) (open_after ls r) (λ c. open_after ls (applied r c).register)
  where
    go : (m : Message) → after_lines next_desk say_line (desk true r) ls ≡ desk true (R.after r (calls_in (map read_line ls))) →
        ((c : Call) → after_lines next_desk say_line (desk true (applied r c).register) ls
        ≡ desk true (R.after (applied r c).register (calls_in (map read_line ls)))) →
        after_lines next_desk say_line (desk_after (desk true r) m) ls ≡ desk true (R.after r (calls_in (m ∷ map read_line ls)))
    go (Message.Open o) same next = same
    go (Message.Ask c) same next = next c
    go Message.Unreadable same next = same

-- ---- from the start, whatever the register that is not looked at

opened_agrees : (o : Opening) → is_accepted (opening_answer o) ≡ true →
    Agree (λ p. D.readings (D.opened o) [] p) (λ p. D.enrolments (D.opened o) [] p) (D.opened o) (R.opened o)
unfolding D.after R.after
opened_agrees o ok = run_agrees o ok []

closed_said : (r : Register) (ls : List (List ℕ)) → said next_desk say_line (desk false r) ls ≡ said next_book say_book closed ls
unfolding said answer_of desk_after
closed_said r [] = refl
closed_said r (x ∷ ls) = go (read_line x) (closed_said r ls)
  where
    opening : (o : Opening) (b : Bool) → is_accepted (opening_answer o) ≡ b →
        said next_desk say_line (desk false r) ls ≡ said next_book say_book closed ls →
        said next_desk say_line (cond b (desk true (R.opened o)) (desk false r)) ls
        ≡ said next_book say_book (cond b (at (D.opened o)) closed) ls
    opening o true e same =
        open_said ls (λ p. D.readings (D.opened o) [] p) (λ p. D.enrolments (D.opened o) [] p) (D.opened o) (R.opened o)
        (opened_agrees o e)
    opening o false e same = same

    go : (m : Message) → said next_desk say_line (desk false r) ls ≡ said next_book say_book closed ls →
        answer_line (kind_of m) (answer_of (desk false r) m) ++ said next_desk say_line (desk_after (desk false r) m) ls
        ≡ answer_line (kind_of m) (book_answer closed m) ++ said next_book say_book (book_after closed m) ls
    go (Message.Open o) same = rw (opening o (is_accepted (opening_answer o)) refl same)
    go (Message.Ask c) same = rw same
    go Message.Unreadable same = rw same

-- ---- the story

-- where a story leaves a desk with this register behind it
abbrev end_of : Register → Story → Desk
end_of r untold = desk false r
end_of r (told o cs) = desk true (R.after (R.opened o) cs)

closed_after : (r : Register) (ls : List (List ℕ)) → after_lines next_desk say_line (desk false r) ls ≡ end_of r (story_of (map read_line ls))
unfolding after_lines story_of desk_after
closed_after r [] = refl
closed_after r (x ∷ ls) = go (read_line x) (closed_after r ls)
  where
    opening : (o : Opening) (b : Bool) → after_lines next_desk say_line (desk false r) ls ≡ end_of r (story_of (map read_line ls)) →
        after_lines next_desk say_line (cond b (desk true (R.opened o)) (desk false r)) ls
        ≡ end_of r (cond b (told o (calls_in (map read_line ls))) (story_of (map read_line ls)))
    opening o true same = open_after ls (R.opened o)
    opening o false same = same

    go : (m : Message) → after_lines next_desk say_line (desk false r) ls ≡ end_of r (story_of (map read_line ls)) →
        after_lines next_desk say_line (desk_after (desk false r) m) ls ≡ end_of r (story_of (m ∷ map read_line ls))
    go (Message.Open o) same = opening o (is_accepted (opening_answer o)) same
    go (Message.Ask c) same = same
    go Message.Unreadable same = same

-- the opening of a story is an accepted one
Accepted : Story → Type 0
Accepted untold = Unit {0}
Accepted (told o cs) = is_accepted (opening_answer o) ≡ true

story_accepted : (ms : List Message) → Accepted (story_of ms)
unfolding story_of Accepted
story_accepted [] = tt
story_accepted (Message.Open o ∷ ms) = go (is_accepted (opening_answer o)) refl (story_accepted ms)
  where
    go : (b : Bool) → is_accepted (opening_answer o) ≡ b → Accepted (story_of ms) → Accepted (cond b (told o (calls_in ms)) (story_of ms))
    go true e same = e
    go false e same = same
story_accepted (Message.Ask c ∷ ms) = story_accepted ms
story_accepted (Message.Unreadable ∷ ms) = story_accepted ms

accepted_told : (s : Story) (o : Opening) (cs : List Call) → s ≡ told o cs → Accepted s → is_accepted (opening_answer o) ≡ true
unfolding Accepted
accepted_told s o cs e h = rw e at h

story_desk_lem : (s : Story) → end_of no_register s ≡ story_desk s
unfolding start_desk
story_desk_lem untold = refl
story_desk_lem (told o cs) = refl

-- the closing lines of the desk that a story comes to
closing_told : (s : Story) → Accepted s → closing (story_desk s) ≡ book_closing s
unfolding Accepted start_desk
closing_told untold h = refl
closing_told (told o cs) h = listing_by_book o h cs

pub every_input : EveryInput
unfolding start_desk
every_input input = let ms = map read_line (lines_of input) in let r = no_register in
    let end : last_desk input ≡ story_desk (story_of ms) = closed_after r (lines_of input) ∙ story_desk_lem (story_of ms) in
    record {
      answers = closed_said r (lines_of input);
      closing_lines = ap closing end ∙ closing_told (story_of ms) (story_accepted ms);
      desk = end;
      opened = λ o cs e.
          let ok = accepted_told (story_of ms) o cs e (story_accepted ms) in (day_book_agrees o ok cs, asking.agree o ok cs);
    }

pub every_output : EveryOutput
unfolding book_output transcript
every_output s st input w h = let t = every_input input in
    transcript_served s st input w h ∙ ap₂ (λ (x y : List ℕ). x ++ y) t.answers t.closing_lines

pub every_desk : EveryDesk
every_desk s st input w d h = desk_reached s st input w d h ∙ (every_input input).desk
