-- The desk after an accepted message, and after a refused one.
use Rattle.basics.proofs.Basics.{◌≡◌, refl, sym, ◌∙◌, true, false, Bool, cond, ◌&&◌, false≢true, not}
use Rattle.rules.specs.declared.{Opening.Opening, Outcome.Outcome}
use Rattle.rules.specs.Answers.{is_accepted}
use Rattle.rules.specs.Rejections.{opening_answer}
use Rattle.rules.specs.Pinned.Register.{says, advanced, done, opened, applied}
use Rattle.register.specs.Pinned.Opens.{opened_over}
use Rattle.line_messages.specs.declared.{Message.Message}
use Rattle.input_desk.specs.declared.{Desk.Desk}
use Rattle.input_desk.specs.Pinned.Desk.{desk, unreadable, answer_of, desk_after}

-- a refused message changes nothing
pub refused_after : (d : Desk) (m : Message) → is_accepted (answer_of d m) ≡ false → desk_after d m ≡ d
unfolding answer_of desk_after applied
refused_after d (Message.Open o) h = go d.ready (is_accepted (opening_answer o)) refl h
  where
    go : (b a : Bool) → is_accepted (opening_answer o) ≡ a → is_accepted (cond b unreadable (opening_answer o)) ≡ false →
        cond (not b && a) (desk true (opened o)) d ≡ d
    go true a e k = refl
    go false true e k = absurd (false≢true (sym k ∙ e))
    go false false e k = refl
refused_after d (Message.Ask c) h = go d.ready refl h
  where
    go : (b : Bool) → d.ready ≡ b → is_accepted (cond b (says d.register c) unreadable) ≡ false →
        cond b (desk true (cond (is_accepted (says d.register c)) (done c.today c.action (advanced c.today d.register)) d.register))
        d ≡ d
    go true e k = rw (k, ← e)
    go false e k = refl
refused_after d Message.Unreadable h = refl

-- what an opening does where no register is open
pub opening_after : (d : Desk) (o : Opening) (x : Outcome) (b : Bool) → d.ready ≡ false → x ≡ opened_over d.register o →
    b ≡ is_accepted x.answer → desk b x.register ≡ desk_after d (Message.Open o)
unfolding desk_after opened_over
opening_after d o x b h e k = rw (k, e) (go (is_accepted (opening_answer o)))
  where
    go : (a : Bool) → desk a (cond a (opened o) d.register) ≡ cond (not d.ready && a) (desk true (opened o)) d
    go true = rw h
    go false = rw h
