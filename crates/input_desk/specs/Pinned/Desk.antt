-- 01, Message lines: what a message is answered, and what it changes, before and after the register is opened.
-- Definitions only.
use Rattle.rules.specs.declared.{Rejection.Rejection}
use Rattle.std.specs.Prelude.{Bool, true, cond, not, ◌&&◌}
use Rattle.rules.specs.declared.{Register.Register, Answer.Answer}
use Rattle.rules.specs.Answers.{is_accepted}
use Rattle.rules.specs.Rejections.{opening_answer}
use Rattle.rules.specs.Pinned.Register.{applied, opened}
use Rattle.line_messages.specs.declared.{Message.Message}
use Rattle.input_desk.specs.declared.{Desk.Desk}

abbrev pub desk : Bool → Register → Desk
desk b r = record { ready = b; register = r }

-- "unreadable line"
abbrev pub unreadable : Answer
unreadable = Answer.Refused Rejection.UnreadableLine

-- "Until a `set` is accepted every other line gives 31, and so does a later `set`."
unfoldable pub answer_of : Desk → Message → Answer
answer_of d (Message.Open o) = cond d.ready unreadable (opening_answer o)
answer_of d (Message.Ask c) = cond d.ready (applied d.register c).answer unreadable
answer_of d Message.Unreadable = unreadable

-- "A refused opening opens no register."
unfoldable pub desk_after : Desk → Message → Desk
desk_after d (Message.Open o) = cond (not d.ready && is_accepted (opening_answer o)) (desk true (opened o)) d
desk_after d (Message.Ask c) = cond d.ready (desk true (applied d.register c).register) d
desk_after d Message.Unreadable = d
