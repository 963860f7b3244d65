-- What a message is answered, from the register's own numbers and from what the tables have of the point that it
-- names. Definitions only: proofs/Answers has it that this is the answer of the desk.
use Rattle.rules.specs.declared.{Rejection.Rejection}
use Rattle.std.specs.Prelude.{Bool, cond, ◌&&◌, List, ℕ, ◌+◌, ◌-◌, ◌*◌, min, get_or}
use Rattle.rules.specs.declared.{Fields.Fields, Period.Period, Settings.Settings, Action.Action, Answer.Answer}
use Rattle.rules.specs.declared.{View.View}
use Rattle.rules.specs.Answers.{is_accepted}
use Rattle.rules.specs.Fields.{blank}
use Rattle.rules.specs.Pinned.Register.{no_period}
use Rattle.rules.specs.Rejections.{not_point, touches, is_full, any_point, shown, opening_answer}
use Rattle.rules.specs.Effects.{failed, at_point, failing}
use Rattle.point_answers.specs.Between.{answer_apart}
use Rattle.point_effects.specs.Between.{ruling_at}
use Rattle.line_messages.specs.declared.{Message.Message}
use Rattle.input_desk.specs.Pinned.Desk.{unreadable}
use Rattle.input_quiet.specs.Between.Quiet.{seen, view_on}
use Rattle.input_point.specs.declared.{answers.Said.Said}

-- The place of the point that a message names; the first where it names none.
abbrev pub place_in : Action → ℕ
place_in a = at_point 0 (λ p b. cond (not_point p) 0 (p - 1)) a

unfoldable pub place_of : Message → ℕ
place_of (Message.Open o) = 0
place_of (Message.Ask c) = place_in c.action
place_of Message.Unreadable = 0

-- A call that names no point: of a failure number 30 is left open, since that looks at every point.
unfoldable pub apart_said : Settings → ℕ → List Bool → ℕ → Action → Said
apart_said S day u t a =
    failing (Said.Known (answer_apart S day u t a))
    (λ s. cond (is_accepted (answer_apart S day u t a)) (Said.Fails t s) (Said.Known (answer_apart S day u t a))) a

-- f, n and d: the fields of the point that a call names, how many periods it has, the newest one's start.
unfoldable pub call_said : Settings → ℕ → List Bool → ℕ → Action → Fields → ℕ → ℕ → Said
call_said S day u t a f n d =
    at_point (apart_said S day u t a)
    (λ p b. Said.Ruled (ruling_at S day u t p b (view_on S day t (seen f (min n 24) d)))) a

unfoldable pub said_by : Settings → ℕ → List Bool → Bool → Message → Fields → ℕ → ℕ → Said
said_by S day u ready (Message.Open o) f n d = Said.Known (cond ready unreadable (opening_answer o))
said_by S day u ready (Message.Ask c) f n d =
    cond ready (call_said S day u c.today c.action f n d) (Said.Known unreadable)
said_by S day u ready Message.Unreadable f n d = Said.Known unreadable

-- What the tables show of point p on day t.
abbrev pub newest_start : ℕ → ℕ → List Period → ℕ
newest_start i n ss = (get_or ss (24 * i + (min n 24 - 1)) no_period).start

abbrev pub shows : Settings → ℕ → ℕ → List Fields → List ℕ → List Period → ℕ → View
shows S day t fs ns ss p =
    view_on S day t
    (seen (get_or fs (p - 1) blank) (min (get_or ns (p - 1) 0) 24) (newest_start (p - 1) (get_or ns (p - 1) 0) ss))

-- Number 30 of a failure: "for call 2 any point it touches".
unfoldable pub failure_answer : Settings → ℕ → List Fields → List ℕ → List Period → ℕ → ℕ → Answer
failure_answer S day fs ns ss t s =
    cond
    (any_point 1 32
    (λ p. touches s (shown (shows S day t fs ns ss) p).fields
    && is_full (shown (shows S day t fs ns ss) p) (failed S t s (shown (shows S day t fs ns ss) p).fields)))
    (Answer.Refused Rejection.PeriodsFull) Answer.Accepted

-- The answer, where fails tells that of a failure.
abbrev pub settled : (ℕ → ℕ → Answer) → Said → Answer
settled fails (Said.Known a) = a
settled fails (Said.Ruled x) = x.answer
settled fails (Said.Fails t s) = fails t s
