-- Document 01, "The day book": the reference machine. Definitions only.
--
-- Cell                  a point's gas day: its holder and its start mark
-- Page                  a point: its fields, and its cells, today's first and the first day's last
-- Book                  the register's day, who is under contract, and the page of each point
-- new_day               one point on a new gas day; `go_on`: all points, n days one at a time
-- says                  the answer to a call; `next`: the book after it
-- answers               the answers to a list of calls; `after`: the book after it
-- readings, enrolments  what the list's accepted calls say of a point, worked out from the list
use Rattle.std.specs.Prelude.{Bool, true, false, cond, List, [], ◌∷◌, ◌++◌, ℕ, zero, suc, ◌-◌}
use Rattle.rules.specs.declared.{Fields.Fields, Settings.Settings, Span.Span, Opening.Opening, Call.Call}
use Rattle.rules.specs.declared.{Answer.Answer, Effect.Effect, View.View}
use Rattle.rules.specs.Fields.{blank}
use Rattle.rules.specs.Effects.{fields_of, names, spans_in, enrols, event, effect, signed}
use Rattle.rules.specs.Answers.{is_accepted}
use Rattle.rules.specs.Rejections.{answer}
use Rattle.rules.specs.Opening.{settings_of, first_contracts}

-- "one cell for each point and gas day: a holder and a start mark"
pub data Cell : Type 0 where
  cell : ℕ → ℕ → Bool → Cell

-- "It has the fields above except periods"
pub record Page : Type 0 where
  pub fields : Fields
  pub cells : List Cell

pub record Book : Type 0 where
  pub settings : Settings
  pub day : ℕ
  pub contracts : List Bool
  pub page : ℕ → Page

-- "that day's cell is overwritten with it and marked"
abbrev pub overwritten : ℕ → List Cell → List Cell
overwritten h [] = []
overwritten h (cell d k m ∷ cs) = cell d h true ∷ cs

-- "Wherever an event or an accepted call names a holder, even the present one"
abbrev pub written : Effect → List Cell → Page
written e cs =
    record { fields = fields_of e; cells = cond (names e) (overwritten (fields_of e).supply.holder cs) cs }

-- "On each new day the cell takes the holder, unmarked; then, per point:" the event of the day.
unfoldable pub new_day : Settings → ℕ → Page → Page
new_day S t g = written (event S t g.fields) (cell t g.fields.supply.holder false ∷ g.cells)

-- "It goes one day at a time to the day of the call."
unfoldable pub go_on : ℕ → Book → Book
go_on zero b = b
go_on (suc n) b =
    go_on n
    (record {
      settings = b.settings;
      day = suc b.day;
      contracts = b.contracts;
      page = λ p. new_day b.settings (suc b.day) (b.page p);
    })

abbrev pub up_to_day : ℕ → Book → Book
up_to_day t b = go_on (t - b.day) b

abbrev pub count_marks : List Cell → ℕ
count_marks [] = 0
count_marks (cell d h true ∷ cs) = suc (count_marks cs)
count_marks (cell d h false ∷ cs) = count_marks cs

abbrev pub is_marked : List Cell → Bool
is_marked [] = false
is_marked (cell d h m ∷ cs) = m

abbrev pub look : Page → View
look g = record { fields = g.fields; marks = count_marks g.cells; marked = is_marked g.cells }

-- "Checks look at the state brought up to today"
unfoldable pub says : Book → Call → Answer
says b c = answer b.settings b.day b.contracts c (λ p. look ((up_to_day c.today b).page p))

-- "Then the call."
abbrev pub entered : Call → Book → Book
entered c b =
    record {
      settings = b.settings;
      day = b.day;
      contracts = signed c.action b.contracts;
      page = λ p. written (effect b.settings c.today c.action p (b.page p).fields) (b.page p).cells;
    }

-- "a refused call changes nothing, the register's day included"
unfoldable pub next : Book → Call → Book
next b c = cond (is_accepted (says b c)) (entered c (up_to_day c.today b)) b

unfoldable pub answers : Book → List Call → List Answer
answers b [] = []
answers b (c ∷ cs) = says b c ∷ answers (next b c) cs

unfoldable pub after : Book → List Call → Book
after b [] = b
after b (c ∷ cs) = after (next b c) cs

-- "It starts from an accepted opening, with no point enrolled and no cell marked"
unfoldable pub opened : Opening → Book
opened o =
    record {
      settings = settings_of o;
      day = o.day;
      contracts = first_contracts (settings_of o);
      page = λ p. record { fields = blank; cells = cell o.day 0 false ∷ [] };
    }

-- What an accepted call does to point p, today.
abbrev pub does : Book → Call → ℕ → Effect
does b c p = effect b.settings c.today c.action p ((up_to_day c.today b).page p).fields

-- The readings of point p that the list's accepted calls make, in their order.
unfoldable pub readings : Book → List Call → ℕ → List Span
readings b [] p = []
readings b (c ∷ cs) p = cond (is_accepted (says b c)) (spans_in (does b c p)) [] ++ readings (next b c) cs p

-- "A point's enrolment is the day of its accepted call 3."
unfoldable pub enrolments : Book → List Call → ℕ → List ℕ
enrolments b [] p = []
enrolments b (c ∷ cs) p =
    cond (is_accepted (says b c)) (cond (enrols (does b c p)) (c.today ∷ []) []) []
    ++ enrolments (next b c) cs p
