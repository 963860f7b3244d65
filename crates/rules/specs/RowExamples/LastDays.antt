-- 3 at the calendar's end: "past the calendar's end no day is later than it", "or e past 73,048". Definitions only.
use Rattle.rules.specs.declared.{Rejection.Rejection}
use Rattle.std.specs.Prelude.{◌≡◌, List, [], ◌∷◌, ◌++◌, ℕ}
use Rattle.dates.specs.Months.{three_months_after}
use Rattle.rules.specs.declared.{Opening.Opening, Action.Action, PointAction.PointAction, Answer.Answer}
use Rattle.rules.specs.Scenes.{Line, ◌gives◌, opening, on, Plays, enrol}

-- Point 1 is served by supplier 1 from day d on.
abbrev served : ℕ → List Line
served d =
    on d (Action.At 1 (enrol 3 0 990 2 0)) gives Answer.Accepted ∷
    on d (Action.At 1 (PointAction.IntoService 1 77)) gives Answer.Accepted ∷ []

-- A request of supplier 2 on day t for day r, the point being served from day t on.
abbrev request_on : ℕ → ℕ → Answer → List Line
request_on t r a = served t ++ (on t (Action.At 1 (PointAction.Request 2 77 r)) gives a ∷ [])

abbrev opens : ℕ → Opening
opens d = opening d 2 30 40 1 2

pub record LastDayExamples : Type 0 where
  -- three months after 30 September 2199 is 30 December; after 1 October it would be past the end, so that the last day
  -- may be asked for
  pub september_30 : three_months_after 72956 ≡ 73047
  pub october_1 : three_months_after 72957 ≡ 73048
  pub request_on_september_30_for_73047 : Plays (opens 72956) (request_on 72956 73047 (Answer.AcceptedOn 73047))
  pub request_on_september_30_for_73048 : Plays (opens 72956) (request_on 72956 73048 (Answer.Refused Rejection.DateIncompatible))
  pub request_on_october_1_for_73048 : Plays (opens 72957) (request_on 72957 73048 (Answer.AcceptedOn 73048))
  -- 21 days after 10 December is the last day; a day later e would be past it, which is 3 and not 20
  pub december_10 : three_months_after 73027 ≡ 73048
  pub december_11 : three_months_after 73028 ≡ 73048
  pub request_on_december_10 : Plays (opens 73027) (request_on 73027 73027 (Answer.AcceptedOn 73048))
  pub request_on_december_11 : Plays (opens 73028) (request_on 73028 73028 (Answer.Refused Rejection.DateIncompatible))
