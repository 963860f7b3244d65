-- The same rules with other settings, other suppliers and other meters than those of the other examples: W = 3, A =
-- 25, B = 60, default supplier 9, last-resort supplier 4; wheels behind the comma; suppliers on either side of the
-- one that a call names. Definitions only.
use Rattle.rules.specs.declared.{Rejection.Rejection}
use Rattle.std.specs.Prelude.{true, false, List, [], ◌∷◌, ◌++◌, ℕ}
use Rattle.rules.specs.declared.{Code.Code, Fields.Fields, Supply.Supply, Period.Period, SupplyKind.SupplyKind}
use Rattle.rules.specs.declared.{Pending.Pending, Opening.Opening, Action.Action, PointAction.PointAction}
use Rattle.rules.specs.declared.{Answer.Answer}
use Rattle.rules.specs.Fields.{supply, meter, reading, fields, unsupplied}
use Rattle.rules.specs.Pinned.Register.{period}
use Rattle.rules.specs.Scenes.{Line, ◌gives◌, opening, on, Plays, Keeps, Shows, enrol, change}

abbrev opens : ℕ → Opening
opens d = opening d 3 25 60 9 4

-- From day d on suppliers 5, 6, 7 and 99 are under contract; point 1 is served by 5, point 2 by 6, point 3 by 7;
-- point 4 was never served.
abbrev ready : ℕ → List Line
ready d =
    on d (Action.Contract 5) gives Answer.Accepted ∷ on d (Action.Contract 6) gives Answer.Accepted ∷
    on d (Action.Contract 7) gives Answer.Accepted ∷
    on d (Action.Contract 99) gives Answer.Accepted ∷
    on d (Action.At 1 (enrol 3 0 990 2 0)) gives Answer.Accepted ∷
    on d (Action.At 1 (PointAction.IntoService 5 77)) gives Answer.Accepted ∷
    on d (Action.At 2 (enrol 3 0 990 2 0)) gives Answer.Accepted ∷
    on d (Action.At 2 (PointAction.IntoService 6 77)) gives Answer.Accepted ∷
    on d (Action.At 3 (enrol 3 0 990 2 0)) gives Answer.Accepted ∷
    on d (Action.At 3 (PointAction.IntoService 7 77)) gives Answer.Accepted ∷
    on d (Action.At 4 (enrol 3 0 990 2 0)) gives Answer.Accepted ∷ []

abbrev kept : Supply → Fields
kept s = fields true s 77 0 (meter 3 0 Code.Normal) (reading 10 990)

abbrev Then : List Line → Type 0
Then ls = Plays (opens 10) (ready 10 ++ ls)

abbrev ThenKeeps : List Line → ℕ → Fields → Type 0
ThenKeeps ls = Keeps (opens 10) (ready 10 ++ ls)

abbrev ThenShows : List Line → ℕ → List Period → ℕ → ℕ → Type 0
ThenShows ls = Shows (opens 10) (ready 10 ++ ls)

-- Point 4 in default supply from day 12 to day 37.
abbrev in_default : List Line
in_default = on 12 (Action.At 4 (PointAction.DefaultSupply 77)) gives Answer.Accepted ∷ []

-- Point 5 with three wheels and one behind the comma, at 9,998 on day 10.
abbrev one_behind : List Line
one_behind = on 10 (Action.At 5 (enrol 3 1 9998 2 0)) gives Answer.Accepted ∷ []

pub record VariedExamples : Type 0 where
  -- 5: "holder the default supplier, kind default, deadline today + A"
  pub default_to_37 : ThenKeeps in_default 4 (kept (supply 9 (SupplyKind.Default 37) Pending.Nothing))
  -- "default becomes last resort (holder: the last-resort supplier, deadline this day + B)"
  pub default_on_36 : ThenKeeps (in_default ++ (on 36 Action.Day gives Answer.Accepted ∷ [])) 4
      (kept (supply 9 (SupplyKind.Default 37) Pending.Nothing))
  pub last_resort_on_37 : ThenKeeps (in_default ++ (on 37 Action.Day gives Answer.Accepted ∷ [])) 4
      (kept (supply 4 (SupplyKind.LastResort 97) Pending.Nothing))
  -- "and last resort becomes holder 0, kind none"
  pub last_resort_on_96 : ThenKeeps (in_default ++ (on 96 Action.Day gives Answer.Accepted ∷ [])) 4
      (kept (supply 4 (SupplyKind.LastResort 97) Pending.Nothing))
  pub none_on_97 : ThenKeeps (in_default ++ (on 97 Action.Day gives Answer.Accepted ∷ [])) 4 (kept unsupplied)
  pub starts_12_37_97 : ThenShows (in_default ++ (on 200 Action.Day gives Answer.Accepted ∷ [])) 4
      (period 10 0 0 0 ∷ period 12 9 0 0 ∷ period 37 4 0 0 ∷ period 97 0 0 0 ∷ []) 0 0
  -- 8: "today + 21 at or past the deadline"
  pub request_near_37 : Then
      (in_default ++
      (on 16 (Action.At 4 (PointAction.Request 5 77 16)) gives Answer.Refused (Rejection.LastResortUnderWay 37) ∷
      on 15 (Action.At 4 (PointAction.Request 5 77 15)) gives Answer.AcceptedOn 36 ∷ []))
  -- 26: with W = 3; e is day 32, a Wednesday, and after day 26, a Thursday, there are 27, 30 and 31
  pub cancel_with_three_days : Then
      (on 11 (Action.At 1 (PointAction.Request 6 77 11)) gives Answer.AcceptedOn 32 ∷
      on 27 (Action.At 1 (PointAction.Cancel 6)) gives Answer.Refused Rejection.TooLate ∷
      on 26 (Action.At 1 (PointAction.Cancel 6)) gives Answer.Accepted ∷ [])
  -- 2: "each point it holds gets the last-resort supplier, kind last resort, deadline today + B"
  pub failure_to_71 : ThenKeeps (on 11 (Action.Failure 5) gives Answer.Accepted ∷ []) 1
      (kept (supply 4 (SupplyKind.LastResort 71) Pending.Nothing))
  pub starts_11_71 : ThenShows (on 11 (Action.Failure 5) gives Answer.Accepted ∷
      on 200 Action.Day gives Answer.Accepted ∷ []) 1
      (period 10 5 0 0 ∷ period 11 4 0 0 ∷ period 71 0 0 0 ∷ []) 0 0
  -- 29: "failure of the default or last-resort supplier"; 1 and 2 are suppliers as any other here
  pub protected_9_and_4 : Then
      (on 11 (Action.Failure 9) gives Answer.Refused Rejection.ProtectedSupplier ∷ on 11 (Action.Failure 4) gives Answer.Refused Rejection.ProtectedSupplier ∷
      on 11 (Action.Failure 1) gives Answer.Refused Rejection.NoTransportContract ∷
      on 11 (Action.Failure 2) gives Answer.Refused Rejection.NoTransportContract ∷ on 11 (Action.Contract 1) gives Answer.Accepted ∷
      on 11 (Action.Contract 2) gives Answer.Accepted ∷
      on 11 (Action.Failure 1) gives Answer.Accepted ∷ on 11 (Action.Failure 2) gives Answer.Accepted ∷ [])
  -- 20: "default: today + A + B is; failure: today + B is": 72,963 + 85 and 72,988 + 60 are the last day
  pub sums_off_the_calendar : Plays (opens 72960)
      (ready 72960 ++
      (on 72964 (Action.At 4 (PointAction.DefaultSupply 77)) gives Answer.Refused Rejection.OffTheCalendar ∷
      on 72963 (Action.At 4 (PointAction.DefaultSupply 77)) gives Answer.Accepted ∷
      on 72989 (Action.Failure 5) gives Answer.Refused Rejection.OffTheCalendar ∷ on 72988 (Action.Failure 5) gives Answer.Accepted ∷ []))
  -- a failure beside holders with a higher and with a lower number, and beside requests of such suppliers: they stay
  pub holder_5_beside_6 : ThenKeeps (on 11 (Action.Failure 6) gives Answer.Accepted ∷ []) 1
      (kept (supply 5 SupplyKind.Contract Pending.Nothing))
  pub holder_7_beside_6 : ThenKeeps (on 11 (Action.Failure 6) gives Answer.Accepted ∷ []) 3
      (kept (supply 7 SupplyKind.Contract Pending.Nothing))
  pub request_of_5_beside_6 : ThenKeeps
      (on 11 (Action.At 3 (PointAction.Request 5 77 11)) gives Answer.AcceptedOn 32 ∷
      on 12 (Action.Failure 6) gives Answer.Accepted ∷ []) 3
      (kept (supply 7 SupplyKind.Contract (Pending.Request 5 32)))
  pub request_of_7_beside_6 : ThenKeeps
      (on 11 (Action.At 1 (PointAction.Request 7 77 11)) gives Answer.AcceptedOn 32 ∷
      on 12 (Action.Failure 6) gives Answer.Accepted ∷ []) 1
      (kept (supply 5 SupplyKind.Contract (Pending.Request 7 32)))
  -- 25: "cancel: none by s", whichever of the two has the higher number
  pub cancel_beside_6 : Then
      (on 11 (Action.At 1 (PointAction.Request 6 77 11)) gives Answer.AcceptedOn 32 ∷
      on 11 (Action.At 1 (PointAction.Cancel 5)) gives Answer.Refused Rejection.NothingPending ∷
      on 11 (Action.At 1 (PointAction.Cancel 7)) gives Answer.Refused Rejection.NothingPending ∷
      on 11 (Action.At 1 (PointAction.Cancel 6)) gives Answer.Accepted ∷ [])
  -- "Suppliers are 1 to 99": 99 may ask, cancel, hold and fail
  pub supplier_99 : Then
      (on 11 (Action.At 1 (PointAction.Request 99 77 11)) gives Answer.AcceptedOn 32 ∷
      on 11 (Action.At 1 (PointAction.Cancel 99)) gives Answer.Accepted ∷
      on 11 (Action.At 4 (PointAction.IntoService 99 77)) gives Answer.Accepted ∷
      on 11 (Action.Failure 99) gives Answer.Accepted ∷ [])
  -- 28: "an index at or past 10^w", w the wheels on both sides of the comma: at enrolment and at a reading
  pub enrolled_below_10000 : Then
      (on 11 (Action.At 6 (enrol 3 1 10000 2 0)) gives Answer.Refused Rejection.IndexDisagrees ∷
      on 11 (Action.At 6 (enrol 3 1 9999 2 0)) gives Answer.Accepted ∷ [])
  pub read_below_10000 : Then
      (one_behind ++
      (on 12 (Action.At 5 (PointAction.Reading 12 10000 0)) gives Answer.Refused Rejection.IndexDisagrees ∷
      on 12 (Action.At 5 (PointAction.Reading 12 9999 0)) gives Answer.Accepted ∷
      on 13 (Action.At 5 (PointAction.Reading 13 9999 1)) gives Answer.Refused Rejection.IndexDisagrees ∷
      on 13 (Action.At 5 (PointAction.Reading 13 9998 1)) gives Answer.Accepted ∷ []))
  -- "V = x2 − x1 + z × 10^w": 9,999 and then 1 past zero, at U = 100
  pub past_zero_with_one_behind : ThenShows
      (one_behind ++ (on 12 (Action.At 5 (PointAction.Reading 12 9999 0)) gives Answer.Accepted ∷
      on 14 (Action.At 5 (PointAction.Reading 14 1 1)) gives Answer.Accepted ∷ [])) 5
      (period 10 0 300 300 ∷ []) 300 300
  -- the same for the index of a new meter with two wheels on each side, and for its next reading, at U = 10
  pub fresh_below_10000 : Then
      (on 12 (Action.At 1 (change 991 0 2 2 10000 2 0)) gives Answer.Refused Rejection.IndexDisagrees ∷
      on 12 (Action.At 1 (change 991 0 2 2 9999 2 0)) gives Answer.Accepted ∷
      on 13 (Action.At 1 (PointAction.Reading 13 10000 0)) gives Answer.Refused Rejection.IndexDisagrees ∷
      on 13 (Action.At 1 (PointAction.Reading 13 9999 0)) gives Answer.Accepted ∷ [])
  pub past_zero_of_the_new_meter : ThenShows
      (on 12 (Action.At 1 (change 991 0 2 2 9999 2 0)) gives Answer.Accepted ∷
      on 14 (Action.At 1 (PointAction.Reading 14 1 1)) gives Answer.Accepted ∷ []) 1
      (period 10 5 1020 1020 ∷ []) 1020 1020
  -- and for the old meter's last reading at a change: 2 past zero at U = 100
  pub changed_past_zero : ThenShows (one_behind ++ (on 12 (Action.At 5 (change 0 1 2 2 0 2 0)) gives
      Answer.Accepted ∷ [])) 5
      (period 10 0 200 200 ∷ []) 200 200
  -- another point's reading books nothing here, whichever of the two has the higher number
  pub other_reading_not_booked : ThenShows
      (on 20 (Action.At 2 (PointAction.Reading 20 10 1)) gives Answer.Accepted ∷ []) 1 (period 10 5 0 0 ∷ []) 0 0
  pub other_reading_not_booked_either : ThenShows (on 20 (Action.At 2 (PointAction.Reading 20 10 1)) gives
      Answer.Accepted ∷ []) 3 (period 10 7 0 0 ∷ []) 0 0
