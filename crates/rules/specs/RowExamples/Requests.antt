-- Calls 6 and 7, request and cancel: 1 to 8, 25, 26, their order, and what they do. 30 is in RowExamples/Full.
-- Definitions only.
use Rattle.rules.specs.declared.{Rejection.Rejection}
use Rattle.std.specs.Prelude.{[], ◌∷◌, ◌++◌}
use Rattle.rules.specs.declared.{SupplyKind.SupplyKind, Pending.Pending, Action.Action, PointAction.PointAction}
use Rattle.rules.specs.declared.{Answer.Answer}
use Rattle.rules.specs.Fields.{supply}
use Rattle.rules.specs.Pinned.Register.{period}
use Rattle.rules.specs.Scenes.{◌gives◌, opening, on, Plays}
use Rattle.rules.specs.RowExamples.Scene.{ready, Then, ThenKeeps, ThenShows, kept}

pub record RequestExamples : Type 0 where
  -- 3: "r before today, or later than three months after today"; three months after day 11, 12 January, is 12 April,
  -- day 102.
  pub day_asked_for : Then
      (on 11 (Action.At 1 (PointAction.Request 6 77 10)) gives Answer.Refused Rejection.DateIncompatible ∷
      on 11 (Action.At 1 (PointAction.Request 6 77 103)) gives Answer.Refused Rejection.DateIncompatible ∷
      on 11 (Action.At 1 (PointAction.Request 6 77 102)) gives Answer.AcceptedOn 102 ∷
      on 11 (Action.At 1 (PointAction.Cancel 6)) gives Answer.Accepted ∷
      on 11 (Action.At 1 (PointAction.Request 6 77 11)) gives Answer.AcceptedOn 32 ∷
      on 11 (Action.At 1 (PointAction.Cancel 6)) gives Answer.Accepted ∷
      on 11 (Action.At 1 (PointAction.Request 6 77 33)) gives Answer.AcceptedOn 33 ∷ [])
  -- 2; 4: "key is not the stored one", which is 0 where a point was never served; 5: "one is pending"
  pub point_key_pending : Then
      (on 11 (Action.At 0 (PointAction.Request 6 77 11)) gives Answer.Refused Rejection.FalseIdpc ∷
      on 11 (Action.At 33 (PointAction.Request 6 77 11)) gives Answer.Refused Rejection.FalseIdpc ∷
      on 11 (Action.At 5 (PointAction.Request 6 77 11)) gives Answer.Refused Rejection.FalseIdpc ∷
      on 11 (Action.At 1 (PointAction.Request 6 78 11)) gives Answer.Refused Rejection.NameDiffers ∷
      on 11 (Action.At 1 (PointAction.Request 6 76 11)) gives Answer.Refused Rejection.NameDiffers ∷
      on 11 (Action.At 2 (PointAction.Request 6 77 11)) gives Answer.Refused Rejection.NameDiffers ∷
      on 11 (Action.At 4 (PointAction.Request 6 77 11)) gives Answer.Refused Rejection.OtherRequest ∷
      on 11 (Action.At 4 (PointAction.Request 5 77 11)) gives Answer.Refused Rejection.OtherRequest ∷
      -- "The present holder may ask too."
      on 11 (Action.At 1 (PointAction.Request 5 77 11)) gives Answer.AcceptedOn 32 ∷ [])
  -- 6: holder 0, where the key outlives the service; 7: "mark is 1"; 6 before 7
  pub holder_0_and_suspended : Then
      (on 11 (Action.At 1 (PointAction.Suspend 1)) gives Answer.Accepted ∷
      on 11 (Action.At 1 (PointAction.Request 6 77 11)) gives Answer.Refused Rejection.AccessSuspended ∷
      on 11 (Action.At 1 PointAction.OutOfService) gives Answer.Accepted ∷
      on 11 (Action.At 1 (PointAction.Request 6 77 11)) gives Answer.Refused Rejection.NoPerimeter ∷
      on 11 (Action.At 1 (PointAction.Suspend 0)) gives Answer.Accepted ∷
      on 11 (Action.At 1 (PointAction.Request 6 77 11)) gives Answer.Refused Rejection.NoPerimeter ∷
      on 11 (Action.At 1 (PointAction.IntoService 5 77)) gives Answer.Accepted ∷
      on 11 (Action.At 1 (PointAction.Request 6 77 11)) gives Answer.AcceptedOn 32 ∷ [])
  -- 8: "kind default and today + 21 at or past the deadline", whatever r is; the deadline is 40
  pub default_near_its_end : Then
      (on 19 (Action.At 3 (PointAction.Request 6 77 19)) gives Answer.Refused (Rejection.LastResortUnderWay 40) ∷
      on 19 (Action.At 3 (PointAction.Request 6 77 60)) gives Answer.Refused (Rejection.LastResortUnderWay 40) ∷
      on 18 (Action.At 3 (PointAction.Request 6 77 60)) gives Answer.AcceptedOn 60 ∷ [])
  pub default_on_its_last_day : Then (on 39 (Action.At 3 (PointAction.Request 6 77 39)) gives Answer.Refused (Rejection.LastResortUnderWay 40)
      ∷ [])
  -- on the deadline last resort has come, and it refuses no request, not even where e is at or past its own end, day
  -- 80; nor does contract supply
  pub not_under_last_resort : Then
      (on 40 (Action.At 3 (PointAction.Request 6 77 40)) gives Answer.AcceptedOn 61 ∷
      on 40 (Action.At 3 (PointAction.Cancel 6)) gives Answer.Accepted ∷
      on 59 (Action.At 3 (PointAction.Request 6 77 59)) gives Answer.AcceptedOn 80 ∷
      on 59 (Action.At 3 (PointAction.Cancel 6)) gives Answer.Accepted ∷
      on 79 (Action.At 3 (PointAction.Request 6 77 79)) gives Answer.AcceptedOn 100 ∷
      on 79 (Action.At 1 (PointAction.Request 6 77 79)) gives Answer.AcceptedOn 100 ∷ [])
  -- the lowest number: 1 before 2 before 3 before 4 before 5 before 7 before 8, and 4 before 6
  pub lowest_number : Then
      (on 11 (Action.At 5 (PointAction.Request 7 77 11)) gives Answer.Refused Rejection.NoTransportContract ∷
      on 11 (Action.At 5 (PointAction.Request 6 77 10)) gives Answer.Refused Rejection.FalseIdpc ∷
      on 11 (Action.At 1 (PointAction.Request 6 78 10)) gives Answer.Refused Rejection.DateIncompatible ∷
      on 11 (Action.At 4 (PointAction.Request 6 78 11)) gives Answer.Refused Rejection.NameDiffers ∷
      on 11 (Action.At 2 (PointAction.Request 6 78 11)) gives Answer.Refused Rejection.NameDiffers ∷
      on 11 (Action.At 4 (PointAction.Suspend 1)) gives Answer.Accepted ∷
      on 11 (Action.At 4 (PointAction.Request 6 77 11)) gives Answer.Refused Rejection.OtherRequest ∷
      on 11 (Action.At 3 (PointAction.Request 6 77 11)) gives Answer.AcceptedOn 32 ∷
      on 20 (Action.At 3 (PointAction.Request 6 77 20)) gives Answer.Refused Rejection.OtherRequest ∷
      on 20 (Action.At 3 (PointAction.Cancel 6)) gives Answer.Accepted ∷
      on 20 (Action.At 3 (PointAction.Request 6 77 20)) gives Answer.Refused (Rejection.LastResortUnderWay 40) ∷
      on 20 (Action.At 3 (PointAction.Suspend 1)) gives Answer.Accepted ∷
      on 20 (Action.At 3 (PointAction.Request 6 77 20)) gives Answer.Refused Rejection.AccessSuspended ∷ [])
  -- 6: "pending (s, e)"; no holder is named until e comes
  pub asked : ThenKeeps (on 11 (Action.At 1 (PointAction.Request 6 77 11)) gives Answer.AcceptedOn 32 ∷ []) 1
      (kept (supply 5 SupplyKind.Contract (Pending.Request 6 32)))
  pub asked_periods : ThenShows (on 11 (Action.At 1 (PointAction.Request 6 77 11)) gives Answer.AcceptedOn 32 ∷
      on 31 Action.Day gives Answer.Accepted ∷ []) 1
      (period 10 5 0 0 ∷ []) 0 0
  -- cancel: 2; 25: "none by s", also where another has asked or s has no contract; 7: "pending dropped"
  pub cancel_whose : Then
      (on 11 (Action.At 0 (PointAction.Cancel 6)) gives Answer.Refused Rejection.FalseIdpc ∷
      on 11 (Action.At 33 (PointAction.Cancel 6)) gives Answer.Refused Rejection.FalseIdpc ∷
      on 11 (Action.At 5 (PointAction.Cancel 6)) gives Answer.Refused Rejection.FalseIdpc ∷
      on 11 (Action.At 1 (PointAction.Cancel 6)) gives Answer.Refused Rejection.NothingPending ∷
      on 11 (Action.At 4 (PointAction.Cancel 5)) gives Answer.Refused Rejection.NothingPending ∷
      on 11 (Action.At 4 (PointAction.Cancel 7)) gives Answer.Refused Rejection.NothingPending ∷
      on 11 (Action.At 4 (PointAction.Cancel 6)) gives Answer.Accepted ∷
      on 11 (Action.At 4 (PointAction.Cancel 6)) gives Answer.Refused Rejection.NothingPending ∷ [])
  pub cancelled : ThenKeeps (on 11 (Action.At 4 (PointAction.Cancel 6)) gives Answer.Accepted ∷ []) 4
      (kept (supply 5 SupplyKind.Contract Pending.Nothing))
  pub cancelled_periods : ThenShows (on 11 (Action.At 4 (PointAction.Cancel 6)) gives Answer.Accepted ∷
      on 50 Action.Day gives Answer.Accepted ∷ []) 4
      (period 10 5 0 0 ∷ []) 0 0
  -- 26: "at least W working days lie after today and before e": e is day 31, a Tuesday; after 26, a Thursday, there are
  -- 27 and 30. 25 before 26; on e itself nothing is pending any more
  pub cancel_when : Then
      (on 31 (Action.At 4 (PointAction.Cancel 6)) gives Answer.Refused Rejection.NothingPending ∷
      on 30 (Action.At 4 (PointAction.Cancel 6)) gives Answer.Refused Rejection.TooLate ∷
      on 27 (Action.At 4 (PointAction.Cancel 6)) gives Answer.Refused Rejection.TooLate ∷
      on 27 (Action.At 4 (PointAction.Cancel 5)) gives Answer.Refused Rejection.NothingPending ∷
      on 26 (Action.At 4 (PointAction.Cancel 6)) gives Answer.Accepted ∷ [])
  -- with W = 0 up to the day before e; with W = 10 on the day of the request
  pub cancel_without_wait : Plays (opening 10 0 30 40 1 2)
      (ready ++ (on 31 (Action.At 4 (PointAction.Cancel 6)) gives Answer.Refused Rejection.NothingPending ∷
      on 30 (Action.At 4 (PointAction.Cancel 6)) gives Answer.Accepted ∷ []))
  pub cancel_with_ten_days : Plays (opening 10 10 30 40 1 2)
      (ready ++ (on 17 (Action.At 4 (PointAction.Cancel 6)) gives Answer.Refused Rejection.TooLate ∷
      on 16 (Action.At 4 (PointAction.Cancel 6)) gives Answer.Accepted ∷ []))
