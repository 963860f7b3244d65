-- Calls 3, 4, 5, 10 and 11, enrolment, into service, default, out of service, suspension: 2, 6, 23, 24, 28, and what
-- they do. 30 is in RowExamples/Full. Definitions only.
use Rattle.rules.specs.declared.{Rejection.Rejection}
use Rattle.std.specs.Prelude.{true, false, [], ◌∷◌}
use Rattle.rules.specs.declared.{Code.Code, SupplyKind.SupplyKind, Pending.Pending, Action.Action, PointAction.PointAction}
use Rattle.rules.specs.declared.{Answer.Answer}
use Rattle.rules.specs.Fields.{supply, meter, reading, fields, unsupplied}
use Rattle.rules.specs.Pinned.Register.{period}
use Rattle.rules.specs.Scenes.{◌gives◌, on, enrol}
use Rattle.rules.specs.RowExamples.Scene.{Then, ThenKeeps, ThenShows, kept}

pub record ServiceExamples : Type 0 where
  -- 2: "p not 1 to 32, or not enrolled (enrol: only the first)"; 23: "already enrolled"
  pub enrol_point : Then
      (on 11 (Action.At 0 (enrol 3 0 990 2 0)) gives Answer.Refused Rejection.FalseIdpc ∷
      on 11 (Action.At 33 (enrol 3 0 990 2 0)) gives Answer.Refused Rejection.FalseIdpc ∷
      on 11 (Action.At 32 (enrol 3 0 990 2 0)) gives Answer.Accepted ∷
      on 11 (Action.At 32 (enrol 3 0 990 2 0)) gives Answer.Refused Rejection.AlreadyEnrolled ∷
      on 11 (Action.At 1 (enrol 3 0 990 2 0)) gives Answer.Refused Rejection.AlreadyEnrolled ∷
      on 11 (Action.At 5 (enrol 3 0 990 2 0)) gives Answer.Accepted ∷ [])
  -- 28: "an index at or past 10^w", w the sum of the wheels; 2 before 28, 23 before 28
  pub enrol_index : Then
      (on 11 (Action.At 5 (enrol 3 0 1000 2 0)) gives Answer.Refused Rejection.IndexDisagrees ∷
      on 11 (Action.At 33 (enrol 3 0 1000 2 0)) gives Answer.Refused Rejection.FalseIdpc ∷
      on 11 (Action.At 1 (enrol 3 0 1000 2 0)) gives Answer.Refused Rejection.AlreadyEnrolled ∷
      on 11 (Action.At 5 (enrol 3 0 999 2 0)) gives Answer.Accepted ∷
      on 11 (Action.At 6 (enrol 2 1 1000 2 0)) gives Answer.Refused Rejection.IndexDisagrees ∷
      on 11 (Action.At 6 (enrol 2 1 999 2 0)) gives Answer.Accepted ∷
      on 11 (Action.At 7 (enrol 8 3 100000000000 2 0)) gives Answer.Refused Rejection.IndexDisagrees ∷
      on 11 (Action.At 7 (enrol 8 3 99999999999 2 0)) gives Answer.Accepted ∷ [])
  -- into service: 1 before 2, 1 before 24, 2, 24: "holder not 0"
  pub into_service : Then
      (on 11 (Action.At 33 (PointAction.IntoService 7 77)) gives Answer.Refused Rejection.NoTransportContract ∷
      on 11 (Action.At 1 (PointAction.IntoService 7 77)) gives Answer.Refused Rejection.NoTransportContract ∷
      on 11 (Action.At 0 (PointAction.IntoService 5 77)) gives Answer.Refused Rejection.FalseIdpc ∷
      on 11 (Action.At 33 (PointAction.IntoService 5 77)) gives Answer.Refused Rejection.FalseIdpc ∷
      on 11 (Action.At 5 (PointAction.IntoService 5 77)) gives Answer.Refused Rejection.FalseIdpc ∷
      on 11 (Action.At 1 (PointAction.IntoService 5 77)) gives Answer.Refused Rejection.AlreadyServed ∷
      on 11 (Action.At 3 (PointAction.IntoService 5 77)) gives Answer.Refused Rejection.AlreadyServed ∷
      on 11 (Action.At 2 (PointAction.IntoService 5 77)) gives Answer.Accepted ∷ [])
  pub default_supply : Then
      (on 11 (Action.At 0 (PointAction.DefaultSupply 77)) gives Answer.Refused Rejection.FalseIdpc ∷
      on 11 (Action.At 33 (PointAction.DefaultSupply 77)) gives Answer.Refused Rejection.FalseIdpc ∷
      on 11 (Action.At 5 (PointAction.DefaultSupply 77)) gives Answer.Refused Rejection.FalseIdpc ∷
      on 11 (Action.At 1 (PointAction.DefaultSupply 77)) gives Answer.Refused Rejection.AlreadyServed ∷
      on 11 (Action.At 3 (PointAction.DefaultSupply 77)) gives Answer.Refused Rejection.AlreadyServed ∷
      on 11 (Action.At 2 (PointAction.DefaultSupply 77)) gives Answer.Accepted ∷ [])
  -- 6: "request, out of service: holder 0"; 2
  pub out_of_service : Then
      (on 11 (Action.At 0 PointAction.OutOfService) gives Answer.Refused Rejection.FalseIdpc ∷
      on 11 (Action.At 33 PointAction.OutOfService) gives Answer.Refused Rejection.FalseIdpc ∷
      on 11 (Action.At 5 PointAction.OutOfService) gives Answer.Refused Rejection.FalseIdpc ∷
      on 11 (Action.At 2 PointAction.OutOfService) gives Answer.Refused Rejection.NoPerimeter ∷
      on 11 (Action.At 1 PointAction.OutOfService) gives Answer.Accepted ∷
      on 11 (Action.At 1 PointAction.OutOfService) gives Answer.Refused Rejection.NoPerimeter ∷ [])
  pub suspend : Then
      (on 11 (Action.At 0 (PointAction.Suspend 1)) gives Answer.Refused Rejection.FalseIdpc ∷
      on 11 (Action.At 33 (PointAction.Suspend 1)) gives Answer.Refused Rejection.FalseIdpc ∷
      on 11 (Action.At 5 (PointAction.Suspend 1)) gives Answer.Refused Rejection.FalseIdpc ∷
      on 11 (Action.At 2 (PointAction.Suspend 1)) gives Answer.Accepted ∷ [])
  -- 3: "holder 0, kind none, nothing pending, key 0, mark 0, last reading is today's"
  pub enrolled : ThenKeeps (on 12 (Action.At 5 (enrol 4 2 123 2 0)) gives Answer.Accepted ∷ []) 5
      (fields true unsupplied 0 0 (meter 4 2 Code.Normal) (reading 12 123))
  pub enrolled_period : ThenShows (on 12 (Action.At 5 (enrol 4 2 123 2 0)) gives Answer.Accepted ∷ []) 5
      (period 12 0 0 0 ∷ []) 0 0
  -- 4: "holder s, kind contract, key stored"
  pub in_service : ThenKeeps (on 12 (Action.At 2 (PointAction.IntoService 6 88)) gives Answer.Accepted ∷ []) 2
      (fields true (supply 6 SupplyKind.Contract Pending.Nothing) 88 0 (meter 3 0 Code.Normal) (reading 10 990))
  pub in_service_period : ThenShows (on 12 (Action.At 2 (PointAction.IntoService 6 88)) gives Answer.Accepted ∷ []) 2
      (period 10 0 0 0 ∷ period 12 6 0 0 ∷ []) 0 0
  -- 5: "holder the default supplier, kind default, deadline today + A, key stored"
  pub defaulted : ThenKeeps (on 12 (Action.At 2 (PointAction.DefaultSupply 88)) gives Answer.Accepted ∷ []) 2
      (fields true (supply 1 (SupplyKind.Default 42) Pending.Nothing) 88 0 (meter 3 0 Code.Normal) (reading 10 990))
  pub defaulted_period : ThenShows (on 12 (Action.At 2 (PointAction.DefaultSupply 88)) gives Answer.Accepted ∷ []) 2
      (period 10 0 0 0 ∷ period 12 1 0 0 ∷ []) 0 0
  -- 10: "holder 0, kind none, pending dropped"; the key and the mark stay
  pub out : ThenKeeps (on 12 (Action.At 4 PointAction.OutOfService) gives Answer.Accepted ∷ []) 4 (kept unsupplied)
  pub out_periods : ThenShows (on 12 (Action.At 4 PointAction.OutOfService) gives Answer.Accepted ∷
      on 50 Action.Day gives Answer.Accepted ∷ []) 4
      (period 10 5 0 0 ∷ period 12 0 0 0 ∷ []) 0 0
  pub out_of_default : ThenShows (on 12 (Action.At 3 PointAction.OutOfService) gives Answer.Accepted ∷
      on 50 Action.Day gives Answer.Accepted ∷ []) 3
      (period 10 1 0 0 ∷ period 12 0 0 0 ∷ []) 0 0
  -- 11: "the suspension mark becomes it"; it names no holder, and outlives out of service and service again
  pub suspended : ThenKeeps (on 12 (Action.At 1 (PointAction.Suspend 1)) gives Answer.Accepted ∷ []) 1
      (fields true (supply 5 SupplyKind.Contract Pending.Nothing) 77 1 (meter 3 0 Code.Normal) (reading 10 990))
  pub suspended_still : ThenKeeps
      (on 12 (Action.At 1 (PointAction.Suspend 1)) gives Answer.Accepted ∷
      on 13 (Action.At 1 PointAction.OutOfService) gives Answer.Accepted ∷
      on 14 (Action.At 1 (PointAction.IntoService 6 88)) gives Answer.Accepted ∷ []) 1
      (fields true (supply 6 SupplyKind.Contract Pending.Nothing) 88 1 (meter 3 0 Code.Normal) (reading 10 990))
  pub suspended_no_more : ThenKeeps
      (on 12 (Action.At 1 (PointAction.Suspend 1)) gives Answer.Accepted ∷
      on 13 (Action.At 1 (PointAction.Suspend 0)) gives Answer.Accepted ∷ []) 1
      (kept (supply 5 SupplyKind.Contract Pending.Nothing))
  pub suspended_periods : ThenShows (on 12 (Action.At 1 (PointAction.Suspend 1)) gives Answer.Accepted ∷ []) 1
      (period 10 5 0 0 ∷ []) 0 0
  -- a call at one point leaves the others alone
  pub other_point : ThenKeeps (on 12 (Action.At 1 PointAction.OutOfService) gives Answer.Accepted ∷ []) 2
      (fields true unsupplied 0 0 (meter 3 0 Code.Normal) (reading 10 990))
