-- 30: "after the call a point's marks and those due exceed 24 (due: pending 1, default 2, last resort 1); only calls 2,
-- 4, 5, 6 and 10; for call 2 any point it touches". Definitions only.
use Rattle.rules.specs.declared.{Rejection.Rejection}
use Rattle.std.specs.Prelude.{List, [], ◌∷◌, ◌++◌, ℕ}
use Rattle.rules.specs.declared.{Action.Action, PointAction.PointAction, Answer.Answer}
use Rattle.rules.specs.Scenes.{Line, ◌gives◌, on, Plays, enrol, change}
use Rattle.rules.specs.RowExamples.Scene.{opens, turns}

-- Point p, held by supplier s since the day that carries its last mark. 23 marks, the last on day 32; 22, the last on
-- day 31; 21 on day 30.
abbrev enrolled : ℕ → ℕ → List Line
enrolled s p =
    on 10 (Action.Contract 5) gives Answer.Accepted ∷ on 10 (Action.Contract 6) gives Answer.Accepted ∷
    on 10 (Action.At p (enrol 3 0 990 2 0)) gives Answer.Accepted ∷
    on 10 (Action.At p (PointAction.IntoService s 77)) gives Answer.Accepted ∷ []

abbrev marks23 : ℕ → ℕ → List Line
marks23 s p = enrolled s p ++ turns s p 11 11

abbrev marks21 : List Line
marks21 = enrolled 5 1 ++ turns 5 1 10 11

-- The first service is a day after enrolment, so that the marks are even.
abbrev enrolled_before : List Line
enrolled_before =
    on 10 (Action.Contract 5) gives Answer.Accepted ∷ on 10 (Action.Contract 6) gives Answer.Accepted ∷
    on 10 (Action.At 1 (enrol 3 0 990 2 0)) gives Answer.Accepted ∷
    on 11 (Action.At 1 (PointAction.IntoService 5 77)) gives Answer.Accepted ∷ []

abbrev marks22 : List Line
marks22 = enrolled_before ++ turns 5 1 10 12

abbrev marks20 : List Line
marks20 = enrolled_before ++ turns 5 1 9 12

pub record FullExamples : Type 0 where
  -- out of service makes 24 marks; the day after into service would be the 25th; on the same day it replaces the 24th,
  -- and so on
  pub into_and_out_of_service : Plays opens
      (marks23 5 1 ++
      (on 33 (Action.At 1 PointAction.OutOfService) gives Answer.Accepted ∷
      on 34 (Action.At 1 (PointAction.IntoService 5 77)) gives Answer.Refused Rejection.PeriodsFull ∷
      on 33 (Action.At 1 (PointAction.IntoService 5 77)) gives Answer.Accepted ∷
      on 34 (Action.At 1 PointAction.OutOfService) gives Answer.Refused Rejection.PeriodsFull ∷
      on 33 (Action.At 1 PointAction.OutOfService) gives Answer.Accepted ∷ []))
  -- default counts 2 more: 21 marks and the new one make 24 with them, 22 and the new one 25, unless it replaces
  -- today's
  pub default_on_21_marks : Plays opens
      (marks20 ++ (on 30 (Action.At 1 PointAction.OutOfService) gives Answer.Accepted ∷
      on 31 (Action.At 1 (PointAction.DefaultSupply 77)) gives Answer.Accepted ∷ []))
  pub default_on_22_marks : Plays opens
      (marks21 ++
      (on 31 (Action.At 1 PointAction.OutOfService) gives Answer.Accepted ∷
      on 32 (Action.At 1 (PointAction.DefaultSupply 77)) gives Answer.Refused Rejection.PeriodsFull ∷
      on 31 (Action.At 1 (PointAction.DefaultSupply 77)) gives Answer.Accepted ∷ []))
  -- a request counts 1: under contract with 23 marks it fits, with 24 it does not
  pub request_on_23_marks : Plays opens (marks23 5 1 ++
      (on 33 (Action.At 1 (PointAction.Request 6 77 33)) gives Answer.AcceptedOn 54 ∷ []))
  pub request_on_24_marks : Plays opens
      (marks22 ++
      (on 32 (Action.At 1 PointAction.OutOfService) gives Answer.Accepted ∷
      on 33 (Action.At 1 (PointAction.IntoService 5 77)) gives Answer.Accepted ∷
      on 33 (Action.At 1 (PointAction.Request 6 77 33)) gives Answer.Refused Rejection.PeriodsFull ∷ []))
  -- under default it counts beside the 2, whatever would really happen: 21 marks fit, 22 do not
  pub request_under_default_21_marks : Plays opens
      (marks20 ++
      (on 30 (Action.At 1 PointAction.OutOfService) gives Answer.Accepted ∷
      on 30 (Action.At 1 (PointAction.DefaultSupply 77)) gives Answer.Accepted ∷
      on 30 (Action.At 1 (PointAction.Request 6 77 30)) gives Answer.AcceptedOn 51 ∷ []))
  pub request_under_default_22_marks : Plays opens
      (marks20 ++
      (on 30 (Action.At 1 PointAction.OutOfService) gives Answer.Accepted ∷
      on 31 (Action.At 1 (PointAction.DefaultSupply 77)) gives Answer.Accepted ∷
      on 31 (Action.At 1 (PointAction.Request 6 77 31)) gives Answer.Refused Rejection.PeriodsFull ∷ []))
  -- a failure counts its own mark and the end of last resort: 22 marks fit, 23 do not, unless today's is replaced
  pub failure_on_22_marks : Plays opens (marks22 ++ (on 32 (Action.Failure 5) gives Answer.Accepted ∷ []))
  pub failure_on_23_marks : Plays
      opens (marks23 5 1 ++ (on 33 (Action.Failure 5) gives Answer.Refused Rejection.PeriodsFull ∷
      on 32 (Action.Failure 5) gives Answer.Accepted ∷ []))
  -- a request under last resort: 22 marks fit, 23 do not
  pub request_under_last_resort_22_marks : Plays opens
      (marks21 ++ (on 31 (Action.Failure 5) gives Answer.Accepted ∷
      on 31 (Action.At 1 (PointAction.Request 6 77 31)) gives Answer.AcceptedOn 52 ∷ []))
  pub request_under_last_resort_23_marks : Plays opens
      (marks22 ++ (on 32 (Action.Failure 5) gives Answer.Accepted ∷
      on 32 (Action.At 1 (PointAction.Request 6 77 32)) gives Answer.Refused Rejection.PeriodsFull ∷ []))
  -- "any point it touches": the last point too; another supplier's full point is not touched
  pub failure_at_point_32 : Plays opens
      (marks23 5 32 ++ (on 33 (Action.Failure 6) gives Answer.Accepted ∷
      on 34 (Action.Failure 5) gives Answer.Refused Rejection.PeriodsFull ∷ []))
  -- the requests of the failed supplier are dropped and count no more, another's count
  pub failure_with_own_request : Plays opens
      (marks22 ++ (on 32 (Action.At 1 (PointAction.Request 5 77 32)) gives Answer.AcceptedOn 53 ∷
      on 33 (Action.Failure 5) gives Answer.Accepted ∷ []))
  pub failure_with_other_request : Plays opens
      (marks22 ++
      (on 32 (Action.At 1 (PointAction.Request 6 77 32)) gives Answer.AcceptedOn 53 ∷
      on 33 (Action.Failure 5) gives Answer.Refused Rejection.PeriodsFull ∷
      on 33 (Action.Failure 6) gives Answer.Accepted ∷
      on 33 (Action.Failure 5) gives Answer.Accepted ∷ []))
  -- out of service drops the request, so that its mark takes the request's place
  pub out_of_service_with_request : Plays opens
      (marks23 5 1 ++ (on 33 (Action.At 1 (PointAction.Request 6 77 33)) gives Answer.AcceptedOn 54 ∷
      on 34 (Action.At 1 PointAction.OutOfService) gives Answer.Accepted ∷ []))
  -- what has come due is a mark: 22 marks and default to its end make 24, and supplier 5 replaces nothing
  pub events_are_marks : Plays opens
      (marks21 ++
      (on 31 (Action.At 1 PointAction.OutOfService) gives Answer.Accepted ∷
      on 31 (Action.At 1 (PointAction.DefaultSupply 77)) gives Answer.Accepted ∷
      on 102 (Action.At 1 (PointAction.IntoService 5 77)) gives Answer.Refused Rejection.PeriodsFull ∷
      on 101 (Action.At 1 (PointAction.IntoService 5 77)) gives Answer.Accepted ∷ []))
  -- the other calls never get 30, here with 24 marks
  pub other_calls : Plays opens
      (marks22 ++
      (on 32 (Action.At 1 PointAction.OutOfService) gives Answer.Accepted ∷
      on 33 (Action.At 1 (PointAction.IntoService 5 77)) gives Answer.Accepted ∷
      on 34 (Action.Contract 7) gives Answer.Accepted ∷
      on 34 (Action.At 2 (enrol 3 0 0 2 0)) gives Answer.Accepted ∷
      on 34 (Action.At 1 (PointAction.Reading 34 995 0)) gives Answer.Accepted ∷
      on 35 (Action.At 1 (change 995 0 3 0 0 2 0)) gives Answer.Accepted ∷
      on 35 (Action.At 1 (PointAction.Suspend 1)) gives Answer.Accepted ∷
      on 36 Action.Day gives Answer.Accepted ∷ []))
  pub cancel_when_full : Plays opens
      (marks23 5 1 ++ (on 33 (Action.At 1 (PointAction.Request 6 77 33)) gives Answer.AcceptedOn 54 ∷
      on 34 (Action.At 1 (PointAction.Cancel 6)) gives Answer.Accepted ∷ []))
  -- lower numbers first, here with 24 marks: 24, and on account 0: 1, 6
  pub lower_numbers_first : Plays opens
      (marks22 ++
      (on 32 (Action.At 1 PointAction.OutOfService) gives Answer.Accepted ∷
      on 33 (Action.At 1 (PointAction.IntoService 5 77)) gives Answer.Accepted ∷
      on 34 (Action.At 1 (PointAction.IntoService 5 77)) gives Answer.Refused Rejection.AlreadyServed ∷
      on 34 (Action.At 1 (PointAction.DefaultSupply 77)) gives Answer.Refused Rejection.AlreadyServed ∷
      on 33 (Action.At 1 PointAction.OutOfService) gives Answer.Accepted ∷
      on 34 (Action.At 1 (PointAction.IntoService 7 77)) gives Answer.Refused Rejection.NoTransportContract ∷
      on 34 (Action.At 1 PointAction.OutOfService) gives Answer.Refused Rejection.NoPerimeter ∷
      on 34 (Action.At 1 (PointAction.Request 6 77 34)) gives Answer.Refused Rejection.NoPerimeter ∷ []))
  -- 5 before 30, and 8 before 30: 22 marks in default, whose deadline is 61
  pub five_before_thirty : Plays opens
      (marks23 5 1 ++
      (on 33 (Action.At 1 (PointAction.Request 6 77 33)) gives Answer.AcceptedOn 54 ∷
      on 34 (Action.At 1 (PointAction.Request 6 77 34)) gives Answer.Refused Rejection.OtherRequest ∷ []))
  pub eight_before_thirty : Plays opens
      (marks20 ++
      (on 30 (Action.At 1 PointAction.OutOfService) gives Answer.Accepted ∷
      on 31 (Action.At 1 (PointAction.DefaultSupply 77)) gives Answer.Accepted ∷
      on 39 (Action.At 1 (PointAction.Request 6 77 39)) gives Answer.Refused Rejection.PeriodsFull ∷
      on 40 (Action.At 1 (PointAction.Request 6 77 40)) gives Answer.Refused (Rejection.LastResortUnderWay 61) ∷ []))
  -- 29 before 30: the default supplier holds a point with 23 marks by contract
  pub protected_before_thirty : Plays opens (marks23 1 1 ++ (on 33 (Action.Failure 1) gives Answer.Refused Rejection.ProtectedSupplier ∷ []))
