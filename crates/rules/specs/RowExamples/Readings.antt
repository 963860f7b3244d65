-- Calls 8 and 9, reading and meter change: 2, 27, 28, what they do, and what is booked. Definitions only.
use Rattle.rules.specs.declared.{Rejection.Rejection}
use Rattle.std.specs.Prelude.{true, false, [], ◌∷◌}
use Rattle.rules.specs.declared.{Code.Code, SupplyKind.SupplyKind, Pending.Pending, Action.Action, PointAction.PointAction}
use Rattle.rules.specs.declared.{Answer.Answer}
use Rattle.rules.specs.Fields.{supply, meter, reading, fields}
use Rattle.rules.specs.Pinned.Register.{period}
use Rattle.rules.specs.Scenes.{◌gives◌, opening, on, Plays, enrol, change}
use Rattle.rules.specs.RowExamples.Scene.{Then, ThenKeeps, ThenShows}

pub record ReadingExamples : Type 0 where
  -- 2; 27: "d .. not after the last reading's day, or d past today": the last reading is the enrolment's, on day 10
  pub reading_day : Then
      (on 12 (Action.At 0 (PointAction.Reading 12 995 0)) gives Answer.Refused Rejection.FalseIdpc ∷
      on 12 (Action.At 33 (PointAction.Reading 12 995 0)) gives Answer.Refused Rejection.FalseIdpc ∷
      on 12 (Action.At 5 (PointAction.Reading 12 995 0)) gives Answer.Refused Rejection.FalseIdpc ∷
      on 10 (Action.At 1 (PointAction.Reading 10 990 0)) gives Answer.Refused Rejection.ReadingOutOfTime ∷
      on 12 (Action.At 1 (PointAction.Reading 10 995 0)) gives Answer.Refused Rejection.ReadingOutOfTime ∷
      on 12 (Action.At 1 (PointAction.Reading 9 995 0)) gives Answer.Refused Rejection.ReadingOutOfTime ∷
      on 12 (Action.At 1 (PointAction.Reading 13 995 0)) gives Answer.Refused Rejection.ReadingOutOfTime ∷
      on 12 (Action.At 1 (PointAction.Reading 11 995 0)) gives Answer.Accepted ∷
      on 12 (Action.At 1 (PointAction.Reading 11 995 0)) gives Answer.Refused Rejection.ReadingOutOfTime ∷
      on 12 (Action.At 1 (PointAction.Reading 12 995 0)) gives Answer.Accepted ∷ [])
  -- 28: "an index at or past 10^w; z = 0 and x below the last index; z = 1 and x not below it"
  pub reading_index : Then
      (on 12 (Action.At 1 (PointAction.Reading 11 1000 0)) gives Answer.Refused Rejection.IndexDisagrees ∷
      on 12 (Action.At 1 (PointAction.Reading 11 1000 1)) gives Answer.Refused Rejection.IndexDisagrees ∷
      on 12 (Action.At 1 (PointAction.Reading 11 989 0)) gives Answer.Refused Rejection.IndexDisagrees ∷
      on 12 (Action.At 1 (PointAction.Reading 11 990 1)) gives Answer.Refused Rejection.IndexDisagrees ∷
      on 12 (Action.At 1 (PointAction.Reading 11 999 1)) gives Answer.Refused Rejection.IndexDisagrees ∷
      on 12 (Action.At 1 (PointAction.Reading 11 990 0)) gives Answer.Accepted ∷
      on 12 (Action.At 1 (PointAction.Reading 12 989 1)) gives Answer.Accepted ∷
      on 12 (Action.At 2 (PointAction.Reading 12 999 0)) gives Answer.Accepted ∷ [])
  -- 2 before 27, 27 before 28
  pub reading_lowest_number : Then
      (on 12 (Action.At 5 (PointAction.Reading 0 995 0)) gives Answer.Refused Rejection.FalseIdpc ∷
      on 12 (Action.At 5 (PointAction.Reading 13 1000 0)) gives Answer.Refused Rejection.FalseIdpc ∷
      on 12 (Action.At 1 (PointAction.Reading 13 1000 0)) gives Answer.Refused Rejection.ReadingOutOfTime ∷
      on 12 (Action.At 1 (PointAction.Reading 10 989 0)) gives Answer.Refused Rejection.ReadingOutOfTime ∷ [])
  -- meter change: 2; 27: "today .. not after the last reading's day"; 28 for x by the old wheels and for the new index
  -- by the new ones
  pub change_day : Then
      (on 10 (Action.At 5 (change 995 0 3 0 0 2 0)) gives Answer.Refused Rejection.FalseIdpc ∷
      on 10 (Action.At 0 (change 995 0 3 0 0 2 0)) gives Answer.Refused Rejection.FalseIdpc ∷
      on 10 (Action.At 33 (change 995 0 3 0 0 2 0)) gives Answer.Refused Rejection.FalseIdpc ∷
      on 10 (Action.At 1 (change 995 0 3 0 0 2 0)) gives Answer.Refused Rejection.ReadingOutOfTime ∷
      on 10 (Action.At 1 (change 1000 0 3 0 1000 2 0)) gives Answer.Refused Rejection.ReadingOutOfTime ∷
      on 11 (Action.At 1 (change 995 0 3 0 0 2 0)) gives Answer.Accepted ∷
      on 11 (Action.At 1 (change 0 0 3 0 0 2 0)) gives Answer.Refused Rejection.ReadingOutOfTime ∷
      on 11 (Action.At 1 (PointAction.Reading 11 0 0)) gives Answer.Refused Rejection.ReadingOutOfTime ∷ [])
  -- 2 before 27, also on the calendar's first day
  pub change_on_day_0 : Plays (opening 0 2 30 40 1 2)
      (on 0 (Action.At 1 (change 0 0 3 0 0 2 0)) gives Answer.Refused Rejection.FalseIdpc ∷
      on 0 (Action.At 1 (enrol 3 0 0 2 0)) gives Answer.Accepted ∷
      on 0 (Action.At 1 (change 0 0 3 0 0 2 0)) gives Answer.Refused Rejection.ReadingOutOfTime ∷ [])
  pub change_index : Then
      (on 11 (Action.At 1 (change 1000 0 5 0 0 2 0)) gives Answer.Refused Rejection.IndexDisagrees ∷
      on 11 (Action.At 1 (change 989 0 5 0 0 2 0)) gives Answer.Refused Rejection.IndexDisagrees ∷
      on 11 (Action.At 1 (change 990 1 5 0 0 2 0)) gives Answer.Refused Rejection.IndexDisagrees ∷
      on 11 (Action.At 1 (change 995 0 5 0 100000 2 0)) gives Answer.Refused Rejection.IndexDisagrees ∷
      on 11 (Action.At 1 (change 995 0 2 0 100 2 0)) gives Answer.Refused Rejection.IndexDisagrees ∷
      on 11 (Action.At 1 (change 995 0 5 0 99999 2 0)) gives Answer.Accepted ∷
      on 11 (Action.At 2 (change 989 1 2 0 99 2 0)) gives Answer.Accepted ∷ [])
  -- 8: "(d, x) becomes the last reading"; 9: "then the new meter with its index as last reading"
  pub read : ThenKeeps (on 14 (Action.At 1 (PointAction.Reading 12 995 0)) gives Answer.Accepted ∷ []) 1
      (fields true (supply 5 SupplyKind.Contract Pending.Nothing) 77 0 (meter 3 0 Code.Normal) (reading 12 995))
  pub changed : ThenKeeps (on 12 (Action.At 1 (change 995 0 4 2 123 2 0)) gives Answer.Accepted ∷ []) 1
      (fields true (supply 5 SupplyKind.Contract Pending.Nothing) 77 0 (meter 4 2 Code.Normal) (reading 12 123))
  -- and nothing else: the suspension mark stays
  pub read_suspended : ThenKeeps
      (on 11 (Action.At 1 (PointAction.Suspend 1)) gives Answer.Accepted ∷
      on 12 (Action.At 1 (PointAction.Reading 12 995 0)) gives Answer.Accepted ∷
      on 14 (Action.At 1 (change 996 0 4 2 123 2 0)) gives Answer.Accepted ∷ []) 1
      (fields true (supply 5 SupplyKind.Contract Pending.Nothing) 77 1 (meter 4 2 Code.Normal) (reading 14 123))
  -- V = x2 − x1 + z × 10^w, times U: 10 − 990 + 1000 at U = 1000; a reading names no holder
  pub past_zero : ThenShows (on 20 (Action.At 1 (PointAction.Reading 20 10 1)) gives Answer.Accepted ∷ []) 1
      (period 10 5 20000 20000 ∷ []) 20000 20000
  pub no_advance : ThenShows (on 20 (Action.At 1 (PointAction.Reading 20 990 0)) gives Answer.Accepted ∷ []) 1
      (period 10 5 0 0 ∷ []) 0 0
  -- U = 10^(3 − wheels after the comma): 100, 10 and 1
  pub unit_100 : ThenShows
      (on 10 (Action.At 5 (enrol 3 1 0 2 0)) gives Answer.Accepted ∷
      on 12 (Action.At 5 (PointAction.Reading 12 7 0)) gives Answer.Accepted ∷ []) 5
      (period 10 0 700 700 ∷ []) 700 700
  pub unit_10 : ThenShows (on 10 (Action.At 5 (enrol 3 2 0 2 0)) gives Answer.Accepted ∷
      on 12 (Action.At 5 (PointAction.Reading 12 7 0)) gives Answer.Accepted ∷ []) 5
      (period 10 0 70 70 ∷ []) 70 70
  pub unit_1 : ThenShows (on 10 (Action.At 5 (enrol 3 3 0 2 0)) gives Answer.Accepted ∷
      on 12 (Action.At 5 (PointAction.Reading 12 7 0)) gives Answer.Accepted ∷ []) 5
      (period 10 0 7 7 ∷ []) 7 7
  -- a meter change is read with the old meter's U and the old wheels, the next reading with the new one's
  pub unit_of_the_meter_read : ThenShows
      (on 20 (Action.At 1 (change 997 0 3 3 0 2 0)) gives Answer.Accepted ∷
      on 30 (Action.At 1 (PointAction.Reading 30 7 0)) gives Answer.Accepted ∷ []) 1
      (period 10 5 7007 7007 ∷ []) 7007 7007
  pub change_past_zero : ThenShows (on 20 (Action.At 1 (change 10 1 5 0 7 2 0)) gives Answer.Accepted ∷
      []) 1
      (period 10 5 20000 20000 ∷ []) 20000 20000
  -- a late reading is booked over the periods that its days lie in; the reading's own day is not among them
  pub late_reading : ThenShows
      (on 12 (Action.At 2 (PointAction.IntoService 5 77)) gives Answer.Accepted ∷
      on 14 (Action.At 2 PointAction.OutOfService) gives Answer.Accepted ∷
      on 30 (Action.At 2 (PointAction.Reading 15 1000 0)) gives Answer.Refused Rejection.IndexDisagrees ∷
      on 30 (Action.At 2 (PointAction.Reading 15 0 1)) gives Answer.Accepted ∷ []) 2
      (period 10 0 4000 4000 ∷ period 12 5 4000 4000 ∷ period 14 0 2000 2000 ∷ []) 10000 10000
  pub own_day_not_booked : ThenShows
      (on 12 (Action.At 2 (PointAction.IntoService 5 77)) gives Answer.Accepted ∷
      on 12 (Action.At 2 (PointAction.Reading 12 999 0)) gives Answer.Accepted ∷ []) 2
      (period 10 0 9000 9000 ∷ period 12 5 0 0 ∷ []) 9000 9000
  -- a period that starts after the reading's day gets nothing of it, and the one before it no more than its days up to
  -- there
  pub reading_before_the_newest_period : ThenShows
      (on 12 (Action.At 2 (PointAction.IntoService 5 77)) gives Answer.Accepted ∷
      on 16 (Action.At 2 PointAction.OutOfService) gives Answer.Accepted ∷
      on 30 (Action.At 2 (PointAction.Reading 14 994 0)) gives Answer.Accepted ∷ []) 2
      (period 10 0 2000 2000 ∷ period 12 5 2000 2000 ∷ period 16 0 0 0 ∷ []) 4000 4000
  -- another point's reading books nothing here
  pub other_point_not_booked : ThenShows
      (on 20 (Action.At 1 (PointAction.Reading 20 10 1)) gives Answer.Accepted ∷ []) 2 (period 10 0 0 0 ∷ []) 0 0
  -- the second reading is split like the first, also where a period holds days of both: 4 units, then 6, over holders
  -- 0, 5 and 0
  pub two_readings : ThenShows
      (on 12 (Action.At 2 (PointAction.IntoService 5 77)) gives Answer.Accepted ∷
      on 14 (Action.At 2 (PointAction.Reading 14 994 0)) gives Answer.Accepted ∷
      on 16 (Action.At 2 PointAction.OutOfService) gives Answer.Accepted ∷
      on 20 (Action.At 2 (PointAction.Reading 20 0 1)) gives Answer.Accepted ∷ []) 2
      (period 10 0 2000 2000 ∷ period 12 5 4000 4000 ∷ period 16 0 4000 4000 ∷ []) 10000 10000
  -- 1 unit over 3 days falls on the last of them: floor, floor, and the rest
  pub one_unit_in_three_days : ThenShows
      (on 12 (Action.At 2 (PointAction.IntoService 5 77)) gives Answer.Accepted ∷
      on 13 (Action.At 2 (PointAction.Reading 13 991 0)) gives Answer.Accepted ∷ []) 2
      (period 10 0 0 0 ∷ period 12 5 1000 1000 ∷ []) 1000 1000
