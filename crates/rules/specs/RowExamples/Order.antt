-- Document 01, "Rejection codes": "Order: 31, 22, 20, 21, then the lowest number that applies", for each of the twelve
-- calls; 31 is for lines. Definitions only.
use Rattle.rules.specs.declared.{Rejection.Rejection}
use Rattle.std.specs.Prelude.{List, [], ◌∷◌, ◌++◌}
use Rattle.rules.specs.declared.{Action.Action, PointAction.PointAction, Answer.Answer}
use Rattle.rules.specs.Scenes.{Line, ◌gives◌, opening, on, Plays, enrol, change}
use Rattle.rules.specs.RowExamples.Scene.{Then, ThenIsOn, each}

-- The twelve calls in the paper's order, each with good fields.
abbrev twelve : List Action
twelve =
    Action.Contract 7 ∷ Action.Failure 5 ∷ Action.At 5 (enrol 3 0 990 2 0) ∷
    Action.At 2 (PointAction.IntoService 5 77) ∷ Action.At 2 (PointAction.DefaultSupply 77) ∷
    Action.At 1 (PointAction.Request 6 77 31) ∷
    Action.At 4 (PointAction.Cancel 6) ∷ Action.At 1 (PointAction.Reading 11 995 0) ∷
    Action.At 1 (change 995 0 3 0 0 2 0) ∷ Action.At 1 PointAction.OutOfService ∷
    Action.At 1 (PointAction.Suspend 1) ∷ Action.Day ∷ []

-- 22: "s, key, wheels, z, mark .. outside its range": each field of each call, one below its range and one above it. p
-- and an index are not among them.
abbrev outside_the_range : List Action
outside_the_range =
    Action.Contract 0 ∷ Action.Contract 100 ∷ Action.Failure 0 ∷ Action.Failure 100 ∷
    Action.At 5 (enrol 0 0 0 2 0) ∷ Action.At 5 (enrol 9 0 0 2 0) ∷
    Action.At 5 (enrol 1 4 0 2 0) ∷
    Action.At 2 (PointAction.IntoService 0 77) ∷ Action.At 2 (PointAction.IntoService 100 77) ∷
    Action.At 2 (PointAction.IntoService 5 0) ∷ Action.At 2 (PointAction.IntoService 5 1000000000) ∷
    Action.At 2 (PointAction.DefaultSupply 0) ∷ Action.At 2 (PointAction.DefaultSupply 1000000000) ∷
    Action.At 1 (PointAction.Request 0 77 31) ∷ Action.At 1 (PointAction.Request 100 77 31) ∷
    Action.At 1 (PointAction.Request 6 0 31) ∷ Action.At 1 (PointAction.Request 6 1000000000 31) ∷
    Action.At 4 (PointAction.Cancel 0) ∷ Action.At 4 (PointAction.Cancel 100) ∷
    Action.At 1 (PointAction.Reading 11 995 2) ∷ Action.At 1 (change 995 2 3 0 0 2 0) ∷
    Action.At 1 (change 995 0 0 0 0 2 0) ∷
    Action.At 1 (change 995 0 9 0 0 2 0) ∷ Action.At 1 (change 995 0 1 4 0 2 0) ∷
    Action.At 1 (PointAction.Suspend 2) ∷ []

-- The last days of the calendar: point 1 is served by 5, whose contract and the service are of day 72,970.
abbrev late : List Line
late =
    on 72970 (Action.Contract 5) gives Answer.Accepted ∷
    on 72970 (Action.At 1 (enrol 3 0 990 2 0)) gives Answer.Accepted ∷
    on 72970 (Action.At 1 (PointAction.IntoService 5 77)) gives Answer.Accepted ∷
    on 72970 (Action.At 2 (enrol 3 0 990 2 0)) gives Answer.Accepted ∷ []

pub record OrderExamples : Type 0 where
  -- 20: "a day given is past 73,048"; 21: "today before the register's day"
  pub today_73049 : Then (each 73049 (Answer.Refused Rejection.OffTheCalendar) twelve)
  pub today_9 : Then (each 9 (Answer.Refused Rejection.DayRunsBack) twelve)
  -- and on day 11 the same calls go through, the failure last
  pub today_11 : Then
      (on 11 (Action.Contract 7) gives Answer.Accepted ∷
      on 11 (Action.At 5 (enrol 3 0 990 2 0)) gives Answer.Accepted ∷
      on 11 (Action.At 2 (PointAction.IntoService 5 77)) gives Answer.Accepted ∷
      on 11 (Action.At 5 (PointAction.DefaultSupply 77)) gives Answer.Accepted ∷
      on 11 (Action.At 1 (PointAction.Request 6 77 31)) gives Answer.AcceptedOn 32 ∷
      on 11 (Action.At 4 (PointAction.Cancel 6)) gives Answer.Accepted ∷
      on 11 (Action.At 1 (PointAction.Reading 11 995 0)) gives Answer.Accepted ∷
      on 11 (Action.At 2 (change 995 0 3 0 0 2 0)) gives Answer.Accepted ∷
      on 11 (Action.At 1 PointAction.OutOfService) gives Answer.Accepted ∷
      on 11 (Action.At 1 (PointAction.Suspend 1)) gives Answer.Accepted ∷ on 11 Action.Day gives Answer.Accepted ∷
      on 11 (Action.Failure 5) gives Answer.Accepted ∷ [])
  -- 22 comes before 20 and before 21
  pub out_of_range : Then (each 11 (Answer.Refused Rejection.FieldOutOfRange) outside_the_range)
  pub out_of_range_before_20 : Then (each 73049 (Answer.Refused Rejection.FieldOutOfRange) outside_the_range)
  pub out_of_range_before_21 : Then (each 9 (Answer.Refused Rejection.FieldOutOfRange) outside_the_range)
  pub out_of_range_before_2 : Then
      (on 11 (Action.At 33 (PointAction.Reading 11 995 2)) gives Answer.Refused Rejection.FieldOutOfRange ∷
      on 11 (Action.At 33 (enrol 9 0 0 2 0)) gives Answer.Refused Rejection.FieldOutOfRange ∷
      on 11 (Action.At 33 (PointAction.Suspend 2)) gives Answer.Refused Rejection.FieldOutOfRange ∷ [])
  -- the ends of the ranges
  pub in_range : Then
      (on 11 (Action.Contract 99) gives Answer.Accepted ∷ on 11 (Action.Contract 1) gives Answer.Accepted ∷
      on 11 (Action.At 1 (PointAction.Request 6 1 31)) gives Answer.Refused Rejection.NameDiffers ∷
      on 11 (Action.At 1 (PointAction.Request 6 999999999 31)) gives Answer.Refused Rejection.NameDiffers ∷
      on 11 (Action.At 1 (PointAction.Request 1 77 31)) gives Answer.AcceptedOn 32 ∷
      on 11 (Action.At 4 (PointAction.Cancel 1)) gives Answer.Refused Rejection.NothingPending ∷
      on 11 (Action.At 4 (PointAction.Cancel 99)) gives Answer.Refused Rejection.NothingPending ∷
      on 11 (Action.At 2 (PointAction.IntoService 99 999999999)) gives Answer.Accepted ∷
      on 11 (Action.At 2 PointAction.OutOfService) gives Answer.Accepted ∷
      on 11 (Action.At 2 (PointAction.IntoService 1 1)) gives Answer.Accepted ∷
      on 11 (Action.At 2 PointAction.OutOfService) gives Answer.Accepted ∷
      on 11 (Action.At 2 (PointAction.DefaultSupply 999999999)) gives Answer.Accepted ∷
      on 11 (Action.At 2 PointAction.OutOfService) gives Answer.Accepted ∷
      on 11 (Action.At 2 (PointAction.DefaultSupply 1)) gives Answer.Accepted ∷
      on 11 (Action.At 5 (enrol 8 3 0 2 0)) gives Answer.Accepted ∷
      on 11 (Action.At 6 (enrol 1 0 0 2 0)) gives Answer.Accepted ∷
      on 11 (Action.At 1 (change 990 0 8 3 0 2 0)) gives Answer.Accepted ∷
      on 12 (Action.At 1 (change 0 0 1 0 0 2 0)) gives Answer.Accepted ∷
      on 12 (Action.At 1 (PointAction.Suspend 1)) gives Answer.Accepted ∷
      on 12 (Action.At 1 (PointAction.Suspend 0)) gives Answer.Accepted ∷
      on 12 (Action.Failure 99) gives Answer.Accepted ∷
      on 12 (Action.Failure 1) gives Answer.Refused Rejection.ProtectedSupplier ∷ [])
  -- 20: "default: today + A + B is; failure: today + B is"; the sums alone, whatever p and s are, and 73,048 itself is
  -- allowed
  pub sums_off_the_calendar : Plays (opening 72970 2 30 40 1 2)
      (late ++
      (on 72979 (Action.At 2 (PointAction.DefaultSupply 77)) gives Answer.Refused Rejection.OffTheCalendar ∷
      on 72979 (Action.At 33 (PointAction.DefaultSupply 77)) gives Answer.Refused Rejection.OffTheCalendar ∷
      on 72978 (Action.At 33 (PointAction.DefaultSupply 77)) gives Answer.Refused Rejection.FalseIdpc ∷
      on 72978 (Action.At 2 (PointAction.DefaultSupply 77)) gives Answer.Accepted ∷
      on 73009 (Action.Failure 5) gives Answer.Refused Rejection.OffTheCalendar ∷ on 73009 (Action.Failure 7) gives Answer.Refused Rejection.OffTheCalendar ∷
      on 73008 (Action.Failure 7) gives Answer.Refused Rejection.NoTransportContract ∷
      on 73008 (Action.Failure 5) gives Answer.Accepted ∷ on 73049 Action.Day gives Answer.Refused Rejection.OffTheCalendar ∷
      on 73048 Action.Day gives Answer.Accepted ∷ []))
  -- 20 before 21: with the same days the sums and the days given beside today count first
  pub off_the_calendar_before_21 : Plays (opening 73040 2 30 40 1 2)
      (on 73009 (Action.Failure 5) gives Answer.Refused Rejection.OffTheCalendar ∷ on 73008 (Action.Failure 5) gives Answer.Refused Rejection.DayRunsBack ∷
      on 72979 (Action.At 1 (PointAction.DefaultSupply 77)) gives Answer.Refused Rejection.OffTheCalendar ∷
      on 72978 (Action.At 1 (PointAction.DefaultSupply 77)) gives Answer.Refused Rejection.DayRunsBack ∷
      on 73039 (Action.At 1 (PointAction.Request 1 77 73049)) gives Answer.Refused Rejection.OffTheCalendar ∷
      on 73039 (Action.At 1 (PointAction.Request 1 77 73048)) gives Answer.Refused Rejection.DayRunsBack ∷
      on 73039 (Action.At 1 (PointAction.Reading 73049 0 0)) gives Answer.Refused Rejection.OffTheCalendar ∷
      on 73039 (Action.At 1 (PointAction.Reading 73048 0 0)) gives Answer.Refused Rejection.DayRunsBack ∷ [])
  -- "a refused call changes nothing, the register's day included": after refusals on later days an earlier call still
  -- goes through
  pub refused_moves_no_day : Then
      (on 60 (Action.At 33 (PointAction.Suspend 1)) gives Answer.Refused Rejection.FalseIdpc ∷
      on 50 (Action.Failure 7) gives Answer.Refused Rejection.NoTransportContract ∷ on 12 Action.Day gives Answer.Accepted ∷
      on 11 Action.Day gives Answer.Refused Rejection.DayRunsBack ∷ on 12 Action.Day gives Answer.Accepted ∷ [])
  pub refused_moves_no_day_after : ThenIsOn
      (on 12 Action.Day gives Answer.Accepted ∷ on 60 (Action.At 33 (PointAction.Suspend 1)) gives Answer.Refused Rejection.FalseIdpc ∷
      []) 12
