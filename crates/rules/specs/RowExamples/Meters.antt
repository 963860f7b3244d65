-- 02, F-4: the code and the factor of a meter, 22 and 40, and normal cubic metres. Definitions only.
use Rattle.rules.specs.declared.{Rejection.Rejection}
use Rattle.std.specs.Prelude.{true, false, List, [], ◌∷◌, ◌++◌, ℕ}
use Rattle.rules.specs.declared.{Code.Code, SupplyKind.SupplyKind, Pending.Pending, Action.Action}
use Rattle.rules.specs.declared.{PointAction.PointAction, Answer.Answer}
use Rattle.rules.specs.Fields.{supply, meter, reading, fields, unsupplied}
use Rattle.rules.specs.Pinned.Register.{period}
use Rattle.rules.specs.Scenes.{Line, ◌gives◌, opening, on, enrol, change, Plays, Shows}
use Rattle.rules.specs.RowExamples.Scene.{Then, ThenKeeps, ThenShows, each}

-- At point 5, which is not enrolled, and at point 1, which is: meters whose code is none, and whose factor is none.
abbrev no_code : List Action
no_code =
    Action.At 5 (enrol 3 0 990 0 0) ∷ Action.At 5 (enrol 3 0 990 3 0) ∷ Action.At 5 (enrol 3 0 990 0 1) ∷
    Action.At 5 (enrol 3 0 990 3 1) ∷ Action.At 1 (change 995 0 3 0 0 0 0) ∷ Action.At 1 (change 995 0 3 0 0 3 0) ∷ []

abbrev no_factor : List Action
no_factor =
    Action.At 5 (enrol 3 0 990 1 0) ∷ Action.At 5 (enrol 3 0 990 1 100000) ∷
    Action.At 5 (enrol 3 0 990 2 1) ∷ Action.At 5 (enrol 3 0 990 2 10000) ∷
    Action.At 1 (change 995 0 3 0 0 1 0) ∷ Action.At 1 (change 995 0 3 0 0 1 100000) ∷
    Action.At 1 (change 995 0 3 0 0 2 1) ∷ Action.At 1 (change 995 0 3 0 0 2 10000) ∷ []

-- From day 8,000 on: point 1 with a meter of three wheels after the comma, so that U = 1.
abbrev opens : ℕ → ℕ → List Line
opens code factor =
    on 8000 (Action.Contract 5) gives Answer.Accepted ∷
    on 8000 (Action.At 1 (enrol 4 3 100 code factor)) gives Answer.Accepted ∷ []

-- Supplier 5 comes on the day k = 3 of a reading of 7 units over 10 days.
abbrev seven_in_ten : ℕ → ℕ → List Line
seven_in_ten code factor =
    opens code factor ++
    (on 8003 (Action.At 1 (PointAction.IntoService 5 77)) gives Answer.Accepted ∷
    on 8010 (Action.At 1 (PointAction.Reading 8010 107 0)) gives Answer.Accepted ∷ [])

-- With A = 2 and B = 3 default supply ends on 8,002 and last resort on 8,005: k = 2 and 5 of 7 units over 10 days.
abbrev lapsed : List Line
lapsed =
    opens 1 9500 ++
    (on 8000 (Action.At 1 (PointAction.DefaultSupply 77)) gives Answer.Accepted ∷
    on 8010 (Action.At 1 (PointAction.Reading 8010 107 0)) gives Answer.Accepted ∷ [])

abbrev one_and_one : ℕ → List Line
one_and_one factor =
    opens 1 factor ++
    (on 8001 (Action.At 1 (PointAction.Reading 8001 101 0)) gives Answer.Accepted ∷
    on 8002 (Action.At 1 (PointAction.Reading 8002 102 0)) gives Answer.Accepted ∷ [])

pub record MeterExamples : Type 0 where
  -- "the code of the meter (1 for m³, 2 for Nm³, anything else 22)"
  pub code_22 : Then (each 11 (Answer.Refused Rejection.FieldOutOfRange) no_code)
  -- 40: "factor out of range or not 0 on an Nm³ meter"; the range is "1 to 99,999"
  pub factor_40 : Then (each 11 (Answer.Refused Rejection.FactorOutOfRange) no_factor)
  pub factors : Then
      (on 11 (Action.At 5 (enrol 3 0 990 1 1)) gives Answer.Accepted ∷
      on 11 (Action.At 6 (enrol 3 0 990 1 99999)) gives Answer.Accepted ∷
      on 11 (Action.At 7 (enrol 3 0 990 2 0)) gives Answer.Accepted ∷
      on 11 (Action.At 1 (change 995 0 3 0 0 1 1)) gives Answer.Accepted ∷
      on 12 (Action.At 1 (change 0 0 3 0 0 1 99999)) gives Answer.Accepted ∷
      on 13 (Action.At 1 (change 0 0 3 0 0 2 0)) gives Answer.Accepted ∷ [])
  -- "tested directly after 22": 22 comes before 40
  pub after_22 : Then
      (on 11 (Action.At 5 (enrol 9 0 990 1 0)) gives Answer.Refused Rejection.FieldOutOfRange ∷
      on 11 (Action.At 5 (enrol 0 0 990 2 1)) gives Answer.Refused Rejection.FieldOutOfRange ∷
      on 11 (Action.At 5 (enrol 3 4 990 1 100000)) gives Answer.Refused Rejection.FieldOutOfRange ∷
      on 11 (Action.At 1 (change 995 2 3 0 0 1 0)) gives Answer.Refused Rejection.FieldOutOfRange ∷
      on 11 (Action.At 1 (change 995 0 9 0 0 1 0)) gives Answer.Refused Rejection.FieldOutOfRange ∷ [])
  -- and 40 before 20, before 21 and before all others, which come where the factor is in range
  pub before_20 : Then (each 73049 (Answer.Refused Rejection.FactorOutOfRange) no_factor)
  pub before_21 : Then (each 9 (Answer.Refused Rejection.FactorOutOfRange) no_factor)
  pub then_20_and_21 : Then
      (on 73049 (Action.At 5 (enrol 3 0 990 1 1)) gives Answer.Refused Rejection.OffTheCalendar ∷
      on 73049 (Action.At 1 (change 995 0 3 0 0 1 1)) gives Answer.Refused Rejection.OffTheCalendar ∷
      on 9 (Action.At 5 (enrol 3 0 990 1 1)) gives Answer.Refused Rejection.DayRunsBack ∷
      on 9 (Action.At 1 (change 995 0 3 0 0 1 1)) gives Answer.Refused Rejection.DayRunsBack ∷ [])
  pub before_2_23_27_28 : Then
      (on 11 (Action.At 33 (enrol 3 0 990 1 0)) gives Answer.Refused Rejection.FactorOutOfRange ∷
      on 11 (Action.At 33 (enrol 3 0 990 1 1)) gives Answer.Refused Rejection.FalseIdpc ∷
      on 11 (Action.At 1 (enrol 3 0 990 1 0)) gives Answer.Refused Rejection.FactorOutOfRange ∷
      on 11 (Action.At 1 (enrol 3 0 990 1 1)) gives Answer.Refused Rejection.AlreadyEnrolled ∷
      on 11 (Action.At 5 (enrol 3 0 1000 1 0)) gives Answer.Refused Rejection.FactorOutOfRange ∷
      on 11 (Action.At 5 (enrol 3 0 1000 1 1)) gives Answer.Refused Rejection.IndexDisagrees ∷
      on 11 (Action.At 5 (change 995 0 3 0 0 1 0)) gives Answer.Refused Rejection.FactorOutOfRange ∷
      on 11 (Action.At 5 (change 995 0 3 0 0 1 1)) gives Answer.Refused Rejection.FalseIdpc ∷
      on 11 (Action.At 33 (change 995 0 3 0 0 2 1)) gives Answer.Refused Rejection.FactorOutOfRange ∷
      on 11 (Action.At 33 (change 995 0 3 0 0 2 0)) gives Answer.Refused Rejection.FalseIdpc ∷ [])
  pub change_before_27_28 : Plays (opening 8000 2 30 40 1 2)
      (opens 1 9500 ++
      (on 8000 (Action.At 1 (change 105 0 3 0 0 2 1)) gives Answer.Refused Rejection.FactorOutOfRange ∷
      on 8000 (Action.At 1 (change 105 0 3 0 0 2 0)) gives Answer.Refused Rejection.ReadingOutOfTime ∷
      on 8001 (Action.At 1 (change 105 1 3 0 0 2 1)) gives Answer.Refused Rejection.FactorOutOfRange ∷
      on 8001 (Action.At 1 (change 105 1 3 0 0 2 0)) gives Answer.Refused Rejection.IndexDisagrees ∷ []))
  -- what the meter then is, with its factor where it counts m³
  pub enrolled_cubic : ThenKeeps (on 12 (Action.At 5 (enrol 4 2 123 1 9500)) gives Answer.Accepted ∷ []) 5
      (fields true unsupplied 0 0 (meter 4 2 (Code.Cubic 9500)) (reading 12 123))
  pub enrolled_normal : ThenKeeps (on 12 (Action.At 5 (enrol 4 2 123 2 0)) gives Answer.Accepted ∷ []) 5
      (fields true unsupplied 0 0 (meter 4 2 Code.Normal) (reading 12 123))
  pub changed_to_cubic : ThenKeeps (on 12 (Action.At 1 (change 995 0 4 2 123 1 99999)) gives Answer.Accepted ∷ []) 1
      (fields true (supply 5 SupplyKind.Contract Pending.Nothing) 77 0 (meter 4 2 (Code.Cubic 99999)) (reading 12 123))
  -- "floor(m³ total to that day × factor / 10,000)", the total in thousandths: V = 1 at U = 1,000
  pub in_thousandths : ThenShows
      (on 11 (Action.At 5 (enrol 3 0 0 1 9999)) gives Answer.Accepted ∷
      on 12 (Action.At 5 (PointAction.Reading 12 1 0)) gives Answer.Accepted ∷ []) 5
      (period 11 0 1000 999 ∷ []) 1000 999
  -- "a day's part is the difference of two such totals": a new holder at k = 3 gets the rest of the converted total
  pub by_seven_in_ten : Shows (opening 8000 2 30 40 1 2) (seven_in_ten 1 9500) 1
      (period 8000 0 2 1 ∷ period 8003 5 5 5 ∷ []) 7 6
  pub seven_in_ten_half : Shows (opening 8000 2 30 40 1 2) (seven_in_ten 1 5000) 1
      (period 8000 0 2 1 ∷ period 8003 5 5 2 ∷ []) 7 3
  pub seven_in_ten_most : Shows (opening 8000 2 30 40 1 2) (seven_in_ten 1 99999) 1
      (period 8000 0 2 19 ∷ period 8003 5 5 50 ∷ []) 7 69
  pub seven_in_ten_least : Shows (opening 8000 2 30 40 1 2) (seven_in_ten 1 1) 1
      (period 8000 0 2 0 ∷ period 8003 5 5 0 ∷ []) 7 0
  -- split by a switch at k = 21 of 7 units over 22 days, and by what falls due before the reading comes: rounded by
  -- themselves the periods would get 5 and 0; 0, 1 and 3
  pub split_by_a_switch : ThenShows
      (on 11 (Action.At 5 (enrol 4 3 100 1 9500)) gives Answer.Accepted ∷
      on 11 (Action.At 5 (PointAction.IntoService 5 77)) gives Answer.Accepted ∷
      on 11 (Action.At 5 (PointAction.Request 6 77 11)) gives Answer.AcceptedOn 32 ∷
      on 33 (Action.At 5 (PointAction.Reading 33 107 0)) gives Answer.Accepted ∷ []) 5
      (period 11 5 6 5 ∷ period 32 6 1 1 ∷ []) 7 6
  pub split_by_two_deadlines : Shows (opening 8000 2 2 3 1 2) lapsed 1
      (period 8000 1 1 0 ∷ period 8002 2 2 2 ∷ period 8005 0 4 4 ∷ []) 7 6
  -- "an Nm³ meter passes its volume on, as with 10,000"
  pub seven_in_ten_normal : Shows (opening 8000 2 30 40 1 2) (seven_in_ten 2 0) 1
      (period 8000 0 2 2 ∷ period 8003 5 5 5 ∷ []) 7 7
  pub seven_in_ten_as_normal : Shows (opening 8000 2 30 40 1 2) (seven_in_ten 1 10000) 1
      (period 8000 0 2 2 ∷ period 8003 5 5 5 ∷ []) 7 7
  -- "For each reading": nothing is carried over to the next one
  pub no_carry : Shows (opening 8000 2 30 40 1 2) (one_and_one 5000) 1 (period 8000 0 2 0 ∷ []) 2 0
  pub a_whole_one_each : Shows (opening 8000 2 30 40 1 2) (one_and_one 10000) 1 (period 8000 0 2 2 ∷ []) 2 2
  pub nearly_two_each : Shows (opening 8000 2 30 40 1 2) (one_and_one 19999) 1 (period 8000 0 2 2 ∷ []) 2 2
  -- "sums its readings' converted totals": a meter change's reading goes by the old meter's factor, the next by the new
  -- one's; "The booked volume stays the wheels' own, for either meter", so one period may have both
  pub cubic_then_normal : ThenShows
      (on 11 (Action.At 5 (enrol 3 0 0 1 9500)) gives Answer.Accepted ∷
      on 12 (Action.At 5 (change 10 0 3 0 0 2 0)) gives Answer.Accepted ∷
      on 13 (Action.At 5 (PointAction.Reading 13 5 0)) gives Answer.Accepted ∷ []) 5
      (period 11 0 15000 14500 ∷ []) 15000 14500
  pub normal_then_cubic : ThenShows
      (on 12 (Action.At 1 (change 995 0 3 0 0 1 20000)) gives Answer.Accepted ∷
      on 13 (Action.At 1 (PointAction.Reading 13 5 0)) gives Answer.Accepted ∷ []) 1
      (period 10 5 10000 15000 ∷ []) 10000 15000
  pub old_factor_at_a_change : ThenShows
      (on 11 (Action.At 5 (enrol 3 0 0 1 99999)) gives Answer.Accepted ∷
      on 12 (Action.At 5 (change 500 0 3 0 0 1 1)) gives Answer.Accepted ∷ []) 5
      (period 11 0 500000 4999950 ∷ []) 500000 4999950
  -- past zero, and the largest advance with the largest factor
  pub cubic_past_zero : ThenShows
      (on 11 (Action.At 5 (enrol 3 0 990 1 9500)) gives Answer.Accepted ∷
      on 21 (Action.At 5 (PointAction.Reading 21 10 1)) gives Answer.Accepted ∷ []) 5
      (period 11 0 20000 19000 ∷ []) 20000 19000
  pub largest : ThenShows
      (on 11 (Action.At 5 (enrol 8 3 0 1 99999)) gives Answer.Accepted ∷
      on 12 (Action.At 5 (PointAction.Reading 12 99999999999 0)) gives Answer.Accepted ∷ []) 5
      (period 11 0 99999999999 999989999990 ∷ []) 99999999999 999989999990
