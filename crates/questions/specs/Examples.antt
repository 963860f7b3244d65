-- Document 01, "Volumes": the questions, and 22 off their range or on a point not enrolled. Definitions only.
use Rattle.std.specs.Prelude.{◌≡◌, [], ◌∷◌, ◌++◌, Some}
use Rattle.rules.specs.declared.{Register.Register, Action.Action, PointAction.PointAction, Answer.Answer}
use Rattle.rules.specs.Pinned.Register.{period, history, on}
use Rattle.rules.specs.Periods.{register}
use Rattle.rules.specs.Scenes.{◌gives◌, opening, calls, enrol}
use Rattle.rules.specs.RowExamples.Scene.{opens, ready}
use Rattle.questions.specs.Pinned.Questions.{holder_number, period_number, advance_number, held, refused_holder}
use Rattle.questions.specs.Pinned.Questions.{advances, holder_in, holder_answer, period_answer, advance_answer}

-- Point 32 is enrolled on day 12, served by 5 from day 15 and read on day 22; the register's day is 25.
abbrev r : Register
r =
    register opens
    (calls
    (ready ++
    (on 12 (Action.At 32 (enrol 3 0 100 2 0)) gives Answer.Accepted ∷
    on 15 (Action.At 32 (PointAction.IntoService 5 77)) gives Answer.Accepted ∷
    on 22 (Action.At 32 (PointAction.Reading 22 110 0)) gives Answer.Accepted ∷ on 25 Action.Day gives Answer.Accepted ∷
    [])))

-- Point 1 is enrolled on day 8,000, held by 5 from 8,003 to the day before 8,030, then by none; the register's day is
-- 8,040.
abbrev thrice : Register
thrice =
    register (opening 8000 2 30 40 1 2)
    (on 8000 (Action.Contract 5) ∷ on 8000 (Action.At 1 (enrol 3 0 990 2 0)) ∷
    on 8003 (Action.At 1 (PointAction.IntoService 5 77)) ∷ on 8030 (Action.At 1 PointAction.OutOfService) ∷
    on 8040 Action.Day ∷ [])

-- Points 1 and 2 have meters that count cubic metres, in thousandths, with factors 9,500 and 5,000. Point 1 is held by
-- 5 from 8,003 and read once, over ten days; point 2 is read twice.
abbrev cubic : Register
cubic =
    register (opening 8000 2 30 40 1 2)
    (on 8000 (Action.Contract 5) ∷ on 8000 (Action.At 1 (enrol 1 3 0 1 9500)) ∷
    on 8000 (Action.At 2 (enrol 1 3 0 1 5000)) ∷ on 8001 (Action.At 2 (PointAction.Reading 8001 1 0)) ∷
    on 8002 (Action.At 2 (PointAction.Reading 8002 2 0)) ∷ on 8003 (Action.At 1 (PointAction.IntoService 5 77)) ∷
    on 8010 (Action.At 1 (PointAction.Reading 8010 7 0)) ∷ [])

pub record QuestionExamples : Type 0 where
  -- 02, F-1: "begin at the newest period, stop at the first that starts on or before the day"
  pub newest_on_registers_day : holder_answer thrice 1 8040 ≡ held 0 1
  pub newest_on_its_start : holder_answer thrice 1 8030 ≡ held 0 1
  pub second_on_its_last_day : holder_answer thrice 1 8029 ≡ held 5 2
  pub second_on_its_start : holder_answer thrice 1 8003 ≡ held 5 2
  pub oldest_on_its_last_day : holder_answer thrice 1 8002 ≡ held 0 3
  pub oldest_on_its_start : holder_answer thrice 1 8000 ≡ held 0 3
  -- "a refusal reports 0"
  pub day_before_enrolment : holder_answer thrice 1 7999 ≡ refused_holder
  pub day_after_the_registers : holder_answer thrice 1 8041 ≡ refused_holder
  pub another_point : holder_answer thrice 2 8030 ≡ refused_holder
  -- starts that no calls make: the search stops at the newest that has begun
  pub starts_that_fall :
      holder_in 8 (history 3 (period 5 1 0 0 ∷ period 9 2 0 0 ∷ period 7 3 0 0 ∷ [])) ≡ held 3 1
  -- "holder of p on day d (enrolment to register's day)", and how many periods were looked at; "a refusal reports 0"
  pub holder_before_enrolment : holder_number (holder_answer r 32 11) ≡ 22
  pub before_enrolment_no_look : holder_answer r 32 11 ≡ refused_holder
  pub holder_on_enrolment : holder_answer r 32 12 ≡ held 0 2
  pub holder_on_14 : holder_answer r 32 14 ≡ held 0 2
  pub holder_on_15 : holder_answer r 32 15 ≡ held 5 1
  pub holder_on_registers_day : holder_answer r 32 25 ≡ held 5 1
  pub holder_after_registers_day : holder_answer r 32 26 ≡ refused_holder
  -- "period n of p (start, holder, volume; n from 1 to their count)"
  pub period_0 : period_number (period_answer r 32 0) ≡ 22
  pub period_1 : period_answer r 32 1 ≡ Some (period 12 0 3000 3000)
  pub period_2 : period_answer r 32 2 ≡ Some (period 15 5 7000 7000)
  pub period_3 : period_number (period_answer r 32 3) ≡ 22
  -- "advance of p"
  pub advance : advance_answer r 32 ≡ Some (advances 10000 10000)
  pub advance_not_read : advance_answer r 1 ≡ Some (advances 0 0)
  -- 02, F-4: "the converted total up to a day is floor(m³ total to that day × factor / 10,000), and a day's part is the
  -- difference of two such totals": 0 0 0 1 1 2 3 3 4 5 6, and the holder changes after three days
  pub cubic_period_1 : period_answer cubic 1 1 ≡ Some (period 8000 0 2 1)
  pub cubic_period_2 : period_answer cubic 1 2 ≡ Some (period 8003 5 5 5)
  -- "a point's Nm³ advance .. sums its readings' converted totals": each reading's by itself
  pub cubic_advance : advance_answer cubic 1 ≡ Some (advances 7 6)
  pub cubic_advance_of_two : advance_answer cubic 2 ≡ Some (advances 2 0)
  -- off the range of points, or not enrolled
  pub holder_of_0 : holder_answer r 0 20 ≡ refused_holder
  pub holder_of_33 : holder_answer r 33 20 ≡ refused_holder
  pub holder_not_enrolled : holder_answer r 31 20 ≡ refused_holder
  pub period_of_0 : period_number (period_answer r 0 1) ≡ 22
  pub period_of_33 : period_number (period_answer r 33 1) ≡ 22
  pub period_not_enrolled : period_number (period_answer r 31 1) ≡ 22
  pub advance_of_0 : advance_number (advance_answer r 0) ≡ 22
  pub advance_of_33 : advance_number (advance_answer r 33) ≡ 22
  pub advance_not_enrolled : advance_number (advance_answer r 31) ≡ 22
