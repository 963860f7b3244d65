-- Document 01, "Dated examples": the proved table, a field or more for each sentence marked P, with the sentence above
-- it, and those that document 02 adds; the sample input of "Message lines"; and the right result beside each mistake
-- seen. proofs/Examples.antt proves it. Definitions only.
use Rattle.rules.specs.declared.{Rejection.Rejection}
use Rattle.std.specs.Prelude.{◌≡◌, true, false, List, [], ◌∷◌, ◌++◌, ℕ, ◌+◌, ◌-◌, Some, None}
use Rattle.dates.specs.Dates.{date}
use Rattle.dates.specs.Numbers.{day_answer, date_answer}
use Rattle.dates.specs.Months.{three_months_after}
use Rattle.holidays.specs.Easter.{month_day, easter_sunday, easter_day}
use Rattle.holidays.specs.Holidays.{is_fixed_holiday, is_after_easter}
use Rattle.holidays.specs.Working.{is_working, working_between}
use Rattle.rules.specs.declared.{Span.Span, Opening.Opening, Pending.Pending, Action.Action}
use Rattle.rules.specs.declared.{PointAction.PointAction, Answer.Answer}
use Rattle.rules.specs.declared.Action.TheVariants as action
use Rattle.rules.specs.Volumes.{day_volume}
use Rattle.rules.specs.Opening.{settings_of}
use Rattle.rules.specs.Rejections.{opening_answer, too_late}
use Rattle.rules.specs.Pinned.Register.{period}
use Rattle.rules.specs.Periods.{sum_days}
use Rattle.rules.specs.Scenes.{Line, ◌gives◌, opening, on, Plays, Shows, enrol}

-- W = 2, A = 30, B = 40; 1 is the default supplier, 2 the last-resort supplier.
abbrev pub opens : ℕ → Opening
opens d = opening d 2 30 40 1 2

-- Point 1, enrolled and taken into service with supplier 5 on day d.
abbrev served : ℕ → List Line
served d =
    on d (Action.Contract 5) gives Answer.Accepted ∷ on d (Action.Contract 6) gives Answer.Accepted ∷
    on d (Action.At 1 (enrol 3 0 990 2 0)) gives Answer.Accepted ∷
    on d (Action.At 1 (PointAction.IntoService 5 77)) gives Answer.Accepted ∷ []

-- A request of supplier 6 there on 1 June 2021 (7,822), which asks for day r.
abbrev request_for : ℕ → Answer → List Line
request_for r a = served 7820 ++ (on 7822 (Action.At 1 (PointAction.Request 6 77 r)) gives a ∷ [])

-- A request of supplier 6 on 3 May 2021 for 25 May.
abbrev pub asked : List Line
asked = served 7792 ++ (on 7793 (Action.At 1 (PointAction.Request 6 77 7815)) gives Answer.AcceptedOn 7815 ∷ [])

abbrev pub cancelled_on : ℕ → Answer → List Line
cancelled_on t a = asked ++ (on t (Action.At 1 (PointAction.Cancel 6)) gives a ∷ [])

-- W = 1: a request of supplier 2, made 21 days before day e, for e, and a cancel of it on day t.
abbrev opens_before : ℕ → Opening
opens_before e = opening (e - 21) 1 30 40 1 2

abbrev cancelled_before : ℕ → ℕ → Answer → List Line
cancelled_before e t a =
    on (e - 21) (Action.At 1 (enrol 3 0 990 2 0)) gives Answer.Accepted ∷
    on (e - 21) (Action.At 1 (PointAction.IntoService 1 77)) gives Answer.Accepted ∷
    on (e - 21) (Action.At 1 (PointAction.Request 2 77 e)) gives Answer.AcceptedOn e ∷
    on t (Action.At 1 (PointAction.Cancel 2)) gives a ∷ []

-- Point 1, enrolled and taken over by the default supplier on day 8,000.
abbrev defaulted : List Line
defaulted =
    on 8000 (Action.Contract 5) gives Answer.Accepted ∷
    on 8000 (Action.At 1 (enrol 3 0 990 2 0)) gives Answer.Accepted ∷
    on 8000 (Action.At 1 (PointAction.DefaultSupply 77)) gives Answer.Accepted ∷ []

-- What follows the default on 8,000: a day, or a request of supplier 5.
abbrev then_day : ℕ → List Line
then_day t = defaulted ++ (on t action.Day gives Answer.Accepted ∷ [])

abbrev then_request : ℕ → Answer → List Line
then_request t a = defaulted ++ (on t (Action.At 1 (PointAction.Request 5 77 t)) gives a ∷ [])

-- A meter with three wheels after the comma, so that U = 1; 7 units in 10 days, and a new holder on the day k = 3.
abbrev seven_in_ten : List Line
seven_in_ten =
    on 8000 (Action.Contract 5) gives Answer.Accepted ∷
    on 8000 (Action.At 1 (enrol 4 3 100 2 0)) gives Answer.Accepted ∷
    on 8003 (Action.At 1 (PointAction.IntoService 5 77)) gives Answer.Accepted ∷
    on 8010 (Action.At 1 (PointAction.Reading 8010 107 0)) gives Answer.Accepted ∷ []

abbrev seven_span : Span
seven_span = record { from = 8000; to = 8010; advance = 7; unit = 1; factor = 10000 }

-- The sample input, from its second line on.
abbrev sample : List Line
sample =
    on 7671 (Action.Contract 5) gives Answer.Accepted ∷
    on 7671 (Action.At 1 (enrol 3 0 990 2 0)) gives Answer.Accepted ∷
    on 7674 (Action.At 1 (PointAction.IntoService 5 77)) gives Answer.Accepted ∷
    on 7674 (Action.At 1 (PointAction.DefaultSupply 77)) gives Answer.Refused Rejection.AlreadyServed ∷
    on 7684 (Action.At 1 (PointAction.Reading 7684 10 1)) gives Answer.Accepted ∷ []

pub record PExamples : Type 0 where
  -- "29 February 2020 is 7,364; there is no 29 February 2100."
  pub february_29_2020 : day_answer 2020 2 29 ≡ Some 7364
  pub day_7364 : date_answer 7364 ≡ Some (date 2020 2 29)
  pub no_february_29_2100 : day_answer 2100 2 29 ≡ None
  pub february_28_2100 : day_answer 2100 2 28 ≡ Some 36583
  pub march_1_2100 : day_answer 2100 3 1 ≡ Some 36584
  -- "Easter 2021 is 4 April, day 7,764. In 2008 Ascension is 1 May."
  pub easter_2021 : easter_sunday 2021 ≡ month_day 4 4
  pub easter_2021_day : easter_day 2021 ≡ Some 7764
  pub easter_2008_day : easter_day 2008 ≡ Some 3004
  pub ascension_2008 : date_answer (3004 + 39) ≡ Some (date 2008 5 1)
  -- so 1 May 2008, a Thursday, is a holiday twice over and no working day; the Friday after it is one
  pub ascension_2008_after_easter : is_after_easter 3043 (easter_day 2008) ≡ true
  pub may_1_2008_fixed : is_fixed_holiday (date 2008 5 1) ≡ true
  pub may_1_2008_not_working : is_working 3043 ≡ false
  pub may_2_2008_working : is_working 3044 ≡ true
  -- "Request on 1 June 2021 (7,822): r = 7,843 and r = 7,842 both give e = 7,843."
  pub june_1_2021 : day_answer 2021 6 1 ≡ Some 7822
  pub request_for_7843 : Plays (opens 7820) (request_for 7843 (Answer.AcceptedOn 7843))
  pub request_for_7842 : Plays (opens 7820) (request_for 7842 (Answer.AcceptedOn 7843))
  pub request_for_7844 : Plays (opens 7820) (request_for 7844 (Answer.AcceptedOn 7844))
  -- "r = 7,914 (1 September) is accepted, 7,915 gets 3."
  pub september_1_2021 : day_answer 2021 9 1 ≡ Some 7914
  pub three_months_after_june_1 : three_months_after 7822 ≡ 7914
  pub request_for_7914 : Plays (opens 7820) (request_for 7914 (Answer.AcceptedOn 7914))
  pub request_for_7915 : Plays (opens 7820) (request_for 7915 (Answer.Refused Rejection.DateIncompatible))
  -- "Three months after 30 November 2021 is 28 February 2022."
  pub november_30_2021 : day_answer 2021 11 30 ≡ Some 8004
  pub three_months_after_november_30 : three_months_after 8004 ≡ 8094
  pub february_28_2022 : day_answer 2022 2 28 ≡ Some 8094
  -- "W = 2, e = 25 May 2021: cancel on 19 May accepted, on 20 May 26 (24 May is Whit Monday)."
  pub may_25_2021 : day_answer 2021 5 25 ≡ Some 7815
  pub whit_monday_2021 : is_after_easter 7814 (easter_day 2021) ≡ true
  pub working_days_after_19_may : working_between 7809 7815 ≡ 2
  pub working_days_after_20_may : working_between 7810 7815 ≡ 1
  pub in_time_on_19_may : too_late (settings_of (opens 7792)) 7809 (Pending.Request 6 7815) ≡ false
  pub too_late_on_20_may : too_late (settings_of (opens 7792)) 7810 (Pending.Request 6 7815) ≡ true
  pub cancel_on_19_may_accepted : Plays (opens 7792) (cancelled_on 7809 Answer.Accepted)
  pub cancel_on_20_may_too_late : Plays (opens 7792) (cancelled_on 7810 (Answer.Refused Rejection.TooLate))
  -- 02, F-2: "In 2016 a cancellation across 9 May may now be accepted, and the day book follows the corrected calendar.
  -- New examples on both sides of the change join the P table." W = 1, e is 10 May: in 2016 only Monday 9 May lies
  -- after Friday 6 May and before e as a working day; on 9 May itself none is left.
  pub may_9_2016 : day_answer 2016 5 9 ≡ Some 5973
  pub may_9_2016_working : is_working 5973 ≡ true
  pub cancel_across_may_9_2016_accepted : Plays (opens_before 5974) (cancelled_before 5974 5970 Answer.Accepted)
  pub too_late_on_may_9_2016 : too_late (settings_of (opens_before 5974)) 5973 (Pending.Request 2 5974) ≡ true
  pub may_9_2018 : day_answer 2018 5 9 ≡ Some 6703
  pub may_9_2018_working : is_working 6703 ≡ true
  pub cancel_across_may_9_2018_accepted : Plays (opens_before 6704) (cancelled_before 6704 6702 Answer.Accepted)
  pub may_9_2019 : day_answer 2019 5 9 ≡ Some 7068
  pub may_9_2019_not_working : is_working 7068 ≡ false
  pub cancel_across_may_9_2019_too_late : Plays (opens_before 7069) (cancelled_before 7069 7067 (Answer.Refused Rejection.TooLate))
  pub in_time_on_may_7_2019 : too_late (settings_of (opens_before 7069)) 7066 (Pending.Request 2 7069) ≡ false
  -- in 2013 it is Ascension
  pub may_9_2013 : day_answer 2013 5 9 ≡ Some 4877
  pub may_9_2013_not_working : is_working 4877 ≡ false
  pub cancel_across_may_9_2013_too_late : Plays (opens_before 4878) (cancelled_before 4878 4876 (Answer.Refused Rejection.TooLate))
  -- "V = 7, D = 10, U = 1, new holder at k = 3: 2 and 5."
  pub by_seven_in_ten : Plays (opens 8000) seven_in_ten
  pub seven_in_ten_booked : Shows (opens 8000) seven_in_ten 1 (period 8000 0 2 2 ∷ period 8003 5 5 5 ∷ []) 7 7
  pub first_three_shares : sum_days (day_volume seven_span) 8000 3 ≡ 2
  pub last_seven_shares : sum_days (day_volume seven_span) 8003 7 ≡ 5
  -- "A = 30, B = 40, default on 8,000, next call on 9,000: starts 8,000, 8,030, 8,070."
  pub default_on_8000 : Plays (opens 8000) (then_day 9000)
  pub starts_8000_8030_8070 : Shows (opens 8000) (then_day 9000) 1
      (period 8000 1 0 0 ∷ period 8030 2 0 0 ∷ period 8070 0 0 0 ∷ []) 0 0
  -- "A request on 8,008 passes check 8; on 8,009 it gets 8 with 8,030."
  pub request_on_8008 : Plays (opens 8000) (then_request 8008 (Answer.AcceptedOn 8029))
  pub request_on_8009 : Plays (opens 8000) (then_request 8009 (Answer.Refused (Rejection.LastResortUnderWay 8030)))
  -- The sample input of "Message lines": its days, its answers and its closing lines.
  pub january_1_2021 : day_answer 2021 1 1 ≡ Some 7671
  pub january_4_2021 : day_answer 2021 1 4 ≡ Some 7674
  pub january_14_2021 : day_answer 2021 1 14 ≡ Some 7684
  pub sample_opening : opening_answer (opens 7671) ≡ Answer.Accepted
  pub sample_answers : Plays (opens 7671) sample
  pub sample_periods : Shows (opens 7671) sample 1 (period 7671 0 4000 4000 ∷ period 7674 5 16000 16000 ∷ []) 20000 20000
  -- Mistakes seen: "rounding each supplier's share by itself (2 and 4 above)": 2 and 5 above, which add up to the 7
  -- that were read. "one catch-up event per call, which loses 8,070": it comes with the first call on or after 8,070,
  -- and not the day before.
  pub both_events_by_8070 : Shows (opens 8000) (then_day 8070) 1
      (period 8000 1 0 0 ∷ period 8030 2 0 0 ∷ period 8070 0 0 0 ∷ []) 0 0
  pub one_event_by_8069 : Shows (opens 8000) (then_day 8069) 1
      (period 8000 1 0 0 ∷ period 8030 2 0 0 ∷ []) 0 0
  -- "reading the 21 days as working days": 7,843 above is 22 June 2021, 21 days after 1 June.
  pub june_22_2021 : day_answer 2021 6 22 ≡ Some (7822 + 21)
  -- "a period of no days left by two holders on one day": there is one period for each day on which a holder was named.
  pub two_holders_on_one_day : Shows (opens 7820)
      (served 7820 ++
      (on 7825 (Action.At 1 PointAction.OutOfService) gives Answer.Accepted ∷
      on 7825 (Action.At 1 (PointAction.IntoService 6 77)) gives Answer.Accepted ∷
      on 7830 action.Day gives Answer.Accepted ∷ [])) 1
      (period 7820 5 0 0 ∷ period 7825 6 0 0 ∷ []) 0 0
