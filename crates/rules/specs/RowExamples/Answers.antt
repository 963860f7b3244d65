-- Document 01, "The day book": "An answer is accepted or the number from the rejection codes, with the date it carries:
-- e for an accepted request, the deadline for number 8, else none." And the table's numbers, one by one; 40 is 02, F-4's.
-- Definitions only.
use Rattle.std.specs.Prelude.{◌≡◌}
use Rattle.std.proofs.Math.Option.{none, some}
use Rattle.rules.specs.declared.{Answer.Answer, Rejection.Rejection}
use Rattle.rules.specs.Answers.{number_of, number, date}

pub record NumberExamples : Type 0 where
  pub no_transport_contract : number_of Rejection.NoTransportContract ≡ 1
  pub false_idpc : number_of Rejection.FalseIdpc ≡ 2
  pub date_incompatible : number_of Rejection.DateIncompatible ≡ 3
  pub name_differs : number_of Rejection.NameDiffers ≡ 4
  pub other_request : number_of Rejection.OtherRequest ≡ 5
  pub no_perimeter : number_of Rejection.NoPerimeter ≡ 6
  pub access_suspended : number_of Rejection.AccessSuspended ≡ 7
  pub last_resort_under_way : number_of (Rejection.LastResortUnderWay 8030) ≡ 8
  pub off_the_calendar : number_of Rejection.OffTheCalendar ≡ 20
  pub day_runs_back : number_of Rejection.DayRunsBack ≡ 21
  pub field_out_of_range : number_of Rejection.FieldOutOfRange ≡ 22
  pub already_enrolled : number_of Rejection.AlreadyEnrolled ≡ 23
  pub already_served : number_of Rejection.AlreadyServed ≡ 24
  pub nothing_pending : number_of Rejection.NothingPending ≡ 25
  pub too_late : number_of Rejection.TooLate ≡ 26
  pub reading_out_of_time : number_of Rejection.ReadingOutOfTime ≡ 27
  pub index_disagrees : number_of Rejection.IndexDisagrees ≡ 28
  pub protected_supplier : number_of Rejection.ProtectedSupplier ≡ 29
  pub periods_full : number_of Rejection.PeriodsFull ≡ 30
  pub unreadable_line : number_of Rejection.UnreadableLine ≡ 31
  pub factor_out_of_range : number_of Rejection.FactorOutOfRange ≡ 40
  pub number_by_itself : number_of (Rejection.Number 9) ≡ 9

pub record AnswerExamples : Type 0 where
  pub numbers : NumberExamples
  pub accepted_number : number Answer.Accepted ≡ 0
  pub accepted_date : date Answer.Accepted ≡ none
  pub request_accepted_number : number (Answer.AcceptedOn 7843) ≡ 0
  pub request_accepted_date : date (Answer.AcceptedOn 7843) ≡ some 7843
  pub refused_number : number (Answer.Refused Rejection.TooLate) ≡ 26
  pub refused_date : date (Answer.Refused Rejection.TooLate) ≡ none
  pub number_refused : number (Answer.Refused (Rejection.Number 26)) ≡ 26
  pub number_without_a_date : date (Answer.Refused (Rejection.Number 26)) ≡ none
  pub last_resort_number : number (Answer.Refused (Rejection.LastResortUnderWay 8030)) ≡ 8
  pub last_resort_date : date (Answer.Refused (Rejection.LastResortUnderWay 8030)) ≡ some 8030
