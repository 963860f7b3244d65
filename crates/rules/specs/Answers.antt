-- Document 01, "The day book" and "Rejection codes": what an answer says. Definitions only.
use Rattle.std.specs.Prelude.{Bool, true, false, ℕ}
use Rattle.std.proofs.Math.Option.{Option, none, some}
use Rattle.rules.specs.declared.{Answer.Answer, Rejection.Rejection}

abbrev pub is_accepted : Answer → Bool
is_accepted Answer.Accepted = true
is_accepted (Answer.AcceptedOn e) = true
is_accepted (Answer.Refused r) = false

-- The numbers of the table, by the trade's words beside them; 40 is 02, F-4's.
abbrev pub number_of : Rejection → ℕ
number_of Rejection.NoTransportContract = 1
number_of Rejection.FalseIdpc = 2
number_of Rejection.DateIncompatible = 3
number_of Rejection.NameDiffers = 4
number_of Rejection.OtherRequest = 5
number_of Rejection.NoPerimeter = 6
number_of Rejection.AccessSuspended = 7
number_of (Rejection.LastResortUnderWay d) = 8
number_of Rejection.OffTheCalendar = 20
number_of Rejection.DayRunsBack = 21
number_of Rejection.FieldOutOfRange = 22
number_of Rejection.AlreadyEnrolled = 23
number_of Rejection.AlreadyServed = 24
number_of Rejection.NothingPending = 25
number_of Rejection.TooLate = 26
number_of Rejection.ReadingOutOfTime = 27
number_of Rejection.IndexDisagrees = 28
number_of Rejection.ProtectedSupplier = 29
number_of Rejection.PeriodsFull = 30
number_of Rejection.UnreadableLine = 31
number_of Rejection.FactorOutOfRange = 40
number_of (Rejection.Number n) = n

-- "accepted or the number from the rejection codes": 0 where accepted, as the answer line writes it
abbrev pub number : Answer → ℕ
number Answer.Accepted = 0
number (Answer.AcceptedOn e) = 0
number (Answer.Refused r) = number_of r

-- "the deadline for number 8, else none"
abbrev pub date_in : Rejection → Option ℕ
date_in Rejection.NoTransportContract = none
date_in Rejection.FalseIdpc = none
date_in Rejection.DateIncompatible = none
date_in Rejection.NameDiffers = none
date_in Rejection.OtherRequest = none
date_in Rejection.NoPerimeter = none
date_in Rejection.AccessSuspended = none
date_in (Rejection.LastResortUnderWay d) = some d
date_in Rejection.OffTheCalendar = none
date_in Rejection.DayRunsBack = none
date_in Rejection.FieldOutOfRange = none
date_in Rejection.AlreadyEnrolled = none
date_in Rejection.AlreadyServed = none
date_in Rejection.NothingPending = none
date_in Rejection.TooLate = none
date_in Rejection.ReadingOutOfTime = none
date_in Rejection.IndexDisagrees = none
date_in Rejection.ProtectedSupplier = none
date_in Rejection.PeriodsFull = none
date_in Rejection.UnreadableLine = none
date_in Rejection.FactorOutOfRange = none
date_in (Rejection.Number n) = none

-- "with the date it carries: e for an accepted request, the deadline for number 8, else none"
abbrev pub date : Answer → Option ℕ
date Answer.Accepted = none
date (Answer.AcceptedOn e) = some e
date (Answer.Refused r) = date_in r
