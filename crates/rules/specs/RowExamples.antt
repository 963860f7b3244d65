-- Document 01, "Rejection codes" and the twelve calls: for each number and each call that gets it, an example where it
-- is given and one just beside it where it is not; the order of the numbers; and what each call and each event does.
-- proofs/RowExamples.antt proves them. Definitions only.
pub mod Scene
pub mod Answers
pub mod Openings
pub mod Order
pub mod Contracts
pub mod Services
pub mod Requests
pub mod LastDays
pub mod Readings
pub mod Meters
pub mod Full
pub mod Events
pub mod Varied
use Rattle.rules.specs.RowExamples.Answers.{AnswerExamples}
use Rattle.rules.specs.RowExamples.Openings.{OpeningExamples}
use Rattle.rules.specs.RowExamples.Order.{OrderExamples}
use Rattle.rules.specs.RowExamples.Contracts.{ContractExamples}
use Rattle.rules.specs.RowExamples.Services.{ServiceExamples}
use Rattle.rules.specs.RowExamples.Requests.{RequestExamples}
use Rattle.rules.specs.RowExamples.LastDays.{LastDayExamples}
use Rattle.rules.specs.RowExamples.Readings.{ReadingExamples}
use Rattle.rules.specs.RowExamples.Meters.{MeterExamples}
use Rattle.rules.specs.RowExamples.Full.{FullExamples}
use Rattle.rules.specs.RowExamples.Events.{EventExamples}
use Rattle.rules.specs.RowExamples.Varied.{VariedExamples}

pub record RowExamples : Type 0 where
  pub answers : AnswerExamples
  pub openings : OpeningExamples
  pub order : OrderExamples
  pub contracts : ContractExamples
  pub services : ServiceExamples
  pub requests : RequestExamples
  pub last_days : LastDayExamples
  pub readings : ReadingExamples
  pub meters : MeterExamples
  pub full : FullExamples
  pub events : EventExamples
  pub varied : VariedExamples
