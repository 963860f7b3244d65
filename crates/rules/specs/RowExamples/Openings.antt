-- Document 01, "What the register holds" and 20, 22: the opening. Definitions only.
use Rattle.rules.specs.declared.{Rejection.Rejection}
use Rattle.std.specs.Prelude.{◌≡◌, [], ◌∷◌}
use Rattle.rules.specs.declared.{Action.Action, PointAction.PointAction, Answer.Answer}
use Rattle.rules.specs.Rejections.{opening_answer}
use Rattle.rules.specs.Scenes.{◌gives◌, opening, on, Plays, enrol}

pub record OpeningExamples : Type 0 where
  -- "W (0 to 10 working days to cancel), A and B (1 to 400 calendar days ..)", "Suppliers are 1 to 99": the least and
  -- the largest.
  pub least : opening_answer (opening 0 0 1 1 1 2) ≡ Answer.Accepted
  pub largest : opening_answer (opening 73048 10 400 400 99 98) ≡ Answer.Accepted
  pub last_resort_1_and_99 : opening_answer (opening 0 0 1 1 99 1) ≡ Answer.Accepted
  pub default_1_last_resort_99 : opening_answer (opening 0 0 1 1 1 99) ≡ Answer.Accepted
  -- one beyond, each on a first day off the calendar too: 22 comes before 20
  pub w_11 : opening_answer (opening 73049 11 400 400 99 98) ≡ Answer.Refused Rejection.FieldOutOfRange
  pub a_0 : opening_answer (opening 73049 10 0 400 99 98) ≡ Answer.Refused Rejection.FieldOutOfRange
  pub a_401 : opening_answer (opening 73049 10 401 400 99 98) ≡ Answer.Refused Rejection.FieldOutOfRange
  pub b_0 : opening_answer (opening 73049 10 400 0 99 98) ≡ Answer.Refused Rejection.FieldOutOfRange
  pub b_401 : opening_answer (opening 73049 10 400 401 99 98) ≡ Answer.Refused Rejection.FieldOutOfRange
  pub default_0 : opening_answer (opening 73049 10 400 400 0 98) ≡ Answer.Refused Rejection.FieldOutOfRange
  pub default_100 : opening_answer (opening 73049 10 400 400 100 98) ≡ Answer.Refused Rejection.FieldOutOfRange
  pub last_resort_0 : opening_answer (opening 73049 10 400 400 99 0) ≡ Answer.Refused Rejection.FieldOutOfRange
  pub last_resort_100 : opening_answer (opening 73049 10 400 400 99 100) ≡ Answer.Refused Rejection.FieldOutOfRange
  -- "two different ones"
  pub one_supplier_for_both : opening_answer (opening 73049 10 400 400 99 99) ≡ Answer.Refused Rejection.FieldOutOfRange
  pub first_day_73049 : opening_answer (opening 73049 10 400 400 99 98) ≡ Answer.Refused Rejection.OffTheCalendar
  -- "under contract from the start": suppliers 1 and 2 are, and no other
  pub first_contracts : Plays (opening 10 2 30 40 1 2)
      (on 10 (Action.At 1 (enrol 3 0 0 2 0)) gives Answer.Accepted ∷
      on 10 (Action.At 2 (enrol 3 0 0 2 0)) gives Answer.Accepted ∷
      on 10 (Action.At 1 (PointAction.IntoService 3 77)) gives Answer.Refused Rejection.NoTransportContract ∷
      on 10 (Action.At 1 (PointAction.IntoService 99 77)) gives Answer.Refused Rejection.NoTransportContract ∷
      on 10 (Action.At 1 (PointAction.IntoService 1 77)) gives Answer.Accepted ∷
      on 10 (Action.At 2 (PointAction.IntoService 2 77)) gives Answer.Accepted ∷ [])
