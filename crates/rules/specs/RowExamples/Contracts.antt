-- Calls 1 and 2, contract and failure: 1, 29, and what a failure does. 30 is in RowExamples/Full. Definitions only.
use Rattle.rules.specs.declared.{Rejection.Rejection}
use Rattle.std.specs.Prelude.{[], ◌∷◌}
use Rattle.rules.specs.declared.{SupplyKind.SupplyKind, Pending.Pending, Action.Action, PointAction.PointAction}
use Rattle.rules.specs.declared.{Answer.Answer}
use Rattle.rules.specs.Fields.{supply}
use Rattle.rules.specs.Pinned.Register.{period}
use Rattle.rules.specs.Scenes.{◌gives◌, on}
use Rattle.rules.specs.RowExamples.Scene.{Then, ThenKeeps, ThenShows, kept}

pub record ContractExamples : Type 0 where
  -- 1: "failure, into service, request: s not under contract"; a contract may be signed twice
  pub not_under_contract : Then
      (on 11 (Action.Failure 7) gives Answer.Refused Rejection.NoTransportContract ∷ on 11 (Action.At 2 (PointAction.IntoService 7 77)) gives
      Answer.Refused Rejection.NoTransportContract ∷
      on 11 (Action.At 1 (PointAction.Request 7 77 31)) gives Answer.Refused Rejection.NoTransportContract ∷
      on 11 (Action.Contract 7) gives Answer.Accepted ∷
      on 11 (Action.Contract 7) gives Answer.Accepted ∷
      on 11 (Action.At 2 (PointAction.IntoService 7 77)) gives Answer.Accepted ∷
      on 11 (Action.At 1 (PointAction.Request 7 77 31)) gives Answer.AcceptedOn 32 ∷
      on 11 (Action.Failure 7) gives Answer.Accepted ∷ on 11 (Action.Failure 7) gives Answer.Refused Rejection.NoTransportContract ∷ [])
  -- "s loses its contract, its pending requests are dropped"
  pub failed_loses_contract : Then
      (on 11 (Action.Failure 6) gives Answer.Accepted ∷ on 11 (Action.At 4 (PointAction.Cancel 6)) gives
      Answer.Refused Rejection.NothingPending ∷
      on 11 (Action.At 2 (PointAction.IntoService 6 77)) gives Answer.Refused Rejection.NoTransportContract ∷
      on 11 (Action.At 1 (PointAction.Request 6 77 31)) gives Answer.Refused Rejection.NoTransportContract ∷
      on 11 (Action.Contract 6) gives Answer.Accepted ∷
      on 11 (Action.At 4 (PointAction.Cancel 6)) gives Answer.Refused Rejection.NothingPending ∷
      on 11 (Action.At 1 (PointAction.Request 6 77 31)) gives Answer.AcceptedOn 32 ∷ [])
  -- 29: "failure of the default or last-resort supplier"
  pub protected_suppliers : Then
      (on 11 (Action.Failure 1) gives Answer.Refused Rejection.ProtectedSupplier ∷ on 11 (Action.Failure 2) gives Answer.Refused Rejection.ProtectedSupplier ∷
      on 11 (Action.Failure 5) gives Answer.Accepted ∷ [])
  -- "its pending requests are dropped": at a point that another supplier holds, which keeps its holder and its periods
  pub own_request_dropped : ThenKeeps (on 11 (Action.Failure 6) gives Answer.Accepted ∷ []) 4
      (kept (supply 5 SupplyKind.Contract Pending.Nothing))
  pub own_request_dropped_periods : ThenShows (on 11 (Action.Failure 6) gives Answer.Accepted ∷
      on 90 Action.Day gives Answer.Accepted ∷ []) 4
      (period 10 5 0 0 ∷ []) 0 0
  -- "each point it holds gets the last-resort supplier, kind last resort, deadline today + B"; another supplier's
  -- request stays
  pub held_point_gets_last_resort : ThenKeeps (on 11 (Action.Failure 5) gives Answer.Accepted ∷ []) 1
      (kept (supply 2 (SupplyKind.LastResort 51) Pending.Nothing))
  pub other_request_stays : ThenKeeps (on 11 (Action.Failure 5) gives Answer.Accepted ∷ []) 4
      (kept (supply 2 (SupplyKind.LastResort 51) (Pending.Request 6 31)))
  pub other_request_takes_effect : ThenShows (on 11 (Action.Failure 5) gives Answer.Accepted ∷
      on 90 Action.Day gives Answer.Accepted ∷ []) 4
      (period 10 5 0 0 ∷ period 11 2 0 0 ∷ period 31 6 0 0 ∷ []) 0 0
  pub last_resort_ends : ThenShows (on 11 (Action.Failure 5) gives Answer.Accepted ∷
      on 90 Action.Day gives Answer.Accepted ∷ []) 1
      (period 10 5 0 0 ∷ period 11 2 0 0 ∷ period 51 0 0 0 ∷ []) 0 0
  -- the failed supplier's own request at a point that it holds goes too
  pub own_request_at_own_point : ThenKeeps
      (on 11 (Action.At 1 (PointAction.Request 5 77 40)) gives Answer.AcceptedOn 40 ∷
      on 12 (Action.Failure 5) gives Answer.Accepted ∷ []) 1
      (kept (supply 2 (SupplyKind.LastResort 52) Pending.Nothing))
  -- on the day on which its request takes effect the failure finds it as holder; the day keeps one period, the
  -- last-resort supplier's
  pub failure_on_effective_day : ThenShows (on 31 (Action.Failure 6) gives Answer.Accepted ∷ []) 4
      (period 10 5 0 0 ∷ period 31 2 0 0 ∷ []) 0 0
