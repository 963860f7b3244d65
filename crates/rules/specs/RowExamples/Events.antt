-- The events of a gas day: a request takes effect, default goes over to last resort, last resort ends. Definitions
-- only.
use Rattle.rules.specs.declared.{Rejection.Rejection}
use Rattle.std.specs.Prelude.{List, [], ◌∷◌, ◌++◌, ℕ}
use Rattle.rules.specs.declared.{SupplyKind.SupplyKind, Pending.Pending, Action.Action, PointAction.PointAction}
use Rattle.rules.specs.declared.{Answer.Answer}
use Rattle.rules.specs.Fields.{supply, unsupplied}
use Rattle.rules.specs.Pinned.Register.{period}
use Rattle.rules.specs.Scenes.{Line, ◌gives◌, on}
use Rattle.rules.specs.RowExamples.Scene.{Then, ThenKeeps, ThenShows, kept}

-- Point 3 is in default supply to day 40; supplier 6 asks for it from day r on.
abbrev asked_for : ℕ → List Line
asked_for r = on 18 (Action.At 3 (PointAction.Request 6 77 r)) gives Answer.AcceptedOn r ∷ []

-- Supplier 5 fails on day 11, so that point 1 is under last resort to day 51; supplier 6 asks for it from day r on.
abbrev asked_under_last_resort : ℕ → List Line
asked_under_last_resort r =
    on 11 (Action.Failure 5) gives Answer.Accepted ∷ on 12 (Action.At 1 (PointAction.Request 6 77 r)) gives
    Answer.AcceptedOn r ∷ []

pub record EventExamples : Type 0 where
  -- "if a pending request falls on this day, its supplier becomes holder, kind contract, pending cleared"
  pub day_before_effect : ThenKeeps (on 30 Action.Day gives Answer.Accepted ∷ []) 4
      (kept (supply 5 SupplyKind.Contract (Pending.Request 6 31)))
  pub effect : ThenKeeps (on 31 Action.Day gives Answer.Accepted ∷ []) 4
      (kept (supply 6 SupplyKind.Contract Pending.Nothing))
  pub effect_periods : ThenShows (on 31 Action.Day gives Answer.Accepted ∷ []) 4 (period 10 5 0 0 ∷ period 31 6 0 0 ∷ []) 0 0
  -- "default becomes last resort (holder: the last-resort supplier, deadline this day + B)"
  pub day_before_deadline : ThenKeeps (on 39 Action.Day gives Answer.Accepted ∷ []) 3
      (kept (supply 1 (SupplyKind.Default 40) Pending.Nothing))
  pub deadline : ThenKeeps (on 40 Action.Day gives Answer.Accepted ∷ []) 3
      (kept (supply 2 (SupplyKind.LastResort 80) Pending.Nothing))
  pub day_before_the_end : ThenKeeps (on 79 Action.Day gives Answer.Accepted ∷ []) 3
      (kept (supply 2 (SupplyKind.LastResort 80) Pending.Nothing))
  -- "and last resort becomes holder 0, kind none"; the key stays
  pub the_end : ThenKeeps (on 80 Action.Day gives Answer.Accepted ∷ []) 3 (kept unsupplied)
  pub the_end_periods : ThenShows (on 80 Action.Day gives Answer.Accepted ∷ []) 3
      (period 10 1 0 0 ∷ period 40 2 0 0 ∷ period 80 0 0 0 ∷ []) 0 0
  -- "Otherwise": a request and the deadline on one day: the request only
  pub request_on_default_deadline : ThenShows (asked_for 40 ++ (on 100 Action.Day gives Answer.Accepted ∷ [])) 3
      (period 10 1 0 0 ∷ period 40 6 0 0 ∷ []) 0 0
  pub request_on_last_resort_deadline : ThenShows (asked_under_last_resort 51 ++
      (on 100 Action.Day gives Answer.Accepted ∷ [])) 1
      (period 10 5 0 0 ∷ period 11 2 0 0 ∷ period 51 6 0 0 ∷ []) 0 0
  -- a request before the deadline: the deadline is gone with it
  pub request_before_default_deadline : ThenShows (asked_for 39 ++ (on 100 Action.Day gives Answer.Accepted ∷ [])) 3
      (period 10 1 0 0 ∷ period 39 6 0 0 ∷ []) 0 0
  -- default becoming last resort keeps the request, which takes effect later, also where one call passes both days
  pub request_survives_default : ThenKeeps (asked_for 45 ++ (on 44 Action.Day gives Answer.Accepted ∷ [])) 3
      (kept (supply 2 (SupplyKind.LastResort 80) (Pending.Request 6 45)))
  pub request_after_default_deadline : ThenShows (asked_for 45 ++ (on 100 Action.Day gives Answer.Accepted ∷ [])) 3
      (period 10 1 0 0 ∷ period 40 2 0 0 ∷ period 45 6 0 0 ∷ []) 0 0
  pub request_day_by_day : ThenShows
      (asked_for 45 ++ (on 40 Action.Day gives Answer.Accepted ∷ on 45 Action.Day gives Answer.Accepted ∷
      on 100 Action.Day gives Answer.Accepted ∷ [])) 3
      (period 10 1 0 0 ∷ period 40 2 0 0 ∷ period 45 6 0 0 ∷ []) 0 0
  -- "pending dropped": a request past the end of last resort never takes effect
  pub request_past_last_resort : ThenKeeps (asked_under_last_resort 52 ++ (on 51 Action.Day gives Answer.Accepted ∷ [])) 1
      (kept unsupplied)
  pub request_past_last_resort_periods : ThenShows (asked_under_last_resort 52 ++
      (on 100 Action.Day gives Answer.Accepted ∷ [])) 1
      (period 10 5 0 0 ∷ period 11 2 0 0 ∷ period 51 0 0 0 ∷ []) 0 0
  -- "Wherever an event or an accepted call names a holder, even the present one, that day's cell is overwritten with it
  -- and marked."
  pub present_holder_named : ThenShows
      (on 11 (Action.At 1 (PointAction.Request 5 77 11)) gives Answer.AcceptedOn 32 ∷
      on 40 Action.Day gives Answer.Accepted ∷ []) 1
      (period 10 5 0 0 ∷ period 32 5 0 0 ∷ []) 0 0
  pub call_replaces_event : ThenShows
      (on 31 (Action.At 4 PointAction.OutOfService) gives Answer.Accepted ∷
      on 31 (Action.At 4 (PointAction.IntoService 6 77)) gives Answer.Accepted ∷ []) 4
      (period 10 5 0 0 ∷ period 31 6 0 0 ∷ []) 0 0
  -- a request that takes effect finds the mark as it is: suspension stops none
  pub suspended_after_request : ThenShows (on 11 (Action.At 4 (PointAction.Suspend 1)) gives Answer.Accepted ∷
      on 31 Action.Day gives Answer.Accepted ∷ []) 4
      (period 10 5 0 0 ∷ period 31 6 0 0 ∷ []) 0 0
  -- "Checks look at the state brought up to today": on day 80 account 0 holds point 3, on day 79 the last-resort
  -- supplier
  pub checks_look_at_today : Then
      (on 80 (Action.At 3 PointAction.OutOfService) gives Answer.Refused Rejection.NoPerimeter ∷
      on 79 (Action.At 3 (PointAction.IntoService 5 77)) gives Answer.Refused Rejection.AlreadyServed ∷
      on 80 (Action.At 3 (PointAction.IntoService 5 88)) gives Answer.Accepted ∷ [])
