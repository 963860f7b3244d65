-- The register that the row examples start from. Definitions only.
use Rattle.std.specs.Prelude.{true, false, List, [], ◌∷◌, ◌++◌, ℕ, zero, suc}
use Rattle.rules.specs.declared.{Code.Code, Fields.Fields, Supply.Supply, Period.Period, Opening.Opening, Action.Action}
use Rattle.rules.specs.declared.{PointAction.PointAction, Answer.Answer}
use Rattle.rules.specs.Fields.{fields, meter, reading}
use Rattle.rules.specs.Scenes.{Line, ◌gives◌, opening, on, Plays, IsOn, Keeps, Shows, enrol}

-- Day 10 is Tuesday, 11 January 2000. W = 2, A = 30, B = 40; 1 is the default supplier, 2 the last-resort supplier.
abbrev pub opens : Opening
opens = opening 10 2 30 40 1 2

-- Suppliers 5 and 6 are under contract, 7 is not. Point 1 is served by 5. Point 2 was never served. Point 3 is in
-- default supply to day 40. Point 4 is served by 5, and 6 has asked for it from day 31 on. No other point is enrolled.
abbrev pub ready : List Line
ready =
    on 10 (Action.Contract 5) gives Answer.Accepted ∷ on 10 (Action.Contract 6) gives Answer.Accepted ∷
    on 10 (Action.At 1 (enrol 3 0 990 2 0)) gives Answer.Accepted ∷
    on 10 (Action.At 1 (PointAction.IntoService 5 77)) gives Answer.Accepted ∷
    on 10 (Action.At 2 (enrol 3 0 990 2 0)) gives Answer.Accepted ∷
    on 10 (Action.At 3 (enrol 3 0 990 2 0)) gives Answer.Accepted ∷
    on 10 (Action.At 3 (PointAction.DefaultSupply 77)) gives Answer.Accepted ∷
    on 10 (Action.At 4 (enrol 3 0 990 2 0)) gives Answer.Accepted ∷
    on 10 (Action.At 4 (PointAction.IntoService 5 77)) gives Answer.Accepted ∷
    on 10 (Action.At 4 (PointAction.Request 6 77 10)) gives Answer.AcceptedOn 31 ∷ []

-- The fields of points 1 and 4 there, with another supply.
abbrev pub kept : Supply → Fields
kept s = fields true s 77 0 (meter 3 0 Code.Normal) (reading 10 990)

-- What follows gets these answers; leaves these fields, these periods with this total, this register's day.
abbrev pub Then : List Line → Type 0
Then ls = Plays opens (ready ++ ls)

abbrev pub ThenKeeps : List Line → ℕ → Fields → Type 0
ThenKeeps ls = Keeps opens (ready ++ ls)

abbrev pub ThenShows : List Line → ℕ → List Period → ℕ → ℕ → Type 0
ThenShows ls = Shows opens (ready ++ ls)

abbrev pub ThenIsOn : List Line → ℕ → Type 0
ThenIsOn ls = IsOn opens (ready ++ ls)

-- The same answer to each of several calls on day t.
abbrev pub each : ℕ → Answer → List Action → List Line
each t a [] = []
each t a (c ∷ cs) = on t c gives a ∷ each t a cs

-- n times: point p goes out of service on day d and into service with supplier s on the day after; 2 marks each time.
abbrev pub turns : ℕ → ℕ → ℕ → ℕ → List Line
turns s p zero d = []
turns s p (suc n) d =
    on d (Action.At p PointAction.OutOfService) gives Answer.Accepted ∷
    on (suc d) (Action.At p (PointAction.IntoService s 77)) gives Answer.Accepted ∷ turns s p n (suc (suc d))
