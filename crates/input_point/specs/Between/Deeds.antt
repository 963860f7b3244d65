-- What an accepted message stores in the tables, where nothing falls due by its day. Definitions only: proofs/Stored
-- has it that this is what the register does.
use Rattle.std.specs.Prelude.{Bool, cond, ◌&&◌, ℕ, ◌+◌, ◌-◌, min, eqb, leb, ltb}
use Rattle.rules.specs.declared.{Action.Action, Effect.Effect, Fields.Fields, Period.Period, Span.Span}
use Rattle.rules.specs.Pinned.Register.{period}
use Rattle.point_volumes.specs.Between.{booked_newest}
use Rattle.line_messages.specs.declared.{Message.Message}
use Rattle.input_point.specs.declared.{answers.Said.Said, deeds.Deed.Deed}

abbrev pub slot : ℕ → Fields → ℕ → ℕ → Period → Deed
slot t f n k q = Deed.Slot (record { today = t; fields = f; count = n; place = k; period = q })

-- A slot that stays as it is.
abbrev pub kept_deed : ℕ → Fields → ℕ → Period → Deed
kept_deed t f n q = slot t f n (min n 24 - 1) q

unfoldable pub naming_deed : ℕ → Fields → ℕ → Period → Deed
naming_deed t f n q =
    cond (ltb 0 (min n 24) && eqb q.start t)
    (slot t f n (min n 24 - 1) (period t f.supply.holder q.volume.0 q.normal.0))
    (cond (ltb (min n 24) 24) (slot t f (min n 24 + 1) (min n 24) (period t f.supply.holder 0 0)) (kept_deed t f n q))

-- The days from a day on all lie in the newest of n periods.
abbrev pub lies_in : ℕ → ℕ → ℕ → Bool
lies_in n start from = ltb 0 (min n 24) && leb start from

-- The days of a reading all lie in the newest period, or reach back behind it.
unfoldable pub reading_deed : ℕ → Span → Fields → ℕ → Period → Deed
reading_deed t s f n q =
    cond (lies_in n q.start s.from) (slot t f n (min n 24 - 1) (booked_newest s q)) (Deed.Back t s f)

unfoldable pub effect_deed : ℕ → Effect → ℕ → Period → Deed
effect_deed t (Effect.Keep f) n q = kept_deed t f n q
effect_deed t (Effect.Name f) n q = naming_deed t f n q
effect_deed t (Effect.Enrol f) n q = naming_deed t f n q
effect_deed t (Effect.Read s f) n q = reading_deed t s f n q
effect_deed t (Effect.Request e f) n q = kept_deed t f n q

unfoldable pub ruled_deed : ℕ → Said → ℕ → Period → Deed
ruled_deed t (Said.Known a) n q = Deed.Whole
ruled_deed t (Said.Ruled x) n q = effect_deed t x.effect n q
ruled_deed t (Said.Fails d s) n q = Deed.Whole

unfoldable pub call_deed : ℕ → Action → Said → ℕ → Period → Deed
call_deed t (Action.Contract s) x n q = cond (ltb s 100) (Deed.Sign t s) Deed.Whole
call_deed t (Action.Failure s) x n q = cond (ltb s 100) (Deed.Fail t s) Deed.Whole
call_deed t (Action.At p a) x n q = ruled_deed t x n q
call_deed t Action.Day x n q = Deed.Pass t

-- Nothing falls due before the day quiet.
unfoldable pub deed_of : ℕ → Message → Said → ℕ → Period → Deed
deed_of quiet (Message.Open o) x n q = Deed.Whole
deed_of quiet (Message.Ask c) x n q = cond (ltb c.today quiet) (call_deed c.today c.action x n q) Deed.Whole
deed_of quiet Message.Unreadable x n q = Deed.Whole
