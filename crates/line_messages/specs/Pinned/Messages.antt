-- What a kind and the values of its fields say. `OneLine` pins it to what messages say. Definitions only.
use Rattle.std.specs.Prelude.{ℕ, ◌+◌, List, get_or}
use Rattle.rules.specs.declared.{Opening.Opening, Action.Action, NewMeter.NewMeter, PointAction.PointAction}
use Rattle.line_kinds.specs.declared.{Kind.Kind}
use Rattle.line_messages.specs.declared.{Message.Message}

abbrev pub ask : ℕ → Action → Message
ask t action = Message.Ask (record { today = t; action = action })

abbrev pub ask_at : ℕ → ℕ → PointAction → Message
ask_at t p act = ask t (Action.At p act)

abbrev pub opens : (ℕ → ℕ) → Opening
opens v = record { day = v 0; w = v 1; a = v 2; b = v 3; default = v 4; resort = v 5 }

-- The meter whose five fields stand from a place on.
abbrev pub meter_at : (ℕ → ℕ) → ℕ → NewMeter
meter_at v i = record { before = v i; after = v (i + 1); index = v (i + 2); code = v (i + 3); factor = v (i + 4) }

-- By its kind, and the value of the field at each place.
abbrev pub message_by : Kind → (ℕ → ℕ) → Message
message_by Kind.Set v = Message.Open (opens v)
message_by Kind.Ctr v = ask (v 0) (Action.Contract (v 1))
message_by Kind.Def v = ask (v 0) (Action.Failure (v 1))
message_by Kind.Enr v = ask_at (v 0) (v 1) (PointAction.Enrol (meter_at v 2))
message_by Kind.Demmespc v = ask_at (v 0) (v 1) (PointAction.IntoService (v 2) (v 3))
message_by Kind.I v = ask_at (v 0) (v 1) (PointAction.DefaultSupply (v 2))
message_by Kind.Demcf v = ask_at (v 0) (v 1) (PointAction.Request (v 2) (v 3) (v 4))
message_by Kind.Adc v = ask_at (v 0) (v 1) (PointAction.Cancel (v 2))
message_by Kind.Ri v = ask_at (v 0) (v 1) (PointAction.Reading (v 2) (v 3) (v 4))
message_by Kind.Cdt v = ask_at (v 0) (v 1) (PointAction.MeterChange (v 2) (v 3) (meter_at v 4))
message_by Kind.Demmhs v = ask_at (v 0) (v 1) PointAction.OutOfService
message_by Kind.Sus v = ask_at (v 0) (v 1) (PointAction.Suspend (v 2))
message_by Kind.Jour v = ask (v 0) Action.Day
message_by Kind.Unknown v = Message.Unreadable

abbrev pub message_of : Kind → List ℕ → Message
message_of k vs = message_by k (λ i. get_or vs i 0)
