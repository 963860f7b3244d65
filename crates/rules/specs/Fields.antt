-- Document 01, "What the register holds": a point's fields, which the register and the day book both keep.
-- Each record of the types is written out once, so that a new field is added in one place. Definitions only.
use Rattle.std.specs.Prelude.{Bool, false, cond, ℕ, eqb}
use Rattle.rules.specs.declared.{Fields.Fields, Supply.Supply, SupplyKind.SupplyKind, Pending.Pending}
use Rattle.rules.specs.declared.{Code.Code, Meter.Meter, NewMeter.NewMeter, Reading.Reading}

abbrev pub supply : ℕ → SupplyKind → Pending → Supply
supply h k q = record { holder = h; kind = k; pending = q }

abbrev pub meter : ℕ → ℕ → Code → Meter
meter b a c = record { before = b; after = a; code = c }

-- 02, F-4: "the code of the meter (1 for m³, 2 for Nm³ ..), and for an m³ meter a correction factor"
abbrev pub code_of : ℕ → ℕ → Code
code_of c f = cond (eqb c 1) (Code.Cubic f) Code.Normal

-- The meter that a call brings.
abbrev pub fitted : NewMeter → Meter
fitted m = meter m.before m.after (code_of m.code m.factor)

abbrev pub reading : ℕ → ℕ → Reading
reading d x = record { day = d; index = x }

abbrev pub fields : Bool → Supply → ℕ → ℕ → Meter → Reading → Fields
fields n s k m w r = record { enrolled = n; supply = s; key = k; mark = m; meter = w; reading = r }

-- The same fields with another supply; pending request; key; mark; meter and last reading.
abbrev pub with_supply : Fields → Supply → Fields
with_supply f s = fields f.enrolled s f.key f.mark f.meter f.reading

abbrev pub with_pending : Fields → Pending → Fields
with_pending f q = with_supply f (supply f.supply.holder f.supply.kind q)

abbrev pub with_key : Fields → ℕ → Fields
with_key f k = fields f.enrolled f.supply k f.mark f.meter f.reading

abbrev pub with_mark : Fields → ℕ → Fields
with_mark f m = fields f.enrolled f.supply f.key m f.meter f.reading

abbrev pub with_reading : Fields → Meter → Reading → Fields
with_reading f w r = fields f.enrolled f.supply f.key f.mark w r

-- No holder but the operator's account, nothing running, nothing pending.
abbrev pub unsupplied : Supply
unsupplied = supply 0 SupplyKind.None Pending.Nothing

-- A point that was never enrolled.
abbrev pub blank : Fields
blank = fields false unsupplied 0 0 (meter 0 0 Code.Normal) (reading 0 0)
