-- 01, Message lines: "A line is its kind, then today, then the call's fields in the order above". Definitions only.
use Rattle.std.specs.Prelude.{ℕ, List, [], ◌∷◌, ◌++◌}
use Rattle.rules.specs.declared.{Opening.Opening, Action.Action, NewMeter.NewMeter, PointAction.PointAction}
use Rattle.line_fields.specs.Fields.{Field, date, num, fields_text}
use Rattle.line_kinds.specs.declared.{Kind.Kind}
use Rattle.line_kinds.specs.Kinds.{word}
use Rattle.line_messages.specs.declared.{Message.Message}

-- What a message says in a line: its kind, and its fields.
pub record Said : Type 0 where
  pub kind : Kind
  pub fields : List Field

abbrev pub line : Kind → List Field → Said
line k fs = record { kind = k; fields = fs }

-- 02, F-4: "The lines `enr` and `cdt` gain the two fields at their end": the fields of the meter that they bring.
abbrev pub meter_fields : NewMeter → List Field
meter_fields m = num m.before ∷ num m.after ∷ num m.index ∷ num m.code ∷ num m.factor ∷ []

-- The calls that name a point: t is today, p the point.
abbrev pub said_at : ℕ → ℕ → PointAction → Said
said_at t p (PointAction.Enrol m) = line Kind.Enr (date t ∷ num p ∷ meter_fields m)
said_at t p (PointAction.IntoService s key) = line Kind.Demmespc (date t ∷ num p ∷ num s ∷ num key ∷ [])
said_at t p (PointAction.DefaultSupply key) = line Kind.I (date t ∷ num p ∷ num key ∷ [])
said_at t p (PointAction.Request s key r) = line Kind.Demcf (date t ∷ num p ∷ num s ∷ num key ∷ date r ∷ [])
said_at t p (PointAction.Cancel s) = line Kind.Adc (date t ∷ num p ∷ num s ∷ [])
said_at t p (PointAction.Reading d x z) = line Kind.Ri (date t ∷ num p ∷ date d ∷ num x ∷ num z ∷ [])
said_at t p (PointAction.MeterChange x z m) = line Kind.Cdt (date t ∷ num p ∷ num x ∷ num z ∷ meter_fields m)
said_at t p PointAction.OutOfService = line Kind.Demmhs (date t ∷ num p ∷ [])
said_at t p (PointAction.Suspend mark) = line Kind.Sus (date t ∷ num p ∷ num mark ∷ [])

-- Each call.
abbrev pub said_on : ℕ → Action → Said
said_on t (Action.Contract s) = line Kind.Ctr (date t ∷ num s ∷ [])
said_on t (Action.Failure s) = line Kind.Def (date t ∷ num s ∷ [])
said_on t (Action.At p act) = said_at t p act
said_on t Action.Day = line Kind.Jour (date t ∷ [])

-- 01: "`set` opens (first day for today, W, A, B, default, last resort)".
abbrev pub opened : Opening → Said
opened o =
    line Kind.Set (date o.day ∷ num o.w ∷ num o.a ∷ num o.b ∷ num o.default ∷ num o.resort ∷ [])

abbrev pub said : Message → Said
said (Message.Open o) = opened o
said (Message.Ask c) = said_on c.today c.action
said Message.Unreadable = line Kind.Unknown []

-- The kind of a message's line, and the line.
abbrev pub kind_of : Message → Kind
kind_of m = (said m).kind

abbrev pub line_of : Message → List ℕ
line_of m = word (said m).kind ++ fields_text (said m).fields
