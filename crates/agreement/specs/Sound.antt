-- Sound registers: what holds of every register that calls reach. An accepted opening gives a sound one, and every
-- call, accepted or refused, keeps it sound. proofs/Sound.antt proves it. Definitions only.
use Rattle.std.specs.Prelude.{◌≡◌, true, false, List, map, ℕ, zero, suc, ◌+◌, ◌*◌, ◌≤◌, ◌<◌, length, get_or}
use Rattle.dates.specs.Dates.{last_day}
use Rattle.rules.specs.declared.{Period.Period, Point.Point, Register.Register, Supply.Supply, SupplyKind.SupplyKind}
use Rattle.rules.specs.declared.{Pending.Pending, Code.Code, Opening.Opening, Call.Call}
use Rattle.rules.specs.Fields.{unsupplied}
use Rattle.rules.specs.Answers.{is_accepted}
use Rattle.rules.specs.Rejections.{opening_answer, due}
use Rattle.rules.specs.Pinned.Register.{no_period, point_at, opened, applied}
use Rattle.rules.specs.Periods.{periods_of, total}

-- What is due lies after day t.
abbrev pub KindAhead : ℕ → SupplyKind → Type 0
KindAhead t SupplyKind.None = Unit {0}
KindAhead t SupplyKind.Contract = Unit {0}
KindAhead t (SupplyKind.Default d) = t < d
KindAhead t (SupplyKind.LastResort d) = t < d

abbrev pub PendingAhead : ℕ → Pending → Type 0
PendingAhead t Pending.Nothing = Unit {0}
PendingAhead t (Pending.Request s e) = t < e

pub record Ahead (t : ℕ) (s : Supply) : Type 0 where
  pub kind : KindAhead t s.kind
  pub pending : PendingAhead t s.pending

-- The periods in the first n slots: the newest starts before day e, and each other one before the next.
abbrev pub Rising : ℕ → ℕ → List Period → Type 0
Rising e zero ps = Unit {0}
Rising e (suc n) ps = ((get_or ps n no_period).start < e) × Rising (get_or ps n no_period).start n ps

-- The two volumes: as the wheels count, and in normal cubic metres.
pub data Side : Type 0 where
  wheels : Side
  normal : Side

abbrev pub volume_on : Side → Period → ℕ
volume_on wheels q = q.volume.0
volume_on normal q = q.normal.0

-- No reading gives more than this, and each takes a day: a full turn of the largest meter, and ten times as much in
-- normal cubic metres, since no factor is past 99,999.
abbrev pub per_day : Side → ℕ
per_day wheels = 100000000000
per_day normal = 1000000000000

-- 02, F-4: "for an m³ meter a correction factor in ten-thousandths, 1 to 99,999"
abbrev pub FactorFits : Code → Type 0
FactorFits (Code.Cubic f) = (1 ≤ f) × (f ≤ 99999)
FactorFits Code.Normal = Unit {0}

-- A point on the register's day t.
pub record SoundPoint (t : ℕ) (g : Point) : Type 0 where
  pub slots : length g.history.periods ≡ 24
  -- starts rise, and none lies ahead
  pub rising : Rising (suc t) g.history.count g.history.periods
  -- there is room for all that is due, and all of it lies ahead
  pub room : g.history.count + due g.fields.supply ≤ 24
  pub ahead : Ahead t g.fields.supply
  pub read : g.fields.reading.day ≤ t
  pub wheels : (g.fields.meter.before ≤ 8) × (g.fields.meter.after ≤ 3)
  pub factor : FactorFits g.fields.meter.code
  pub volume : (x : Side) → total (map (volume_on x) (periods_of g)) ≤ per_day x * g.fields.reading.day
  pub blank : g.fields.enrolled ≡ false → (g.history.count ≡ 0) × (g.fields.supply ≡ unsupplied)
  pub begun : g.fields.enrolled ≡ true
      → (0 < g.history.count) × ((get_or g.history.periods 0 no_period).start ≤ g.fields.reading.day)

pub record Sound (r : Register) : Type 0 where
  pub lasting : (0 < r.settings.a) × (0 < r.settings.b)
  pub calendar : r.day ≤ last_day
  pub count : length r.points ≡ 32
  pub points : (p : ℕ) → 1 ≤ p → p ≤ 32 → SoundPoint r.day (point_at p r.points)

pub record SoundRegisters : Type 0 where
  pub opening : (o : Opening) → is_accepted (opening_answer o) ≡ true → Sound (opened o)
  pub call : (r : Register) (c : Call) → Sound r → Sound (applied r c).register
