-- 02, F-4: "The converted parts of a reading must add up to its converted total, for either kind of meter, by one
-- argument over the factor." proofs/Parts.antt proves it. Definitions only.
use Rattle.std.specs.Prelude.{◌≡◌, ℕ, ◌-◌, ◌*◌, ◌/◌, ◌<◌}
use Rattle.rules.specs.declared.{Code.Code, Fields.Fields, Span.Span}
use Rattle.rules.specs.Volumes.{day_volume, day_normal, span_to}
use Rattle.rules.specs.Periods.{sum_days}

-- The days' parts of any reading that takes a day or more, by whatever factor.
pub record PartsAddUp : Type 0 where
  pub normals : (s : Span) → s.from < s.to
      → sum_days (day_normal s) s.from (s.to - s.from) ≡ s.advance * s.unit * s.factor / 10000
  pub volumes : (s : Span) → s.from < s.to
      → sum_days (day_volume s) s.from (s.to - s.from) ≡ s.advance * s.unit
  -- "an Nm³ meter passes its volume on, as with 10,000"
  pub passed_on : (s : Span) → s.from < s.to → s.factor ≡ 10000 → (d : ℕ) → day_normal s d ≡ day_volume s d
  pub normal_meter : (f : Fields) (d x z : ℕ) → f.meter.code ≡ Code.Normal → (span_to f d x z).factor ≡ 10000
