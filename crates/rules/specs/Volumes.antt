-- Document 01, "Volumes", and document 02, F-4: what a reading advances, the shares of its days, and the volumes that a
-- list of readings gives: as the wheels count (OBIS 7-1:3.0.0 for cubic metres), and in normal cubic metres (OBIS
-- 7-1:13.2.0). Definitions only.
--
-- Span                a reading from the day of the last one to its own: V and U with the two days, and the factor
-- given               what a reading has given before a day; `normal_given`: the same in normal cubic metres
-- day_volume          the volume of one gas day by one reading; `volume`: by all readings of a list
-- day_normal, normal  the same in normal cubic metres
-- registered          the registered advance: the sum of V × U; `registered_normal`: in normal cubic metres
use Rattle.std.specs.Prelude.{cond, ◌&&◌, List, [], ◌∷◌, ℕ, suc, ◌+◌, ◌-◌, ◌*◌, ◌/◌, ◌^◌, min, leb, ltb}
use Rattle.rules.specs.declared.{Code.Code, Fields.Fields, Meter.Meter, Span.Span}

-- 10^w, "w their sum". No accepted meter has more than 8 and 3 wheels; past that the turn stays as with 8 and 3, so
-- that the turn times U is at most 10^11 for any value.
unfoldable pub full_turn : ℕ → ℕ → ℕ
full_turn before after = 10 ^ (min before 8 + min after 3)

abbrev pub turn_of : Meter → ℕ
turn_of m = full_turn m.before m.after

-- "U = 10^(3 − wheels after the comma) of the meter read"
unfoldable pub unit_of : Meter → ℕ
unit_of m = 10 ^ (3 - m.after)

-- 02, F-4: "for an m³ meter a correction factor in ten-thousandths, 1 to 99,999"; "an Nm³ meter passes its volume on, as
-- with 10,000". No accepted meter has a larger factor; past it the factor stays 99,999, so that a volume times the
-- factor is at most 2 × 10^16 for any value.
unfoldable pub factor_of : Code → ℕ
factor_of (Code.Cubic f) = min f 99999
factor_of Code.Normal = 10000

-- "advances the wheels by V = x2 − x1 + z × 10^w"
unfoldable pub advance_of : ℕ → ℕ → ℕ → ℕ → ℕ
advance_of x₁ x₂ z turn = x₂ + z * turn - x₁

-- "A reading from (d1, x1), the point's last reading in the day book, to (d2, x2)"
unfoldable pub span_to : Fields → ℕ → ℕ → ℕ → Span
span_to f d x z =
    record {
      from = f.reading.day;
      to = d;
      advance = advance_of f.reading.index x z (turn_of f.meter);
      unit = unit_of f.meter;
      factor = factor_of f.meter.code;
    }

-- floor(V × k / D), "D = d2 − d1"
unfoldable pub up_to : Span → ℕ → ℕ
up_to s k = s.advance * k / (s.to - s.from)

-- "day d1 + k (k from 0 to D − 1) has the share floor(V × (k + 1) / D) − floor(V × k / D)"
unfoldable pub share : Span → ℕ → ℕ
share s k = up_to s (suc k) - up_to s k

-- What a reading has given before day d: floor(V × k / D) × U, with the k days of the reading that lie before d.
unfoldable pub given : Span → ℕ → ℕ
given s d = up_to s (min (d - s.from) (s.to - s.from)) * s.unit

-- "Its volume is the share times U"; a reading gives the days before it and from it on nothing.
unfoldable pub day_volume : Span → ℕ → ℕ
day_volume s d = cond (leb s.from d && ltb d s.to) (share s (d - s.from) * s.unit) 0

-- 02, F-4: "For each reading the converted total up to a day is floor(m³ total to that day × factor / 10,000)"
unfoldable pub normal_given : Span → ℕ → ℕ
normal_given s d = given s d * s.factor / 10000

-- "and a day's part is the difference of two such totals"
unfoldable pub day_normal : Span → ℕ → ℕ
day_normal s d = normal_given s (suc d) - normal_given s d

-- Over the readings of a list, added up.
unfoldable pub summed : (Span → ℕ) → List Span → ℕ
summed f [] = 0
summed f (s ∷ l) = f s + summed f l

abbrev pub volume : List Span → ℕ → ℕ
volume l d = summed (λ (s : Span). day_volume s d) l

abbrev pub normal : List Span → ℕ → ℕ
normal l d = summed (λ (s : Span). day_normal s d) l

-- "the sum of V × U over the accepted readings and meter changes of the list that name it"
abbrev pub registered : List Span → ℕ
registered l = summed (λ (s : Span). s.advance * s.unit) l

-- 02, F-4: "a point's Nm³ advance .. sums its readings' converted totals"
abbrev pub registered_normal : List Span → ℕ
registered_normal l = summed (λ (s : Span). normal_given s s.to) l
