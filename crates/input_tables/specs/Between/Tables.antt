-- A register's points kept apart in three tables, so that a line costs what it changes. Definitions only.
use Rattle.std.specs.Prelude.{ℕ, ◌*◌, ◌≡◌, List, [], ◌∷◌, cond, ltb, length, take, drop}
use Rattle.std.proofs.Math.Seq.{paste}
use Rattle.rules.specs.declared.{Fields.Fields, Period.Period, Point.Point, Span.Span}
use Rattle.point_volumes.specs.Between.{booked_if_fair}
use Rattle.input_tables.specs.declared.{Tables.Tables}

-- A point of its parts.
abbrev pub joined : Fields → ℕ → List Period → Point
joined f n s = record { fields = f; history = record { count = n; periods = s } }

-- The slots of the point at place i.
abbrev pub row_at : ℕ → List Period → List Period
row_at i ss = take 24 (drop (24 * i) ss)

-- The points of the tables: 24 slots belong to each.
unfoldable pub points_of : List Fields → List ℕ → List Period → List Point
points_of [] _ _ = []
points_of (f ∷ fs) [] _ = []
points_of (f ∷ fs) (n ∷ ns) ss = joined f n (take 24 ss) ∷ points_of fs ns (drop 24 ss)

-- A reading booked over the n periods of the point at place i; no other place has one.
unfoldable pub booked_at : Span → ℕ → ℕ → List Period → List Period
booked_at s i n ss =
    cond (ltb i 32) (paste ss (24 * i) (booked_if_fair s (record { count = n; periods = row_at i ss })).periods 24) ss

-- 32 places, and 24 slots for each.
pub record Sized (fs : List Fields) (ns : List ℕ) (ss : List Period) : Type 0 where
  pub fields : length fs ≡ 32
  pub counts : length ns ≡ 32
  pub slots : length ss ≡ 768

-- The tables of points.
pub record Apart (ps : List Point) (t : Tables) : Type 0 where
  pub sized : Sized t.fields t.counts t.slots
  pub points : points_of t.fields t.counts t.slots ≡ ps
