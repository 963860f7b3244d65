-- Document 01, "The register's periods are the marked cells": a point's periods, and what the day book's cells and
-- the list say of them. Definitions only.
--
-- periods_of      a point's periods, oldest first; `volumes_of`, `normals_of`: their two volumes
-- marked_days     the days of the marked cells, oldest first
-- holder_on       the day book's holder on a day: the cell's; none where the day has no cell
-- covering        the periods that a day lies in
-- daily_sums      for each period the sum of its days' volumes
-- book, register  the two machines after a list of calls, from a newly opened register on
use Rattle.std.specs.Prelude.{Bool, true, false, cond, ◌&&◌, List, [], ◌∷◌, map, ℕ, zero, suc, ◌+◌, ◌-◌, eqb, leb, ltb, take}
use Rattle.std.proofs.Math.Option.{Option, none, some}
use Rattle.rules.specs.declared.{Period.Period, Point.Point, Register.Register, Opening.Opening, Call.Call}
use Rattle.rules.specs.Pinned.Register
use Rattle.rules.specs.DayBook
use Rattle.rules.specs.DayBook.{Book, Cell, cell}

abbrev pub periods_of : Point → List Period
periods_of g = take g.history.count g.history.periods

abbrev pub starts_of : Point → List ℕ
starts_of g = map (λ (q : Period). q.start) (periods_of g)

abbrev pub volumes_of : Point → List ℕ
volumes_of g = map (λ (q : Period). q.volume.0) (periods_of g)

abbrev pub normals_of : Point → List ℕ
normals_of g = map (λ (q : Period). q.normal.0) (periods_of g)

-- The cells stand newest first; l is what comes after them.
unfoldable pub marked_days : List Cell → List ℕ → List ℕ
marked_days [] l = l
marked_days (cell d h true ∷ cs) l = marked_days cs (d ∷ l)
marked_days (cell d h false ∷ cs) l = marked_days cs l

unfoldable pub holder_on : ℕ → List Cell → Option ℕ
holder_on d [] = none
holder_on d (cell k h m ∷ cs) = cond (eqb k d) (some h) (holder_on d cs)

-- "each starts at one and runs to the next, the last without end"
abbrev pub is_before_next : ℕ → List Period → Bool
is_before_next d [] = true
is_before_next d (q ∷ ps) = ltb d q.start

unfoldable pub covering : ℕ → List Period → List Period
covering d [] = []
covering d (q ∷ ps) = cond (leb q.start d && is_before_next d ps) (q ∷ covering d ps) (covering d ps)

-- The volumes of the n days from day d on, added up.
unfoldable pub sum_days : (ℕ → ℕ) → ℕ → ℕ → ℕ
sum_days vol d zero = 0
sum_days vol d (suc n) = vol d + sum_days vol (suc d) n

-- "A period's booked volume is the sum over its days": from its start to the next one's, the last one's to the day
-- `last`.
abbrev pub day_after : ℕ → List ℕ → ℕ
day_after last [] = suc last
day_after last (s ∷ ss) = s

unfoldable pub daily_sums : (ℕ → ℕ) → ℕ → List ℕ → List ℕ
daily_sums vol last [] = []
daily_sums vol last (s ∷ ss) = sum_days vol s (day_after last ss - s) ∷ daily_sums vol last ss

unfoldable pub total : List ℕ → ℕ
total [] = 0
total (v ∷ vs) = v + total vs

abbrev pub book : Opening → List Call → Book
book o calls = DayBook.after (DayBook.opened o) calls

abbrev pub register : Opening → List Call → Register
register o calls = Register.after (Register.opened o) calls
