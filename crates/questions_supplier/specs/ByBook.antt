-- 02, F-6: each supplier its own view, by the day book and the list alone, as functions of the opening and the calls.
-- Nothing here looks at the register. Definitions only.
--
-- own_marked       of a point's marked cells those of one supplier
-- book_own         all that this supplier may see of this point
-- book_own_period  the n-th of them; `perimeter_number`: the number that goes with it
use Rattle.std.specs.Prelude.{true, false, cond, ◌||◌, List, [], ◌∷◌, ℕ, suc, ◌-◌, eqb, Option, Some, None}
use Rattle.std.proofs.Math.Option.{Option as Told, none, some}
use Rattle.rules.specs.declared.{Opening.Opening, Call.Call}
use Rattle.rules.specs.Volumes.{volume, normal}
use Rattle.rules.specs.Rejections.{not_point, not_supplier}
use Rattle.rules.specs.DayBook.{Cell, cell, opened, readings}
use Rattle.rules.specs.Periods.{sum_days, book}
use Rattle.questions.specs.ByBook.{nth}
use Rattle.questions_supplier.specs.declared.{OwnPeriod.OwnPeriod}

-- "start, end if any (the next period's start), volumes"
abbrev pub own_period : ℕ → Option ℕ → ℕ → ℕ → OwnPeriod
own_period d e v n = record { start = d; end = e; volume = record { 0 = v }; normal = record { 0 = n } }

-- The day after a period's last; where it has no end, the day after the register's.
abbrev pub day_after : ℕ → Option ℕ → ℕ
day_after last None = suc last
day_after last (Some d) = d

-- Volumes of days, the supplier, the register's day.
module _ (vol nor : ℕ → ℕ) (s last : ℕ) where
  -- The period that starts on a marked day d, to the next marked day, if any: "A period's booked volume is the sum over
  -- its days" (01), and so is its normal volume (F-4).
  abbrev pub from_mark : ℕ → Option ℕ → OwnPeriod
  from_mark d e = own_period d e (sum_days vol d (day_after last e - d)) (sum_days nor d (day_after last e - d))

  -- The marked cells that hold s. The cells stand newest first; `end` is the next marked day, l are the later periods.
  unfoldable pub own_marked : Option ℕ → List Cell → List OwnPeriod → List OwnPeriod
  own_marked end [] l = l
  own_marked end (cell d h true ∷ cs) l = own_marked (Some d) cs (cond (eqb h s) (from_mark d end ∷ l) l)
  own_marked end (cell d h false ∷ cs) l = own_marked end cs l

-- "A supplier off 1 to 99 gives 22. New numbers: 41, not in this supplier's perimeter, tested after that 22."
abbrev pub perimeter : Told OwnPeriod → ℕ
perimeter none = 41
perimeter (some q) = 0

abbrev pub perimeter_number : ℕ → Told OwnPeriod → ℕ
perimeter_number s x = cond (not_supplier s) 22 (perimeter x)

module _ (o : Opening) (calls : List Call) where
  -- "A point off 1 to 32, not enrolled or never held": it has no marked cell of s.
  unfoldable pub book_own : ℕ → ℕ → List OwnPeriod
  book_own s p =
      cond (not_point p) []
      (own_marked (volume (readings (opened o) calls p)) (normal (readings (opened o) calls p)) s (book o calls).day
      None ((book o calls).page p).cells [])

  -- "A supplier names itself, a point and n, and is told its n-th period there, oldest first"
  unfoldable pub book_own_period : ℕ → ℕ → ℕ → Told OwnPeriod
  book_own_period s p n = cond (not_supplier s || eqb n 0) none (nth (n - 1) (book_own s p))
