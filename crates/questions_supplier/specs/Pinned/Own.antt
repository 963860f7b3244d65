-- 02, F-6: each supplier its own view, by the register. Definitions only.
--
-- own          a period as its supplier is told it
-- own_in       of a point's periods those of one supplier, the oldest first
-- own_periods  the same of a register: all that this supplier may see of this point
-- own_answer   what the question answers; `own_number`, `own_told`: its number, and what is told
use Rattle.std.specs.Prelude.{cond, List, [], ◌∷◌, ℕ, ◌-◌, eqb, Option, Some, None, Result, Ok, Err}
use Rattle.std.proofs.Math.Option.{Option as Told, none, some}
use Rattle.rules.specs.declared.{Period.Period, Register.Register}
use Rattle.rules.specs.Rejections.{not_supplier}
use Rattle.questions.specs.Pinned.Questions.{asked_history}
use Rattle.questions.specs.Latest.{counted}
use Rattle.questions_supplier.specs.declared.{OwnPeriod.OwnPeriod, ViewRefusal.ViewRefusal}

-- "start, end if any .., volumes": no holder is in it.
abbrev pub own : Period → Option ℕ → OwnPeriod
own q e = record { start = q.start; end = e; volume = q.volume; normal = q.normal }

-- "end if any (the next period's start)": of the periods behind it the first, whoever holds that.
abbrev pub end_in : List Period → Option ℕ
end_in [] = None
end_in (q ∷ qs) = Some q.start

-- The periods there that supplier s holds, "oldest first".
unfoldable pub own_in : ℕ → List Period → List OwnPeriod
own_in s [] = []
own_in s (q ∷ qs) = cond (eqb q.holder s) (own q (end_in qs) ∷ own_in s qs) (own_in s qs)

-- None where there is no such point, or where it is not enrolled.
unfoldable pub own_periods : Register → ℕ → ℕ → List OwnPeriod
own_periods r s p = own_in s (counted (asked_history r p))

-- "its n-th period there"; "an n off their count": none is the 0-th, and none stands behind the last.
unfoldable pub nth_own : ℕ → List OwnPeriod → Result OwnPeriod ViewRefusal
nth_own n [] = Err ViewRefusal.OutOfPerimeter
nth_own n (q ∷ qs) = cond (eqb n 1) (Ok q) (nth_own (n - 1) qs)

-- "A supplier off 1 to 99 gives 22"; 41 is "tested after that 22".
unfoldable pub own_answer : Register → ℕ → ℕ → ℕ → Result OwnPeriod ViewRefusal
own_answer r s p n = cond (not_supplier s) (Err ViewRefusal.OffRange) (nth_own n (own_periods r s p))

-- The number of each refusal; the number of an answer, 0 where the question is answered, and what is told then.
abbrev pub refusal_number : ViewRefusal → ℕ
refusal_number ViewRefusal.OffRange = 22
refusal_number ViewRefusal.OutOfPerimeter = 41

abbrev pub own_number : Result OwnPeriod ViewRefusal → ℕ
own_number (Ok q) = 0
own_number (Err e) = refusal_number e

abbrev pub own_told : Result OwnPeriod ViewRefusal → Told OwnPeriod
own_told (Ok q) = some q
own_told (Err e) = none
