-- 02, F-5: "the count of working days strictly between them equals that of the walk day by day." Of the code
-- `working_of` is proved equal to `working_answer`, and `working_days`, which walks, to `working_days`. proofs/Walk.antt
-- proves the statement. Definitions only.
use Rattle.std.specs.Prelude.{ℕ, ◌+◌, ◌-◌, ◌≤◌, ◌≡◌, Some}
use Rattle.dates.specs.Dates.{last_day}
use Rattle.holidays.specs.Working.{working_days}
use Rattle.working_count.specs.Question.{working_answer}

pub record SameAsWalk : Type 0 where
  -- a walk from the day after the first to the day before the second
  pub walk : (a b : ℕ) → a ≤ b → b ≤ last_day → working_answer a b ≡ Some (working_days (a + 1) (b - 1))
