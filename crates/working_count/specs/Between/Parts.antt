-- A part of a count. Definitions only.
use Rattle.std.specs.Prelude.{ℕ, ◌-◌, ◌≤◌, ◌<◌, ◌≡◌}
use Rattle.holidays.specs.Working.{working_from}

-- Of the days from d to the day before n, which is at most the end, c are working days.
pub record Counted (d end n c : ℕ) : Type 0 where
  pub later : d < n
  pub within : n ≤ end
  pub count : c ≡ working_from d (n - d)
