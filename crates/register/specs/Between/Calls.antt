-- The register's calls and questions as values of the code's types. Definitions only.
use Rattle.std.specs.Prelude.{Bool, cond, ◌&&◌, ℕ, leb}
use Rattle.dates.specs.Dates.{last_day}
use Rattle.rules.specs.declared.{Point.Point, Register.Register, Settings.Settings, Call.Call}
use Rattle.rules.specs.declared.{Action.Action, PointAction.PointAction}
use Rattle.rules.specs.Effects.{failed}
use Rattle.rules.specs.Rejections.{not_point, touches, is_full}
use Rattle.rules.specs.Pinned.Register.{blank_point, point_at, advanced, view, on}
use Rattle.point_effects.specs.Between.{noted, failed_by}

abbrev pub call_at : ℕ → ℕ → PointAction → Call
call_at t p a = on t (Action.At p a)

-- The register brought up to a day of the calendar; no call goes past its end.
unfoldable pub brought_up : ℕ → Register → Register
brought_up t r = cond (leb t last_day) (advanced t r) r

-- Point p as a call on day t finds it: a number outside 1 to 32 finds a point that was never enrolled.
unfoldable pub point_on : ℕ → ℕ → Register → Point
point_on t p r = cond (not_point p) blank_point (point_at p (brought_up t r).points)

-- Number 30 of a failure of s, at one point.
unfoldable pub failure_fills : Settings → ℕ → ℕ → Point → Bool
failure_fills S t s g = touches s g.fields && is_full (view t g) (failed S t s g.fields)

-- A failure of s, written down at one point.
unfoldable pub failed_on : Settings → ℕ → ℕ → Point → Point
failed_on S t s g = noted t (failed_by S t s g.fields) g.history
