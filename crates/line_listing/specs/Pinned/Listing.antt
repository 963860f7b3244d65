-- 01, Message lines: "At the end come, per enrolled point, rising, its periods (point; start; holder; volume)
-- and `total`; point; advance." 02, F-4: "Each period gains its Nm³ volume in thousandths, the fifth field of its line;
-- a point's Nm³ advance, the fourth of its `total` line". The closing lines. Definitions only.
use Rattle.std.specs.Prelude.{ℕ, zero, suc, ◌+◌, cond, List, [], ◌∷◌, ◌++◌, get_or}
use Rattle.rules.specs.declared.{Period.Period, History.History, Point.Point, Register.Register}
use Rattle.rules.specs.Pinned.Register.{no_period, used}
use Rattle.questions.specs.Pinned.Questions.{advance_in}
use Rattle.line_answers.specs.Answers.{period_line, total_line}

-- "its periods (point; start; holder; volume)": of the first n, the oldest first.
unfoldable pub period_lines : ℕ → ℕ → List Period → List ℕ
period_lines p zero ps = []
period_lines p (suc n) ps = period_lines p n ps ++ period_line p (get_or ps n no_period)

-- "its periods .. and `total`; point; advance": all that a point has, and behind them what their volumes add up to.
abbrev pub history_lines : ℕ → History → List ℕ
history_lines p h =
    period_lines p (used h) h.periods ++ total_line p (advance_in h).volume (advance_in h).normal

-- "per enrolled point": nothing of a point that is not enrolled.
unfoldable pub point_lines : ℕ → Point → List ℕ
point_lines p g = cond g.fields.enrolled (history_lines p g.history) []

-- "rising": the lines of points one behind the other, the first of them point p.
unfoldable pub listing_from : ℕ → List Point → List ℕ
listing_from p [] = []
listing_from p (g ∷ gs) = point_lines p g ++ listing_from (p + 1) gs

-- The closing lines of a register.
unfoldable pub listing : Register → List ℕ
listing r = listing_from 1 r.points
