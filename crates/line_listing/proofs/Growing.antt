-- The lines of a point's periods, one turn of the loop over them, and a bound on their length.
use Rattle.basics.proofs.Basics.{◌≡◌, refl, List, [], ◌++◌, ◌≤◌, ℕ, ◌+◌, ◌<◌, ◌^◌, add-one, arith, length, get_or}
use Rattle.rules.specs.declared.{Period.Period}
use Rattle.rules.specs.Pinned.Register.{no_period}
use Rattle.line_answers.specs.Answers.{period_line}
use Rattle.line_answers.proofs.LineTexts.{period_short}
use Rattle.line_listing.specs.Pinned.Listing.{period_lines}

-- one more period's line
pub lines_next : (p i : ℕ) (ps : List Period) → period_lines p (i + 1) ps ≡ period_lines p i ps ++ period_line p
    (get_or ps i no_period)
unfolding period_lines
lines_next p i ps = rw (add-one i)

pub lines_none : (p : ℕ) (ps : List Period) → period_lines p 0 ps ≡ []
unfolding period_lines
lines_none p ps = refl

-- the lines of a point of two digits, with any holder of 8 bits and any volumes of 64
pub period_within : (p : ℕ) (q : Period) → p < 100 → q.holder < 256 → q.volume.0 < 2 ^ 64 → q.normal.0 < 2 ^ 64
    → length (period_line p q) ≤ 58
period_within p q hp hh hv hn = period_short p q 2 3 (omega arith) (omega arith) (omega arith) (omega arith) hv hn
