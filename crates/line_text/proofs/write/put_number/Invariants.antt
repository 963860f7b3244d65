use Rattle.basics.proofs.Basics.{◌≡◌, [], ◌≤◌, ◌+◌, ◌<◌, length}
use Rattle.line_text.specs.Between.Appending.{put}
use Rattle.line_text.specs.Decimal.{decimal}
use Rattle.line_text.proofs.DigitSteps.{Left}
use Rattle.line_text.proofs.write.put_number.Given as goal

abbrev pub invariant-loop-i : goal.invariant-loop-i
invariant-loop-i l = ((l.at ≤ l.i) × (l.i ≤ l.at + length (decimal l.n [])) × (l.at + length (decimal l.n []) ≤ length l.initial.out) × (length l.out ≡ length l.initial.out)) ×
    (l.at < l.i → Left l.n l.at l.initial.out l.v l.i l.out) × (l.i ≡ l.at → l.out ≡ put l.at (decimal l.n []) l.initial.out)
