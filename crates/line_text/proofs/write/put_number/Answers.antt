-- `line_text::write::put_number` meets its contract: the digits that stand already, and those left, are the number's.
use Rattle.basics.proofs.Basics.{refl, sym, ◌∙◌, ap, [], ℕ, ◌+◌, arith, length, length-set, leb-true}
use Rattle.line_text.specs.Decimal.{decimal}
use Rattle.line_text.proofs.Spelling.{count_some}
use Rattle.line_text.proofs.DigitSteps.{digit_put}
use Rattle.line_text.proofs.Appends.{appended}
use Rattle.line_text.proofs.write.put_number.Goals as goal

pub loop-i-init : goal.loop-i-init
loop-i-init c = let a = c.args in let count = c.digit_count-count.ensures in let end = ap (λ (k : ℕ). a.at + k) count in
    let room = leb-true (a.at + _) (length a.out.now) (sym c.has_room.ensures ∙ c.if-not-has_room.false) in
    let some = count_some a.n in (
      (omega arith, omega arith, omega arith, refl),
      (λ h. record { small = omega arith; end = end; long = refl; before = refl; text = rw count }),
      λ e. absurd (omega arith),
    )

pub loop-i-preserved : goal.loop-i-preserved
loop-i-preserved c = let l = c.loop-i in
    let next = digit_put _ _ _ _ _ _ (l.invariant.1 c.loop-i-test.true) (omega arith) in
    ((omega arith, omega arith, omega arith, rw length-set (omega arith)), next.0, next.1)

pub returns : goal.returns
returns c = let a = c.args in let l = c.loop-i in
    appended a.at (decimal a.n []) a.out.now _ _ (omega arith) (l.invariant.2 (omega arith))
    (ap (λ (k : ℕ). a.at + k) c.digit_count-count.ensures)
