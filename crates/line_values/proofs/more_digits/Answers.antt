-- `line_values::more_digits` meets its contract: what is read from the first digit is what is read from here on.
use Rattle.std.specs.Prelude.{Some}
use Rattle.basics.proofs.Basics.{sym, ◌∙◌, ap, ℕ, ◌^◌, arith, get_or, lt-ltb, le-ltb}
use Rattle.line_values.proofs.Numbers.{digit_range}
use Rattle.line_values.proofs.Steps.{cons_at, more_end, more_step}
use Rattle.line_values.proofs.more_digits.Goals as goal

pub returns-then-not-is_ascii_digit : goal.returns-then-not-is_ascii_digit
returns-then-not-is_ascii_digit c = let d = sym c.is_ascii_digit.ensures.value ∙ c.if-not-is_ascii_digit.true in
    rw (c.loop-i.invariant.1, cons_at _ _ c.loop-i-test.true, more_step, d)

pub returns-then-v-ge100000000000 : goal.returns-then-v-ge100000000000
returns-then-v-ge100000000000 c = let d = sym c.is_ascii_digit.ensures.value ∙ c.if-not-is_ascii_digit.false in
    rw (c.loop-i.invariant.1, cons_at _ _ c.loop-i-test.true, more_step, d, le-ltb _ (10 ^ 11) c.if-v-ge100000000000.true)

pub loop-i-preserved : goal.loop-i-preserved
loop-i-preserved c = let d = sym c.is_ascii_digit.ensures.value ∙ c.if-not-is_ascii_digit.false in
    let r = digit_range (get_or c.args.s.now c.loop-i.i 0) d in (
      omega arith,
      rw (c.digit.ensures, c.loop-i.invariant.1, cons_at _ _ c.loop-i-test.true, more_step, d, lt-ltb _ (10 ^ 11) c.if-v-ge100000000000.false),
    )

pub returns : goal.returns
returns c = rw (c.loop-i.invariant.1, more_end _ _ _ c.loop-i-test.false) (ap (λ (i : ℕ). Some (c.loop-i.v, i)) (omega arith))
