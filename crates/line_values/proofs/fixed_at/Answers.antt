-- `line_values::fixed_at` meets its contract: what is read from the first digit is what is read from here on.
use Rattle.basics.proofs.Basics.{◌≡◌, sym, ◌∙◌, ◌-◌, ◌+◌, arith, drop, length, get_or, length-drop}
use Rattle.line_values.proofs.Numbers.{digit_range}
use Rattle.line_values.proofs.Steps.{fixed_step, fixed_few, fixed_end, fixed_grows, few_left, few_digits, part_byte}
use Rattle.line_values.proofs.fixed_at.Goals as goal

pub returns-in_err-get : goal.returns-in_err-get
returns-in_err-get c = let a = c.args in
    rw (fixed_few a.count 0 (drop a.at a.s.now) (few_left a.s.now a.at a.count c.in_err-get.ensures.lookup.0 (omega arith)))
    c.from_residual.ensures

pub returns-in_err-digits : goal.returns-in_err-digits
returns-in_err-digits c = let a = c.args in let few = few_digits c.in_ok-get.field-0.now a.count c.in_err-digits.ensures.lookup.0 in
    let long = length-drop a.at a.s.now in let rest = c.in_ok-get.ensures.lookup.0 in
    rw (fixed_few a.count 0 (drop a.at a.s.now) (omega arith)) c.from_residual-in_err-digits.ensures

pub returns-then-not-is_ascii_digit : goal.returns-then-not-is_ascii_digit
returns-then-not-is_ascii_digit c = let a = c.args in let l = c.loop-c in let i = l.c-index in
    let digits = c.in_ok-digits.digits.now in let part = c.in_ok-digits.ensures.lookup.0 in let rest = c.in_ok-get.ensures.lookup.0 in
    let byte : get_or digits i 0 ≡ get_or a.s.now (a.at + i) 0 =
    part_byte a.s.now digits c.in_ok-get.field-0.now a.at (a.count - 0) (length a.s.now - a.at) i part.2 rest.2 (omega arith) (omega arith) in
    let d = sym c.is_ascii_digit.ensures.value ∙ c.if-not-is_ascii_digit.true in
    rw (l.invariant.1, fixed_step a.s.now (a.at + i) (a.at + (i + 1)) (a.count - i) (a.count - (i + 1)) l.v (omega arith) (omega arith) (omega arith))
    (rw (← byte, d))

pub loop-c-preserved : goal.loop-c-preserved
loop-c-preserved c = let a = c.args in let l = c.loop-c in let i = l.c-index in
    let digits = c.in_ok-digits.digits.now in let part = c.in_ok-digits.ensures.lookup.0 in let rest = c.in_ok-get.ensures.lookup.0 in
    let byte : get_or digits i 0 ≡ get_or a.s.now (a.at + i) 0 =
    part_byte a.s.now digits c.in_ok-get.field-0.now a.at (a.count - 0) (length a.s.now - a.at) i part.2 rest.2 (omega arith) (omega arith) in
    let d = sym c.is_ascii_digit.ensures.value ∙ c.if-not-is_ascii_digit.false in (
      rw c.digit.ensures (fixed_grows l.v _ i l.invariant.0 (digit_range _ d).1),
      rw (c.digit.ensures, l.invariant.1)
          (rw (fixed_step a.s.now (a.at + i) (a.at + (i + 1)) (a.count - i) (a.count - (i + 1)) l.v (omega arith) (omega arith) (omega arith))
          (rw (← byte, d))),
    )

pub returns : goal.returns
returns c = let a = c.args in let l = c.loop-c in let part = c.in_ok-digits.ensures.lookup.0 in
    rw (l.invariant.1, fixed_end a.s.now (a.at + l.c-index) (a.at + a.count) (a.count - l.c-index) l.v (omega arith) (omega arith))
