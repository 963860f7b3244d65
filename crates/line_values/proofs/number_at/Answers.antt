-- `line_values::number_at` meets its contract: the first byte decides.
use Rattle.basics.proofs.Basics.{sym, ◌∙◌, drop_of_length-le, ne_eqb, eq-eqb}
use Rattle.line_values.specs.Pinned.Numbers.{number_of}
use Rattle.line_values.proofs.Steps.{cons_at, number_step}
use Rattle.line_values.proofs.number_at.Goals as goal

pub returns-in_err-c : goal.returns-in_err-c
returns-in_err-c c = unfold number_of in rw (drop_of_length-le _ c.in_err-c.ensures.lookup.3) c.from_residual.ensures

pub returns-then-c-eq48 : goal.returns-then-c-eq48
returns-then-c-eq48 c = let byte = c.in_ok-c.ensures.lookup.3 in
    rw (cons_at _ _ byte.0, ← byte.1 0, number_step, eq-eqb _ 48 c.if-c-eq48.true)

pub returns-then-not-is_ascii_digit : goal.returns-then-not-is_ascii_digit
returns-then-not-is_ascii_digit c = let byte = c.in_ok-c.ensures.lookup.3 in
    let d = sym c.is_ascii_digit.ensures.value ∙ c.if-not-is_ascii_digit.true in
    rw (cons_at _ _ byte.0, ← byte.1 0, number_step, ne_eqb _ 48 c.if-c-eq48.false, d)

pub returns : goal.returns
returns c = let byte = c.in_ok-c.ensures.lookup.3 in
    let d = sym c.is_ascii_digit.ensures.value ∙ c.if-not-is_ascii_digit.false in
    rw (cons_at _ _ byte.0, ← byte.1 0, number_step, ne_eqb _ 48 c.if-c-eq48.false, d, ← c.digit.ensures)
    c.more_digits.ensures
