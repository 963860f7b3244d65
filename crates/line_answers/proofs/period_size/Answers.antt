-- `line_answers::period_size` meets its contract.
use Rattle.basics.proofs.Basics.{ap, ℕ, [], arith, length}
use Rattle.line_text.specs.Decimal.{decimal}
use Rattle.line_answers.proofs.LineTexts.{digits_few, period_length}
use Rattle.line_answers.proofs.period_size.Goals as goal

pub overflow_add-result : goal.overflow_add-result
overflow_add-result c = let a = c.args in
    let point = digits_few a.point (omega arith) in let holder = digits_few a.period.holder (omega arith) in
    omega (arith, c.digit_count.ensures, c.digit_count-2.ensures, ap (λ (n : ℕ). length (decimal n [])) c.from-holder.ensures)

pub overflow_add-result-2 : goal.overflow_add-result-2
overflow_add-result-2 c = let a = c.args in
    let point = digits_few a.point (omega arith) in let holder = digits_few a.period.holder (omega arith) in
    omega (arith, c.digit_count.ensures, c.digit_count-2.ensures, ap (λ (n : ℕ). length (decimal n [])) c.from-holder.ensures, c.volumes_size.ensures.1)

pub overflow_add-result-3 : goal.overflow_add-result-3
overflow_add-result-3 c = let a = c.args in
    let point = digits_few a.point (omega arith) in let holder = digits_few a.period.holder (omega arith) in
    omega (arith, c.digit_count.ensures, c.digit_count-2.ensures, ap (λ (n : ℕ). length (decimal n [])) c.from-holder.ensures, c.volumes_size.ensures.1)

pub returns : goal.returns
returns c = let a = c.args in
    let all = period_length a.point a.period in
    omega (arith, c.digit_count.ensures, c.digit_count-2.ensures, ap (λ (n : ℕ). length (decimal n [])) c.from-holder.ensures, c.volumes_size.ensures.0)
