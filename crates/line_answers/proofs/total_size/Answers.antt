-- `line_answers::total_size` meets its contract.
use Rattle.basics.proofs.Basics.{arith}
use Rattle.line_answers.proofs.LineTexts.{digits_few, total_length}
use Rattle.line_answers.proofs.total_size.Goals as goal

pub overflow_add-result : goal.overflow_add-result
overflow_add-result c = let point = digits_few c.args.point (omega arith) in
    omega (arith, c.digit_count.ensures, c.volumes_size.ensures.1)

pub overflow_add-result-2 : goal.overflow_add-result-2
overflow_add-result-2 c = let point = digits_few c.args.point (omega arith) in
    omega (arith, c.digit_count.ensures, c.volumes_size.ensures.1)

pub returns : goal.returns
returns c = let a = c.args in
    omega (arith, c.digit_count.ensures, c.volumes_size.ensures.0, total_length a.point a.advance a.normal)
