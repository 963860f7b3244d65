-- `line_answers::volumes_size` meets its contract.
use Rattle.basics.proofs.Basics.{arith}
use Rattle.line_answers.proofs.LineTexts.{digits_few, volumes_length, volumes_short}
use Rattle.line_answers.proofs.volumes_size.Goals as goal

pub overflow_add-result : goal.overflow_add-result
overflow_add-result c = let a = c.args in let volume = digits_few a.volume.0 (omega arith) in
    let normal = digits_few a.normal.0 (omega arith) in omega (arith, c.digit_count.ensures, c.digit_count-2.ensures)

pub overflow_add-result-2 : goal.overflow_add-result-2
overflow_add-result-2 c = let a = c.args in let volume = digits_few a.volume.0 (omega arith) in
    let normal = digits_few a.normal.0 (omega arith) in omega (arith, c.digit_count.ensures, c.digit_count-2.ensures)

pub returns : goal.returns
returns c = let a = c.args in let all = volumes_length a.volume a.normal in
    let few = volumes_short a.volume a.normal (omega arith) (omega arith) in
    (omega (arith, c.digit_count.ensures, c.digit_count-2.ensures), omega (arith, c.digit_count.ensures, c.digit_count-2.ensures))
