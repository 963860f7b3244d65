-- `line_answers::answer_size` meets its contract: a word has at most eight bytes, a number at most twenty digits.
use Rattle.basics.proofs.Basics.{ap, ℕ, [], arith, length}
use Rattle.line_text.specs.Decimal.{decimal}
use Rattle.line_kinds.proofs.KindTable.{sound}
use Rattle.line_answers.proofs.LineTexts.{digits_few}
use Rattle.line_answers.proofs.answer_size.Goals as goal

pub overflow_add-result : goal.overflow_add-result
overflow_add-result c = let few = digits_few c.args.n (omega arith) in let short = (sound c.args.shown).short in
    omega (arith, c.digit_count.ensures, ap (λ (n : ℕ). length (decimal n [])) c.from.ensures, ap length c.row_of.ensures.word)

pub overflow_add-result-2 : goal.overflow_add-result-2
overflow_add-result-2 c = let few = digits_few c.args.n (omega arith) in let short = (sound c.args.shown).short in
    omega (arith, c.digit_count.ensures, ap (λ (n : ℕ). length (decimal n [])) c.from.ensures, ap length c.row_of.ensures.word)
