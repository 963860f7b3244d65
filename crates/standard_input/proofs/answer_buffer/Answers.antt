-- The buffer has the length that its type says.
use Rattle.basics.proofs.Basics.{sym, ℕ, length-replicate}
use Rattle.standard_input.proofs.answer_buffer.Goals as goal

pub returns : goal.returns
returns c = sym (length-replicate {A = ℕ} 1572864 0)
