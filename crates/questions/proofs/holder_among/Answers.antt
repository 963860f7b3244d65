use Rattle.std.proofs.Common.{rules, sym, ◌≡◌, ◌+◌, ◌-◌, ◌<◌, ◌≤◌, ℕ, length, slice_index_or}
use Rattle.rules.specs.Pinned.Register.{no_period}
use Rattle.questions.proofs.Walks.{among_found, among_none}
use Rattle.basics.proofs.Basics.{arith}
use Rattle.questions.proofs.holder_among.Goals as goal

pub returns-in_default : goal.returns-in_default
returns-in_default c = let a = c.args in
    let later : (k : ℕ) → k < length a.ps.now → a.d < (slice_index_or a.ps.now k no_period).start = search rules in
    sym (among_none a.d a.ps.now 0 (length a.ps.now) (λ k lo hi. later k hi))

pub returns : goal.returns
returns c = let a = c.args in let i = c.in-Some.i in
    let lt : i < length a.ps.now = search rules in
    let here : (slice_index_or a.ps.now i no_period).start ≤ a.d = search rules in
    let later : (k : ℕ) → i < k → k < length a.ps.now → a.d < (slice_index_or a.ps.now k no_period).start = search rules in
    let z : 0 + (length a.ps.now - i) ≡ length a.ps.now - i = omega arith in
    sym (rw z at (among_found a.d a.ps.now i 0 (length a.ps.now) lt here later))
