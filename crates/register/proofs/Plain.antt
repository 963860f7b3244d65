-- A call that looks at no point, on the whole register: contract and day.
use Rattle.basics.proofs.Basics.{◌≡◌, ◌∙◌, true, false, ◌≤◌, ℕ, ltb, ltb-false}
use Rattle.rules.specs.declared.{Action.Action, Answer.Answer, Register.Register, View.View}
use Rattle.rules.specs.Answers.{is_accepted}
use Rattle.rules.specs.Rejections.{rows, answer_to, shown, answer}
use Rattle.rules.specs.Pinned.Register.{view, point_at, advanced, says, done, outcome, applied, on}
use Rattle.rules.proofs.Accept.{pass, neither}
use Rattle.rules.proofs.Views.{passed}
use Rattle.point_answers.specs.Between.{answer_apart}
use Rattle.register.specs.Between.Calls.{brought_up}
use Rattle.register.proofs.AtPoint.{advanced_on}

-- what the call is answered apart from all points, whatever they show
abbrev Apart : Register → ℕ → Action → Type 0
Apart r t c = (v : ℕ → View) → answer_apart r.settings r.day r.contracts t c ≡ answer_to r.settings r.day r.contracts t c v

module _ (r : Register) (t : ℕ) (c : Action) (is : Apart r t c) (a : Answer)
    (e : a ≡ answer_apart r.settings r.day r.contracts t c) where
  abbrev every : ℕ → View
  every = shown (λ q. view t (point_at q (advanced t r).points))

  says_is : a ≡ says r (on t c)
  unfolding says answer
  says_is = e ∙ is every

  pub plain_refused : is_accepted a ≡ false → outcome a r ≡ applied r (on t c)
  unfolding applied
  plain_refused z = rw (← says_is, z)

  pub plain_accepted : (n : Register) → n ≡ brought_up t r → is_accepted a ≡ true → outcome a (done t c n) ≡ applied r (on t c)
  unfolding applied
  plain_accepted n m z =
      let ok : is_accepted (answer_to r.settings r.day r.contracts t c every) ≡ true = rw (← (is every), ← e) z in
      rw (← says_is, z, m, advanced_on t r (passed r.settings r.day r.contracts t c every ok).0)

-- The supplier of an accepted contract.
pub contract_in : (r : Register) (t s : ℕ) (a : Answer) → a ≡ answer_apart r.settings r.day r.contracts t (Action.Contract s) →
    is_accepted a ≡ true → s ≤ 99
unfolding answer_apart answer_to rows
contract_in r t s a e z = let k = pass _ _ _ _ (rw e at z) in
    ltb-false 99 s (neither (ltb s 1) (ltb 99 s) k.0).1
