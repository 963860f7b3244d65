-- A contract and a day look at no point: whatever the points show, the answer is the one apart from them.
use Rattle.basics.proofs.Basics.{◌≡◌, refl, Bool, List, ℕ}
use Rattle.rules.specs.declared.{Action.Action, Settings.Settings, View.View}
use Rattle.rules.specs.Rejections.{rows, accepted, answer_to}
use Rattle.point_answers.specs.Between.{answer_apart}

module _ (S : Settings) (day : ℕ) (u : List Bool) (t : ℕ) (v : ℕ → View) where
  pub contract_apart : (s : ℕ) → answer_apart S day u t (Action.Contract s) ≡ answer_to S day u t (Action.Contract s) v
  unfolding answer_apart answer_to rows accepted
  contract_apart s = refl

  pub day_apart : answer_apart S day u t Action.Day ≡ answer_to S day u t Action.Day v
  unfolding answer_apart answer_to rows accepted
  day_apart = refl
