-- A message that is no call, a call that is none at a point, and one that is no failure, for any value that is told of
-- them.
use Rattle.basics.proofs.Basics.{◌≡◌, refl, ℕ, Bool, true, false, cond}
use Rattle.rules.specs.declared.{Action.Action, Call.Call, Opening.Opening, PointAction.PointAction}
use Rattle.rules.specs.Effects.{at_point, failing}
use Rattle.line_messages.specs.declared.{Message.Message}

pub not_at : {A : Type 0} (x : A) (f : ℕ → PointAction → A) (a : Action) → ((p : ℕ) (b : PointAction) → a ≡ Action.At p b → ⊥)
    → x ≡ at_point x f a
not_at x f (Action.Contract s) h = refl
not_at x f (Action.Failure s) h = refl
not_at x f (Action.At p b) h = absurd (h p b refl)
not_at x f Action.Day h = refl

pub not_failing : {A : Type 0} (x : A) (f : ℕ → A) (a : Action) → ((s : ℕ) → a ≡ Action.Failure s → ⊥) → x ≡ failing x f a
not_failing x f (Action.Contract s) h = refl
not_failing x f (Action.Failure s) h = absurd (h s refl)
not_failing x f (Action.At p b) h = refl
not_failing x f Action.Day h = refl

pub not_ask : {A : Type 0} (x : A) (f : Message → A) → ((o : Opening) → x ≡ f (Message.Open o)) → x ≡ f Message.Unreadable →
    (m : Message) → ((c : Call) → m ≡ Message.Ask c → ⊥) → x ≡ f m
not_ask x f a b (Message.Open o) h = a o
not_ask x f a b (Message.Ask c) h = absurd (h c refl)
not_ask x f a b Message.Unreadable h = b

-- one value on both ways
pub neither : {A : Type 0} (b : Bool) {x y : A} → y ≡ x → y ≡ cond b x y
neither true h = h
neither false h = refl
