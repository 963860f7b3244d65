-- A point that may be asked of is one of 1 to 32.
use Rattle.basics.proofs.Basics.{◌≡◌, refl, sym, ◌∙◌, true, false, Bool, ◌≤◌, ℕ, ltb, ltb-false}
use Rattle.std.specs.Prelude.{Some, None, if◌then◌else◌}
use Rattle.rules.specs.declared.{Register.Register}
use Rattle.rules.specs.Rejections.{not_point, outside}
use Rattle.questions.specs.Pinned.Questions.{unasked}
use Rattle.rules.proofs.Accept.{neither}

pub range_in : (lo hi n : ℕ) → outside lo hi n ≡ false → (lo ≤ n) × (n ≤ hi)
range_in lo hi n h = let k = neither (ltb n lo) (ltb hi n) h in (ltb-false n lo k.0, ltb-false hi n k.1)

-- as the code is told it
pub told : (lo hi n : ℕ) (b v : Bool) → b ≡ outside lo hi n → b ≡ v → outside lo hi n ≡ v
told lo hi n b v e f = sym e ∙ f

pub asked_in : (r : Register) (p : ℕ) → unasked r p ≡ false → (1 ≤ p) × (p ≤ 32)
asked_in r p h = range_in 1 32 p (neither (not_point p) _ h).0

-- whether a point may be asked of, by what it answers
pub is_off : {A : Type 0} (b : Bool) (x : A) → (if b then None else Some x) ≡ None → b ≡ true
is_off true x e = refl
is_off false x e = cc e

pub is_on : {A : Type 0} (b : Bool) (x y : A) → (if b then None else Some x) ≡ Some y → (b ≡ false) × (y ≡ x)
is_on true x y e = cc e
is_on false x y e = (refl, cc e)
