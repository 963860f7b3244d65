-- A history whose newest period starts on a day has a period.
use Rattle.basics.proofs.Basics.{◌≡◌, refl, true, false, Bool, ◌&&◌, false≢true, ℕ, ◌<◌, arith, eqb, ltb, ltb-true}
use Rattle.rules.specs.declared.{History.History}
use Rattle.rules.specs.Pinned.Register.{used, newest, starts_on}

and_left : (a b : Bool) → (a && b) ≡ true → a ≡ true
and_left true b h = refl
and_left false b h = absurd (false≢true h)

pub starts_some : (d : ℕ) (h : History) → starts_on d h ≡ true → 0 < h.count
unfolding starts_on
starts_some d h e =
    let z : 0 < used h = ltb-true 0 (used h) (and_left (ltb 0 (used h)) (eqb (newest h).start d) e) in omega arith
