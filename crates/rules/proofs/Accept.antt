-- What an accepted call has passed, row by row.
use Rattle.basics.proofs.Basics.{◌≡◌, refl, true, false, Bool, false≢true, ◌||◌, true≢false, List, ◌∷◌}
use Rattle.rules.specs.declared.{Answer.Answer, Rejection.Rejection}
use Rattle.rules.specs.Answers.{is_accepted}
use Rattle.rules.specs.Rejections.{Row, ◌⇒◌, first_of}

-- Where a call is accepted no row applies, one after the other.
pub pass : (b : Bool) (r : Rejection) (rs : List Row) (a : Answer) → is_accepted (first_of ((b ⇒ r) ∷ rs) a) ≡ true
    → (b ≡ false) × (is_accepted (first_of rs a) ≡ true)
unfolding first_of
pass true r rs a h = absurd (false≢true h)
pass false r rs a h = (refl, h)

pub neither : (a b : Bool) → (a || b) ≡ false → (a ≡ false) × (b ≡ false)
neither true b h = absurd (true≢false h)
neither false b h = (refl, h)
