-- A supplier's own periods at a point, where it may be asked about and where not; and the n-th of them.
use Rattle.basics.proofs.Basics.{◌≡◌, refl, true, false, cond, none, List, [], ◌∷◌, ℕ, ◌-◌, suc, zero, arith, eqb, ne_eqb}
use Rattle.basics.proofs.Basics.{not-suc-le-zero, cases}
use Rattle.std.specs.Prelude.{Err}
use Rattle.rules.specs.declared.{Register.Register}
use Rattle.rules.specs.Pinned.Register.{point_at}
use Rattle.questions.specs.Pinned.Questions.{unasked, asked_history}
use Rattle.questions.specs.Latest.{counted}
use Rattle.questions.specs.ByBook.{nth}
use Rattle.questions_supplier.specs.declared.{OwnPeriod.OwnPeriod, ViewRefusal.ViewRefusal}
use Rattle.questions_supplier.specs.Pinned.Own.{own_in, own_periods, nth_own, own_number, own_told}
use Rattle.questions_supplier.specs.ByBook.{perimeter}

module _ (r : Register) (s p : ℕ) where
  pub own_off : unasked r p ≡ true → own_periods r s p ≡ []
  unfolding own_periods asked_history own_in
  own_off off = rw off

  pub own_on_lem : unasked r p ≡ false → own_periods r s p ≡ own_in s (counted (point_at p r.points).history)
  unfolding own_periods asked_history
  own_on_lem on = rw on

-- none is the 0-th
nth_none : (l : List OwnPeriod) → nth_own 0 l ≡ Err ViewRefusal.OutOfPerimeter
unfolding nth_own
nth_none [] = refl
nth_none (q ∷ qs) = nth_none qs

pub nth_told : (n : ℕ) (l : List OwnPeriod) → own_told (nth_own (suc n) l) ≡ nth n l
unfolding nth_own nth
nth_told n [] = refl
nth_told zero (q ∷ qs) = refl
nth_told (suc n) (q ∷ qs) = let k : suc (suc n) - 1 ≡ suc n = omega arith in
    rw (ne_eqb (suc (suc n)) 1 (λ e. not-suc-le-zero {n = 0} (omega arith)), k) (nth_told n qs)

pub told_nth : (n : ℕ) (l : List OwnPeriod) → own_told (nth_own n l) ≡ cond (eqb n 0) none (nth (n - 1) l)
told_nth zero l = rw (nth_none l)
told_nth (suc n) l = let k : suc n - 1 ≡ n = omega arith in
    rw (ne_eqb (suc n) 0 (λ e. not-suc-le-zero {n = 0} (omega arith)), k) (nth_told n l)

-- a number is 0 where a period is told, else 41
pub nth_number : (n : ℕ) (l : List OwnPeriod) → own_number (nth_own n l) ≡ perimeter (own_told (nth_own n l))
unfolding nth_own
nth_number n [] = refl
nth_number n (q ∷ qs) = cases (eqb n 1) (λ e. rw e) (λ e. rw e (nth_number (n - 1) qs))
