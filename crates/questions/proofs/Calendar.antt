-- The register's day stays on the calendar.
use Rattle.basics.proofs.Basics.{◌≡◌, refl, true, List, [], ◌∷◌, ◌≤◌, ℕ, eqb, ltb-false, eqb-true, cases}
use Rattle.dates.specs.Dates.{last_day}
use Rattle.rules.specs.declared.{Register.Register, Opening.Opening, Call.Call, Action.Action}
use Rattle.rules.specs.Answers.{is_accepted}
use Rattle.rules.specs.Rejections.{answer, opening_answer}
use Rattle.rules.specs.Pinned.Register.{advanced, says, done, applied, after, opened}
use Rattle.rules.proofs.Accept.{pass}
use Rattle.rules.proofs.Views.{passed}

done_day : (t : ℕ) (a : Action) (r : Register) → (done t a r).day ≡ r.day
unfolding done
done_day t (Action.Contract s) r = refl
done_day t (Action.Failure s) r = refl
done_day t (Action.At p a) r = refl
done_day t Action.Day r = refl

advanced_day : (t : ℕ) (r : Register) → (advanced t r).day ≡ t
unfolding advanced
advanced_day t r = cases (eqb r.day t) (λ e. rw e (eqb-true _ _ e)) (λ e. rw e)

day_next : (r : Register) (c : Call) → r.day ≤ last_day → (applied r c).register.day ≤ last_day
unfolding applied says answer
day_next r c le = cases (is_accepted (says r c))
    (λ ok. rw (ok, done_day c.today c.action (advanced c.today r), advanced_day c.today r)
    (passed r.settings r.day r.contracts c.today c.action _ ok).0) (λ q. rw q le)

day_after : (cs : List Call) (r : Register) → r.day ≤ last_day → (after r cs).day ≤ last_day
unfolding after
day_after [] r le = le
day_after (c ∷ cs) r le = day_after cs (applied r c).register (day_next r c le)

opened_day : (o : Opening) → is_accepted (opening_answer o) ≡ true → o.day ≤ last_day
unfolding opening_answer
opened_day o ok = let a = pass _ _ _ _ (pass _ _ _ _ (pass _ _ _ _ ok).1).1 in
    let b = pass _ _ _ _ (pass _ _ _ _ (pass _ _ _ _ a.1).1).1 in
    ltb-false last_day o.day (pass _ _ _ _ b.1).0

pub run_day : (o : Opening) → is_accepted (opening_answer o) ≡ true → (cs : List Call)
    → (after (opened o) cs).day ≤ last_day
unfolding opened
run_day o ok cs = day_after cs (opened o) (opened_day o ok)
