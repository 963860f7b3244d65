-- An open register always has 32 points.
use Rattle.basics.proofs.Basics.{◌≡◌, refl, ◌∙◌, true, false, Bool, cond, ◌&&◌, not, List, [], ◌∷◌, ◌++◌, ℕ, ◌-◌, eqb}
use Rattle.basics.proofs.Basics.{length, length-set, length-replicate, length-map, cases}
use Rattle.rules.specs.declared.{Point.Point, Register.Register, Call.Call, Action.Action, Opening.Opening}
use Rattle.rules.specs.Answers.{is_accepted}
use Rattle.rules.specs.Rejections.{opening_answer}
use Rattle.rules.specs.Pinned.Register.{catch_up, blank_point, point_at, advanced, says, acted, failed_point, done, applied, opened}
use Rattle.line_messages.specs.declared.{Message.Message}
use Rattle.line_messages.specs.Pinned.Reading.{read_line}
use Rattle.input_lines.specs.Between.Begun.{capped}
use Rattle.input_lines.specs.Pinned.Runs.{run}
use Rattle.input_desk.specs.declared.{Desk.Desk}
use Rattle.input_desk.specs.Pinned.Desk.{desk, desk_after}
use Rattle.input_pieces.specs.Pinned.Session.{next_desk, run_of}

abbrev pub Sized : Desk → Type 0
Sized d = d.ready ≡ true → length d.register.points ≡ 32

advanced_length : (t : ℕ) (r : Register) → length (advanced t r).points ≡ length r.points
unfolding advanced
advanced_length t r = cases (eqb r.day t) (λ e. rw e) (λ e. rw e (length-map r.points (catch_up r.settings t)))

done_length : (t : ℕ) (a : Action) (r : Register) → length (done t a r).points ≡ length r.points
unfolding done
done_length t (Action.Contract s) r = refl
done_length t (Action.Failure s) r = length-map r.points (failed_point r.settings t s)
done_length t (Action.At p a) r = length-set r.points (p - 1) (acted r.settings t a (point_at p r.points))
done_length t Action.Day r = refl

applied_length : (r : Register) (c : Call) → length (applied r c).register.points ≡ length r.points
unfolding applied
applied_length r c = cases (is_accepted (says r c))
    (λ e. rw e (done_length c.today c.action (advanced c.today r) ∙ advanced_length c.today r)) (λ e. rw e)

opened_length : (o : Opening) → length (opened o).points ≡ 32
unfolding opened
opened_length o = length-replicate {A = Point} 32 blank_point

sized_after : (d : Desk) (m : Message) → Sized d → Sized (desk_after d m)
unfolding desk_after
sized_after d (Message.Open o) h =
    cases (not d.ready && is_accepted (opening_answer o)) (λ e. rw e (λ k. opened_length o)) (λ e. rw e h)
sized_after d (Message.Ask c) h = go d.ready refl
  where
    go : (b : Bool) → d.ready ≡ b → Sized (cond b (desk true (applied d.register c).register) d)
    go true e = λ k. applied_length d.register c ∙ h e
    go false e = h
sized_after d Message.Unreadable h = h

pub run_sized : (d : Desk) (part l : List ℕ) → Sized d → Sized (run_of d part l).state
unfolding run
run_sized d part [] h = h
run_sized d part (b ∷ l) h = cases (eqb b 10) (λ e. rw e (run_sized (next_desk d part) [] l (sized_after d (read_line part) h)))
    (λ e. rw e (run_sized d (capped (part ++ (b ∷ []))) l h))
