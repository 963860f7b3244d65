-- No question sees a pending request: each answer of a register is that of the register without its requests.
use Rattle.basics.proofs.Basics.{◌≡◌, refl, sym, ◌∙◌, true, List, map, ℕ, ◌-◌, set, list_get_d_map, map-set_same, le-ltb}
use Rattle.basics.proofs.Basics.{cases}
use Rattle.dates.specs.Dates.{last_day}
use Rattle.rules.specs.declared.{Point.Point, Register.Register, Pending.Pending, Action.Action}
use Rattle.rules.specs.declared.{PointAction.PointAction}
use Rattle.rules.specs.Fields.{with_pending}
use Rattle.rules.specs.Effects.{effective_day, effect_of}
use Rattle.rules.specs.Answers.{is_accepted}
use Rattle.rules.specs.Rejections.{first_of, rows, accepted, answer_to, shown, answer}
use Rattle.rules.specs.Pinned.Register.{no_point, point_at, view, advanced, says, acted, done, applied, on}
use Rattle.questions.specs.Pinned.Questions.{holder_answer, period_answer, advance_answer}
use Rattle.questions.specs.Seen.{not_asked, without_pending, SameAnswers, PendingUnseen, only_day, RequestUnseen}
use Rattle.rules.proofs.Views.{passed}

-- The point that stands for none has no request already.
pub point_unseen : (p : ℕ) (ps : List Point) → point_at p (map not_asked ps) ≡ not_asked (point_at p ps)
point_unseen p ps = list_get_d_map not_asked ps (p - 1) no_point

unseen : (r : Register) → SameAnswers (without_pending r) r
unfolding holder_answer period_answer advance_answer without_pending
unseen r = let e = point_unseen in
    record { holder = λ p d. rw (e p r.points); period = λ p n. rw (e p r.points); advance = λ p. rw (e p r.points) }

pub pending_unseen : PendingUnseen
pending_unseen r r' e = let s = unseen r in let s' = rw (← e) at (unseen r') in
    record {
      holder = λ p d. sym (s.holder p d) ∙ s'.holder p d;
      period = λ p n. sym (s.period p n) ∙ s'.period p n;
      advance = λ p. sym (s.advance p) ∙ s'.advance p;
    }

-- A request that is stored, another or none, is all that a request and its cancel change.
stored_unseen : (p : ℕ) (q : Pending) (ps : List Point)
    → map not_asked (set ps (p - 1) (record { fields = with_pending (point_at p ps).fields q; history = (point_at p ps).history }))
    ≡ map not_asked ps
stored_unseen p q ps = map-set_same not_asked ps (p - 1) _ no_point refl

request_done : (r : Register) (t p s k d : ℕ) → without_pending (done t (Action.At p (PointAction.Request s k d)) r) ≡ without_pending r
unfolding without_pending done acted effect_of
request_done r t p s k d = rw (stored_unseen p (Pending.Request s (effective_day r.settings t d)) r.points)

cancel_done : (r : Register) (t p s : ℕ) → without_pending (done t (Action.At p (PointAction.Cancel s)) r) ≡ without_pending r
unfolding without_pending done acted effect_of
cancel_done r t p s = rw (stored_unseen p Pending.Nothing r.points)

-- Where a call on a day is accepted, so is the day alone.
day_accepted : (r : Register) (t : ℕ) (a : Action) → is_accepted (says r (on t a)) ≡ true → is_accepted (says r (on t Action.Day)) ≡ true
unfolding says answer answer_to first_of rows accepted
day_accepted r t a ok =
    let w = passed r.settings r.day r.contracts t a (shown (λ p. view t (point_at p (advanced t r).points))) ok in
    rw (le-ltb last_day t w.0, le-ltb t r.day w.1)

-- A call that would change requests only changes nothing else that the day alone does not change.
applied_unseen : (r : Register) (t : ℕ) (a : Action) → without_pending (done t a (advanced t r)) ≡ without_pending (advanced t r)
    → without_pending (applied r (on t a)).register ≡ without_pending (only_day r t a)
unfolding applied done
applied_unseen r t a e = cases (is_accepted (says r (on t a))) (λ ok. rw (ok, day_accepted r t a ok) e) (λ ok. rw ok)

pub request_hidden : (r : Register) (t p s k d : ℕ)
    → without_pending (applied r (on t (Action.At p (PointAction.Request s k d)))).register
    ≡ without_pending (only_day r t (Action.At p (PointAction.Request s k d)))
request_hidden r t p s k d = applied_unseen r t (Action.At p (PointAction.Request s k d)) (request_done (advanced t r) t p s k d)

pub cancel_hidden : (r : Register) (t p s : ℕ) → without_pending (applied r (on t (Action.At p (PointAction.Cancel s)))).register
    ≡ without_pending (only_day r t (Action.At p (PointAction.Cancel s)))
cancel_hidden r t p s = applied_unseen r t (Action.At p (PointAction.Cancel s)) (cancel_done (advanced t r) t p s)

pub request_unseen : RequestUnseen
request_unseen =
    record {
      request = λ r t p s k d. pending_unseen _ _ (request_hidden r t p s k d);
      cancel = λ r t p s. pending_unseen _ _ (cancel_hidden r t p s);
    }
