-- The whole list: from a newly opened register on, the register stays beside the day book.
use Rattle.basics.proofs.Basics.{◌≡◌, refl, sym, ◌∙◌, ap₂, fun_ext, subst₂, true, false, Bool, cond, false≢true, List}
use Rattle.basics.proofs.Basics.{[], ◌∷◌, ◌++◌, append_assoc, append-nil, ℕ, ◌-◌, ◌<◌, arith, ltb, get_or-replicate}
use Rattle.basics.proofs.Basics.{ltb-false}
use Rattle.rules.specs.declared.{Register.Register, Span.Span, Opening.Opening, Call.Call, Answer.Answer}
use Rattle.rules.specs.Volumes.{summed}
use Rattle.rules.specs.Answers.{is_accepted}
use Rattle.rules.specs.Rejections.{opening_answer}
use Rattle.rules.specs.Pinned.Register
use Rattle.rules.specs.Pinned.Register.{blank_point, no_point, applied}
use Rattle.rules.specs.DayBook
use Rattle.rules.specs.DayBook.{Book, up_to_day}
use Rattle.rules.specs.Opening.{settings_of}
use Rattle.agreement.proofs.Tally.{tally, sum_volumes}
use Rattle.agreement.proofs.Slots.{recent}
use Rattle.rules.proofs.Accept.{pass, neither}
use Rattle.agreement.proofs.Days.{gone_on}
use Rattle.agreement.proofs.Step.{Agree, says_agree, read_now, enrolled_now, call_agree}

-- An accepted opening has A and B at least 1.
lasting : (o : Opening) → is_accepted (opening_answer o) ≡ true → (0 < o.a) × (0 < o.b)
unfolding opening_answer
lasting o ok = let a = pass _ _ _ _ (pass _ _ _ _ ok).1 in let b = pass _ _ _ _ a.1 in (
  ltb-false o.a 1 (neither (ltb o.a 1) (ltb 400 o.a) a.0).0,
  ltb-false o.b 1 (neither (ltb o.b 1) (ltb 400 o.b) b.0).0,
)

pub opened_agree : (o : Opening) → is_accepted (opening_answer o) ≡ true → Agree (λ p. []) (λ p. []) (DayBook.opened o) (Register.opened o)
unfolding DayBook.opened Register.opened tally recent summed sum_volumes
opened_agree o ok =
    record {
      settings = refl;
      day = refl;
      contracts = refl;
      count = refl;
      lasting = lasting o ok;
      points = λ p lo hi. rw (get_or-replicate 32 (p - 1) blank_point no_point (omega arith)) (record {
        point = record {
          same = refl;
          firm = λ x. record {
            sized = record { slots = refl; some = omega arith };
            falling = tt;
            most = omega arith;
            none = λ z. refl;
            begun = λ y. absurd (false≢true y);
          };
          live = (refl, tt);
          told = λ x. refl;
          still = λ x d le. refl;
          sum = λ x. refl;
          held = (refl, tt);
          outside = λ z. refl;
          inside = λ y. absurd (false≢true y);
        };
        fine = record {
          past = omega arith;
          meter = (omega arith, omega arith, tt);
          ahead = record { kind = tt; pending = tt };
          fit = omega arith;
          blank = λ z. (refl, refl);
        };
      });
    }

after_agree : (cs : List Call) (l : ℕ → List Span) (n : ℕ → List ℕ) (b : Book) (r : Register) → Agree l n b r
    → Agree (λ p. l p ++ DayBook.readings b cs p) (λ p. n p ++ DayBook.enrolments b cs p) (DayBook.after b cs) (Register.after r cs)
unfolding DayBook.readings DayBook.enrolments DayBook.after Register.after
after_agree [] l n b r h =
    subst₂ (λ (x : ℕ → List Span) (y : ℕ → List ℕ). Agree x y b r) (fun_ext (λ p. sym (append-nil (l p))))
    (fun_ext (λ p. sym (append-nil (n p)))) h
after_agree (c ∷ cs) l n b r h =
    subst₂ (λ (x : ℕ → List Span) (y : ℕ → List ℕ). Agree x y (DayBook.after (DayBook.next b c) cs) (Register.after (applied r c).register cs))
    (fun_ext (λ p. append_assoc (l p) (read_now c l n b r h p) (DayBook.readings (DayBook.next b c) cs p)))
    (fun_ext (λ p. append_assoc (n p) (enrolled_now c l n b r h p) (DayBook.enrolments (DayBook.next b c) cs p)))
    (after_agree cs (λ p. l p ++ read_now c l n b r h p) (λ p. n p ++ enrolled_now c l n b r h p) (DayBook.next b c) (applied r c).register
    (call_agree c l n b r h))

answers_agree : (cs : List Call) (l : ℕ → List Span) (n : ℕ → List ℕ) (b : Book) (r : Register) → Agree l n b r
    → Register.answers r cs ≡ DayBook.answers b cs
unfolding DayBook.answers Register.answers applied
answers_agree [] l n b r h = refl
answers_agree (c ∷ cs) l n b r h = ap₂ (λ (a : Answer) (l : List Answer). a ∷ l) (sym (says_agree c l n b r h))
    (answers_agree cs (λ p. l p ++ read_now c l n b r h p) (λ p. n p ++ enrolled_now c l n b r h p) (DayBook.next b c) (applied r c).register
    (call_agree c l n b r h))

-- No call changes the settings.
next_settings : (b : Book) (c : Call) → (DayBook.next b c).settings ≡ b.settings
unfolding DayBook.next
next_settings b c = go (is_accepted (DayBook.says b c))
  where
    go : (x : Bool) → (cond x (DayBook.entered c (up_to_day c.today b)) b).settings ≡ b.settings
    go true = (gone_on (c.today - b.day) b).settings
    go false = refl

after_settings : (cs : List Call) (b : Book) → (DayBook.after b cs).settings ≡ b.settings
unfolding DayBook.after
after_settings [] b = refl
after_settings (c ∷ cs) b = after_settings cs (DayBook.next b c) ∙ next_settings b c

pub run_settings : (o : Opening) (cs : List Call) → (DayBook.after (DayBook.opened o) cs).settings ≡ settings_of o
unfolding DayBook.opened
run_settings o cs = after_settings cs (DayBook.opened o)

module _ (o : Opening) (ok : is_accepted (opening_answer o) ≡ true) (cs : List Call) where
  pub run_agrees : Agree (λ p. DayBook.readings (DayBook.opened o) cs p) (λ p. DayBook.enrolments (DayBook.opened o) cs p)
      (DayBook.after (DayBook.opened o) cs) (Register.after (Register.opened o) cs)
  run_agrees = after_agree cs (λ p. []) (λ p. []) (DayBook.opened o) (Register.opened o) (opened_agree o ok)

  pub run_answers : Register.answers (Register.opened o) cs ≡ DayBook.answers (DayBook.opened o) cs
  run_answers = answers_agree cs (λ p. []) (λ p. []) (DayBook.opened o) (Register.opened o) (opened_agree o ok)
