-- Neither supplier sees the other's half. The statement is specs/Apart.antt.
use Rattle.std.specs.Prelude.{Option, Some, None}
use Rattle.basics.proofs.Basics.{◌≡◌, refl, sym, ◌∙◌, ap, false, List, [], ◌∷◌, ◌++◌, map, ◌≤◌, ℕ}
use Rattle.basics.proofs.Basics.{◌-◌, suc, zero, arith, dec_le, eqb, length, take, get_or-set_same, get_or-set_other}
use Rattle.basics.proofs.Basics.{set_out, cases}
use Rattle.rules.specs.declared.{Period.Period, Fields.Fields, Point.Point, Register.Register}
use Rattle.rules.specs.Rejections.{not_supplier}
use Rattle.rules.specs.Pinned.Register.{no_point, used, point_at}
use Rattle.questions.specs.Pinned.Questions.{unasked}
use Rattle.questions.specs.Latest.{counted}
use Rattle.questions.specs.Seen.{without_pending}
use Rattle.questions.specs.ByBook.{nth}
use Rattle.questions.proofs.Seen.{point_unseen, request_hidden, cancel_hidden}
use Rattle.questions_supplier.specs.declared.{OwnPeriod.OwnPeriod}
use Rattle.questions_supplier.specs.Pinned.Own.{own, end_in, own_in, own_periods, own_answer, own_told}
use Rattle.questions_supplier.specs.Apart.{Agree, fields_at, history_at, Shown, whole, start, shown_to, Alike, Joined}
use Rattle.questions_supplier.specs.Apart.{with_point, with_fields, if_other, with_others, Unseen, HalvesApart}
use Rattle.questions_supplier.proofs.Own.{own_off, own_on_lem, nth_told}

-- Equal lists, equal answers; and lists of which every answer is equal are equal.
answers_equal : (r r' : Register) (s p : ℕ) → Agree s p r r' → (n : ℕ) → own_answer r s p n ≡ own_answer r' s p n
unfolding own_answer
answers_equal r r' s p e n = rw e

lists_equal : (l l' : List OwnPeriod) → ((n : ℕ) → nth n l ≡ nth n l') → l ≡ l'
unfolding nth
lists_equal [] [] h = refl
lists_equal [] (q ∷ qs) h = let z : ◌≡◌ {A = ℕ} 0 1 = cc (h 0) in absurd (omega arith)
lists_equal (q ∷ qs) [] h = let z : ◌≡◌ {A = ℕ} 0 1 = cc (h 0) in absurd (omega arith)
lists_equal (q ∷ qs) (q' ∷ qs') h = let e : q ≡ q' = cc (h 0) in rw (e, lists_equal qs qs' (λ n. h (suc n)))

answers_tell : (r r' : Register) (s p : ℕ) → not_supplier s ≡ false
    → ((n : ℕ) → own_answer r s p n ≡ own_answer r' s p n) → Agree s p r r'
unfolding own_answer
answers_tell r r' s p is h = lists_equal _ _ (λ n. sym (nth_told n (own_periods r s p)) ∙ ap own_told (rw is at (h (suc n)))
    ∙ nth_told n (own_periods r' s p))

-- Two points that are enrolled alike, and of whose periods those of s are the same.
agreed : (r r' : Register) (s p : ℕ) → (fields_at p r).enrolled ≡ (fields_at p r').enrolled
    → own_in s (counted (history_at p r)) ≡ own_in s (counted (history_at p r')) → Agree s p r r'
agreed r r' s p e h = cases (unasked r p)
    (λ off. own_off r s p off ∙ sym (own_off r' s p (rw e at off)))
    (λ on. own_on_lem r s p on ∙ h ∙ sym (own_on_lem r' s p (rw e at on)))

-- The periods of s come from what is shown to it.
end_shown : List Shown → Option ℕ
end_shown [] = None
end_shown (whole q ∷ l) = Some q.start
end_shown (start d ∷ l) = Some d

own_shown : List Shown → List OwnPeriod
own_shown [] = []
own_shown (whole q ∷ l) = own q (end_shown l) ∷ own_shown l
own_shown (start d ∷ l) = own_shown l

module _ (s : ℕ) where
  end_shown_lem : (l : List Period) → end_in l ≡ end_shown (map (shown_to s) l)
  unfolding end_shown
  end_shown_lem [] = refl
  end_shown_lem (q ∷ qs) = cases (eqb q.holder s) (λ e. rw e) (λ e. rw e)

  own_shown_lem : (l : List Period) → own_in s l ≡ own_shown (map (shown_to s) l)
  unfolding own_in own_shown
  own_shown_lem [] = refl
  own_shown_lem (q ∷ qs) = cases (eqb q.holder s) (λ e. rw (e, end_shown_lem qs, own_shown_lem qs)) (λ e. rw (e, own_shown_lem qs))

alike_agree : (r r' : Register) (s p : ℕ) → Alike s p r r' → Agree s p r r'
alike_agree r r' s p a = agreed r r' s p a.enrolled (own_shown_lem s _ ∙ ap own_shown a.periods ∙ sym (own_shown_lem s _))

-- Another's period behind another's is not seen.
module _ (s : ℕ) (q x : Period) (b : List Period) (oq : eqb q.holder s ≡ false) (ox : eqb x.holder s ≡ false) where
  end_joined : (a : List Period) → end_in (a ++ q ∷ x ∷ b) ≡ end_in (a ++ q ∷ b)
  end_joined [] = refl
  end_joined (y ∷ a) = refl

  own_joined : (a : List Period) → own_in s (a ++ q ∷ x ∷ b) ≡ own_in s (a ++ q ∷ b)
  unfolding own_in
  own_joined [] = rw (oq, ox)
  own_joined (y ∷ a) = rw (end_joined a, own_joined a)

joined_agree : (r r' : Register) (s p : ℕ) → Joined s p r r' → Agree s p r r'
joined_agree r r' s p j = agreed r r' s p j.enrolled (ap (own_in s) j.both
    ∙ own_joined s j.q j.x j.newer j.others.0 j.others.1 j.older ∙ sym (ap (own_in s) j.one))

-- Another register whose point p is enrolled alike and shows the same to s.
module _ (r : Register) (s p : ℕ) where
  by_point : (r' : Register) (g : Point) → point_at p r'.points ≡ g → g.fields.enrolled ≡ (fields_at p r).enrolled
      → map (shown_to s) (counted g.history) ≡ map (shown_to s) (counted (history_at p r)) → Agree s p r' r
  by_point r' g k e h = alike_agree r' r s p (record {
    enrolled = ap (λ (x : Point). x.fields.enrolled) k ∙ e;
    periods = ap (λ (x : Point). map (shown_to s) (counted x.history)) k ∙ h;
  })

  changed : (g : Point) → g.fields.enrolled ≡ (fields_at p r).enrolled
      → map (shown_to s) (counted g.history) ≡ map (shown_to s) (counted (history_at p r)) → Agree s p (with_point p g r) r
  changed g e h = elim (dec_le (length r.points) (p - 1)) [
    | yes out ↦ by_point (with_point p g r) _ (ap (point_at p) (set_out r.points (p - 1) g out)) refl refl
    | no at ↦ by_point (with_point p g r) g (get_or-set_same r.points (p - 1) g no_point (omega arith)) e h
  ]

fields_unseen : (r : Register) (s p : ℕ) (f : Fields) → f.enrolled ≡ (fields_at p r).enrolled → Agree s p (with_fields p f r) r
fields_unseen r s p f e = changed r s p (record { fields = f; history = history_at p r }) e refl

-- Periods of others that keep their starts and stay others'.
module _ (s : ℕ) (f : Period → Period) (starts : (q : Period) → (f q).start ≡ q.start)
    (others : (q : Period) → eqb q.holder s ≡ false → eqb (f q).holder s ≡ false) where
  same_shown : (q : Period) → shown_to s (if_other s f q) ≡ shown_to s q
  same_shown q = cases (eqb q.holder s) (λ e. rw (e, e)) (λ e. rw (e, others q e, starts q))

  all_shown : (c : ℕ) (ps : List Period) → map (shown_to s) (take c (map (if_other s f) ps)) ≡ map (shown_to s) (take c ps)
  all_shown zero ps = refl
  all_shown (suc c) [] = refl
  all_shown (suc c) (q ∷ ps) = rw (same_shown q, all_shown c ps)

  pub others_unseen : (r : Register) (p : ℕ) → Agree s p (with_others s p f r) r
  others_unseen r p = changed r s p _ refl (all_shown (used (history_at p r)) (history_at p r).periods)

-- Another point; 0 is none.
other_unseen : (r : Register) (s p q : ℕ) (g : Point) → 1 ≤ q → (q ≡ p → ⊥) → Agree s p (with_point q g r) r
other_unseen r s zero q g le ne = own_off (with_point q g r) s 0 refl ∙ sym (own_off r s 0 refl)
other_unseen r s (suc p) q g le ne = by_point r s (suc p) (with_point q g r) _
    (get_or-set_other r.points (q - 1) (suc p - 1) g no_point (λ k. ne (omega arith))) refl refl

unseen_by : (r : Register) (s p : ℕ) → Unseen r s p
unseen_by r s p =
    record {
      settings = λ S. alike_agree _ r s p (record { enrolled = refl; periods = refl });
      day = λ d. alike_agree _ r s p (record { enrolled = refl; periods = refl });
      contracts = λ u. alike_agree _ r s p (record { enrolled = refl; periods = refl });
      other_point = other_unseen r s p;
      key = λ k. fields_unseen r s p _ refl;
      mark = λ m. fields_unseen r s p _ refl;
      pending = λ q. fields_unseen r s p _ refl;
      fields = fields_unseen r s p;
      volumes = λ v n. others_unseen s _ (λ q. refl) (λ q e. e) r p;
      holders = λ h other. others_unseen s _ (λ q. refl) (λ q e. other q) r p;
    }

-- A register without its pending requests shows the same; so do two that are the same without them.
without_unseen : (r : Register) (s p : ℕ) → Agree s p (without_pending r) r
unfolding without_pending
without_unseen r s p = by_point r s p (without_pending r) _ (point_unseen p r.points) refl refl

pending_apart : (s p : ℕ) (r r' : Register) → without_pending r ≡ without_pending r' → Agree s p r r'
pending_apart s p r r' e = sym (without_unseen r s p) ∙ ap (λ (x : Register). own_periods x s p) e ∙ without_unseen r' s p

pub halves_apart : HalvesApart
halves_apart =
    record {
      answers = answers_equal;
      told = answers_tell;
      alike = alike_agree;
      joined = joined_agree;
      unseen = unseen_by;
      requests = λ s p. record {
        pending = pending_apart s p;
        request = λ r t q v k d. pending_apart s p _ _ (request_hidden r t q v k d);
        cancel = λ r t q v. pending_apart s p _ _ (cancel_hidden r t q v);
      };
    }
