-- The questions after any list of calls. The statement is specs/Asking.antt.
use Rattle.std.specs.Prelude.{Option, Some, None}
use Rattle.basics.proofs.Basics.{◌≡◌, refl, sym, ◌∙◌, ap, ap₂, true, false, Bool, cond, ◌&&◌, ◌||◌, or-true, some}
use Rattle.basics.proofs.Basics.{Option as Told}
use Rattle.basics.proofs.Basics.{none, List, [], ◌∷◌, ◌≤◌, ℕ, ◌-◌, ◌<◌, suc, zero, ◌^◌, not-suc-le-zero, dec_le, arith}
use Rattle.basics.proofs.Basics.{eqb, ltb, leb, length, lt-ltb, le-leb, le-ltb, lt-leb, ne_eqb, not-true, not-false}
use Rattle.basics.proofs.Basics.{cases}
use Rattle.dates.specs.Dates.{last_day}
use Rattle.rules.specs.declared.{Opening.Opening, Call.Call, Register.Register, Span.Span, Point.Point}
use Rattle.rules.specs.Volumes.{registered, registered_normal}
use Rattle.rules.specs.Answers.{is_accepted}
use Rattle.questions.specs.Pinned.Questions.{question_number, question_told, holder_number, holder_told, period_told, advance_told}
use Rattle.rules.specs.Rejections.{opening_answer, not_point}
use Rattle.rules.specs.Pinned.Register.{used, point_at}
use Rattle.questions.specs.Pinned.Questions.{unasked, refused_holder, holder_among, holder_answer, period_answer, sum_of, advances, advance_answer}
use Rattle.rules.specs.DayBook.{opened, readings, enrolments, Page}
use Rattle.rules.specs.Periods.{periods_of, holder_on, book, register}
use Rattle.agreement.specs.Sound.{Side, wheels, normal, volume_on}
use Rattle.agreement.proofs.Shares.{days_on, wholes_on}
use Rattle.agreement.proofs.Tally.{oldest}
use Rattle.agreement.proofs.Slots.{listed, Sized, used_count, length_listed}
use Rattle.agreement.proofs.Firm.{within}
use Rattle.agreement.proofs.Tied.{Tied}
use Rattle.agreement.proofs.Run.{run_agrees}
use Rattle.agreement.proofs.Theorem.{day_book_agrees}
use Rattle.questions.proofs.Seen.{pending_unseen, request_unseen}
use Rattle.questions.specs.ByBook.{nth, asked_number, since_enrolment, book_periods, book_holder, book_probes, book_period, book_advance}
use Rattle.questions.specs.Latest.{Rising}
use Rattle.questions.specs.Asking.{Asking}
use Rattle.questions.proofs.Asked.{range_in, asked_in}
use Rattle.rules.proofs.Accept.{neither}
use Rattle.questions.proofs.Calendar.{run_day}
use Rattle.questions.proofs.Covers.{Tells, among_covered, among_before, sum_exact}
use Rattle.questions.proofs.Latest.{searched, probes_told, newest_one, falling_rise}
use Rattle.questions.proofs.ByBook.{periods_told, nth_in, nth_past}

-- A number is 22 exactly where nothing is told.
number_lem : {A : Type 0} (a : Option A) → question_number a ≡ asked_number (question_told a)
number_lem (Some x) = refl
number_lem None = refl

-- One point, after a list of calls.
module _ (o : Opening) (ok : is_accepted (opening_answer o) ≡ true) (calls : List Call) (p : ℕ) where
  abbrev r : Register
  r = register o calls

  abbrev l : List Span
  l = readings (opened o) calls p

  abbrev n : List ℕ
  n = enrolments (opened o) calls p

  abbrev g : Page
  g = (book o calls).page p

  abbrev point : Point
  point = point_at p r.points

  -- the register's day is the day book's
  same_day : (book o calls).day ≡ r.day
  same_day = (run_agrees o ok calls).day

  module _ (lo : 1 ≤ p) (hi : p ≤ 32) where
    tied : Tied r.day l n g point
    tied = rw same_day at ((run_agrees o ok calls).points p lo hi)

    pub point_sized : Sized (point_at p r.points).history
    point_sized = (tied.point.firm wheels).sized

    pub rising : Rising (point_at p r.points).history
    rising = let f = tied.point.firm wheels in
        falling_rise point.history (suc r.day) (rw (used_count point.history f.sized) f.falling)

    -- the periods that the register keeps are the day book's
    pub periods_are : periods_of (point_at p r.points) ≡ book_periods o calls p
    unfolding book_periods
    periods_are = let h = tied.point in
        rw same_day (periods_told point (h.firm wheels).sized (λ x. days_on x l) g.cells h.told r.day h.live)

    pub unborn : unasked r p ≡ true → (n ≡ []) × (point.history.count ≡ 0)
    unborn off = let h = tied.point in let z : g.fields.enrolled ≡ false = rw h.same (not-true _ (rw (le-ltb p 1 lo, le-ltb 32 p hi) at off)) in
        (h.outside z, sym (length_listed wheels point.history) ∙ ap length ((h.firm wheels).none z))

  -- a point that may not be asked of: the day book has nothing to tell
  module _ (off : unasked r p ≡ true) where
    none_made : {A : Type 0} (f : ℕ → Told A) → cond (not_point p) none (since_enrolment n f) ≡ none
    none_made f = cases (not_point p) (λ e. rw e) (λ e. let k = range_in 1 32 p e in rw (e, (unborn k.0 k.1 off).0))

    none_kept : (b : Bool) (m : ℕ) → cond (not_point p || b) none (nth m (book_periods o calls p)) ≡ none
    unfolding nth
    none_kept true m = rw (or-true (not_point p))
    none_kept false m = cases (not_point p) (λ e. rw e) (λ e. let k = range_in 1 32 p e in
        rw (e, ← periods_are k.0 k.1, (unborn k.0 k.1 off).1))

  -- a point that may be asked of
  module _ (on : unasked r p ≡ false) where
    is_point : not_point p ≡ false
    is_point = (neither (not_point p) _ on).0

    here : (1 ≤ p) × (p ≤ 32)
    here = asked_in r p on

    h : Tied r.day l n g point
    h = tied here.0 here.1

    -- the oldest period starts with the enrolment
    abbrev born : ℕ
    born = oldest (listed wheels point.history) (suc r.day)

    since : n ≡ born ∷ []
    since = h.point.inside (rw h.point.same (not-false _ (neither (not_point p) _ on).1)) wheels (suc r.day)

    used_all : used point.history ≡ point.history.count
    used_all = used_count point.history (h.point.firm wheels).sized

    slots : point.history.count ≤ length point.history.periods
    slots = omega (arith, (h.point.firm wheels).sized.slots, (h.point.firm wheels).sized.some)

    holder_walk : (d : ℕ) → holder_answer r p d ≡ cond (ltb r.day d) refused_holder (holder_among d 0 point.history.count point.history.periods)
    unfolding holder_answer
    holder_walk d = rw (on, used_all)

    holder_asked : (d : ℕ) → born ≤ d → d ≤ r.day → Tells d (holder_answer r p d) (holder_on d g.cells)
    holder_asked d le due = let a = (day_book_agrees o ok calls).points p here.0 here.1 in rw (holder_walk d, le-ltb r.day d due)
        (among_covered d 0 point.history.count point.history.periods _ slots (a.covered born d since le due))

    holder_late : (d : ℕ) → r.day < d → holder_answer r p d ≡ refused_holder
    holder_late d lt = rw (holder_walk d, lt-ltb r.day d lt)

    holder_early : (d : ℕ) → d < born → holder_answer r p d ≡ refused_holder
    holder_early d lt = elim (dec_le d r.day) [
      | yes due ↦ rw (holder_walk d, le-ltb r.day d due)
          (among_before d 0 point.history.count point.history.periods (suc r.day) (h.point.firm wheels).falling (omega arith))
      | no late ↦ holder_late d (omega arith)
    ]

    -- the sums of either side do not wrap, and are the readings'
    sum_asked : (x : Side) → sum_of (volume_on x) point.history.count point.history.periods ≡ wholes_on x l
    sum_asked x = let days : g.fields.reading.day ≤ last_day = omega (arith, h.fine.past, run_day o ok calls) in
        let small : wholes_on x l < 2 ^ 64 = omega (arith, h.point.sum x, (h.point.firm x).most, within x g.fields.reading.day days) in
        sum_exact x point.history.count point.history.periods (rw (h.point.sum x) small) ∙ h.point.sum x

    advance_asked : advance_answer r p ≡ Some (advances (registered l) (registered_normal l))
    unfolding advance_answer
    advance_asked = rw (on, used_all) (ap₂ (λ (v n : ℕ). Some (advances v n)) (sum_asked wheels) (sum_asked normal))

    period_asked : (m : ℕ) → period_told (period_answer r p m) ≡ cond (eqb m 0) none (nth (m - 1) (periods_of point))
    unfolding period_answer
    period_asked zero = rw on
    period_asked (suc m) = let k : suc m - 1 ≡ m = omega arith in
        rw (on, used_all, le-ltb (suc m) 1 (omega arith), ne_eqb (suc m) 0 (λ q. not-suc-le-zero {n = 0} (omega arith)), k)
        (elim (dec_le (suc m) point.history.count) [
          | yes y ↦ rw (
            le-ltb point.history.count (suc m) y,
            nth_in m point.history.count point.history.periods y slots,
          )
          | no y ↦ rw (
            lt-ltb point.history.count (suc m) (omega arith),
            nth_past m point.history.count point.history.periods (omega arith),
          )
        ])

  -- the three questions
  holder_is : (d : ℕ) → holder_told (holder_answer r p d) ≡ book_holder o calls p d
  unfolding book_holder
  holder_is d = rw same_day (cases (unasked r p)
      (λ off. unfold holder_answer in rw off (sym (none_made off (λ e. cond (leb e d && leb d r.day) (holder_on d g.cells) none))))
      (λ on. let e = born on in rw (is_point on, since on) (elim (dec_le e d) [
        | yes le ↦ (elim (dec_le d r.day) [
          | yes due ↦ rw (le-leb e d le, le-leb d r.day due) (holder_asked on d le due).0
          | no late ↦ rw (le-leb e d le, lt-leb d r.day (omega arith)) (ap holder_told (holder_late on d (omega arith)))
        ])
        | no le ↦ rw (lt-leb e d (omega arith)) (ap holder_told (holder_early on d (omega arith)))
      ])))

  probes_is : (d : ℕ) → (holder_answer r p d).probes ≡ book_probes o calls p d
  unfolding book_probes
  probes_is d = rw (← (holder_is d)) (cases (unasked r p) (λ off. unfold holder_answer in rw off)
      (λ on. let k = here on in let a = (day_book_agrees o ok calls).points p k.0 k.1 in
      rw (← a.starts, ← (used_all on)) (probes_told r p d (omega (arith, ((h on).point.firm wheels).sized.slots)) (rising k.0 k.1))))

  period_is : (m : ℕ) → period_told (period_answer r p m) ≡ book_period o calls p m
  unfolding book_period
  period_is m = cases (unasked r p) (λ off. rw (none_kept off (eqb m 0) (m - 1)) (unfold period_answer in rw off))
      (λ on. rw (is_point on, ← periods_are (here on).0 (here on).1) (period_asked on m))

  pub advance_is : advance_told (advance_answer r p) ≡ book_advance o calls p
  unfolding book_advance
  advance_is = cases (unasked r p) (λ off. rw (none_made off (λ e. some (advances (registered l) (registered_normal l)))) (unfold advance_answer in rw off))
      (λ on. rw (is_point on, since on) (ap advance_told (advance_asked on)))

  answered_on : (e d : ℕ) → 1 ≤ p → p ≤ 32 → n ≡ e ∷ [] → e ≤ d → d ≤ r.day → holder_number (holder_answer r p d) ≡ 0
  answered_on e d lo hi q le due = cases (unasked r p)
      (λ off. let w : ◌≡◌ {A = ℕ} 0 1 = cc ((unborn lo hi off).0, q) in absurd (omega arith))
      (λ on. let k : born on ≡ e = cc (since on, q) in (holder_asked on d (omega (arith, k)) due).1)

pub asking : Asking
asking =
    record {
      agree = λ o ok calls. record {
        holder = holder_is o ok calls;
        holder_number_lem = λ p d. number_lem (holder_answer (register o calls) p d).held ∙ ap asked_number (holder_is o ok calls p d);
        probes = probes_is o ok calls;
        period = period_is o ok calls;
        period_number_lem = λ p n. number_lem (period_answer (register o calls) p n) ∙ ap asked_number (period_is o ok calls p n);
        advance = advance_is o ok calls;
        advance_number_lem = λ p. number_lem (advance_answer (register o calls) p) ∙ ap asked_number (advance_is o ok calls p);
        answered = answered_on o ok calls;
      };
      latest = record { search = searched; recent = newest_one; rising = rising };
      unseen = pending_unseen;
      requests = request_unseen;
    }
