-- A point of the register beside its page in the day book, and what an effect does to the two.
--
-- Told   the point says what the page says, by the readings l and the enrolments n of the list so far
-- Tied   besides, all that is due lies ahead and there is room for it
use Rattle.basics.proofs.Basics.{◌≡◌, refl, sym, ◌∙◌, ap, subst, fun_ext, true, false, Bool, cond, List, [], ◌∷◌, ◌++◌}
use Rattle.basics.proofs.Basics.{append-nil, ◌≤◌, ℕ, ◌+◌, suc, le_trans, arith, length}
use Rattle.dates.specs.Dates.{last_day}
use Rattle.rules.specs.declared.{Fields.Fields, History.History, Point.Point, Span.Span, Effect.Effect, View.View}
use Rattle.rules.specs.Effects.{fields_of, names, spans_in}
use Rattle.rules.specs.Rejections.{due}
use Rattle.rules.specs.Pinned.Register.{used, starts_on, named, entered, booked_all, view}
use Rattle.rules.specs.DayBook.{Page, overwritten, written, look}
use Rattle.agreement.specs.Sound.{Side, wheels}
use Rattle.agreement.proofs.Shares.{all_map, day_on, whole_on, days_on, wholes_on, summed_append, days_after}
use Rattle.agreement.proofs.Tally.{begin, began_on, book_totals, tally, Live, live_runs, live_overwritten, Held}
use Rattle.agreement.proofs.Tally.{held_overwritten, tally_length, began, begin_tally, book_totals_tally}
use Rattle.agreement.proofs.Tally.{sum_volumes, oldest, sum_begin}
use Rattle.agreement.proofs.Slots.{listed, used_count, length_listed, starts_listed}
use Rattle.agreement.proofs.Good.{Fine, Keeps, Names, Enrols, Good, not_blank}
use Rattle.agreement.proofs.Firm.{Firm, forward, books, books_sum, books_none, books_oldest}
use Rattle.agreement.proofs.Firm.{begins, enrolled_after, oldest_named, firm_after, fine_entered}

-- What is said of volumes is said of both.
pub record Told (t : ℕ) (l : List Span) (n : List ℕ) (g : Page) (r : Point) : Type 0 where
  pub same : g.fields ≡ r.fields
  pub firm : (x : Side) → Firm x t g.fields r.history
  pub live : Live t g.cells
  pub told : (x : Side) → listed x r.history ≡ tally (days_on x l) g.cells 0
  -- no gas is booked from the last reading's day on
  pub still : (x : Side) (d : ℕ) → g.fields.reading.day ≤ d → days_on x l d ≡ 0
  pub sum : (x : Side) → sum_volumes (listed x r.history) ≡ wholes_on x l
  pub held : Held g.fields.supply.holder g.cells
  -- the oldest period starts on the one enrolment day
  pub outside : g.fields.enrolled ≡ false → n ≡ []
  pub inside : g.fields.enrolled ≡ true → (x : Side) (d : ℕ) → n ≡ oldest (listed x r.history) d ∷ []

pub record Tied (t : ℕ) (l : List Span) (n : List ℕ) (g : Page) (r : Point) : Type 0 where
  pub point : Told t l n g r
  pub fine : Fine t (look g)

-- The checks see the same.
pub views_agree : (t : ℕ) (l : List Span) (n : List ℕ) (g : Page) (r : Point) → Told t l n g r → look g ≡ view t r
views_agree t l n g r h = let z = (h.firm wheels).sized in
    λ i. record {
      fields = h.same i;
      marks = (sym (used_count r.history z ∙ sym (length_listed wheels r.history) ∙ ap length (h.told wheels)
          ∙ tally_length (days_on wheels l) g.cells 0)) i;
      marked = (sym (starts_listed wheels t r.history z ∙ ap (began_on t) (h.told wheels)
          ∙ began (days_on wheels l) t g.cells h.live)) i;
    }

module _ (t : ℕ) (l : List Span) (n : List ℕ) (g : Page) (r : Point) (h : Told t l n g r) (e : Effect) (j : List ℕ)
    (k : Good t (look g) e (spans_in e) j) (cal : t ≤ last_day) where
  abbrev sp : List Span
  sp = spans_in e

  abbrev f : Fields
  f = fields_of e

  abbrev s : ℕ
  s = f.supply.holder

  abbrev after : History
  after = booked_all sp r.history

  -- the point's periods under the page's fields
  abbrev beside : Point
  beside = record { fields = g.fields; history = r.history }

  good : Good t (view t beside) e sp j
  good = subst (λ (v : View). Good t v e sp j)
      (views_agree t l n g r h ∙ ap (λ (f : Fields). view t (record { fields = f; history = r.history })) (sym h.same)) k

  -- no enrolment comes with it
  same_days : j ≡ [] → n ++ j ≡ n
  same_days z = ap (λ (x : List ℕ). n ++ x) z ∙ append-nil n

  -- on either side
  module _ (x : Side) where
    firm : Firm x t g.fields r.history
    firm = h.firm x

    tells : listed x after ≡ tally (days_on x (l ++ sp)) g.cells 0
    tells = books x t beside firm e j good cal ∙ ap (book_totals x sp (suc t)) (h.told x)
        ∙ book_totals_tally x sp (days_on x l) g.cells (suc t) (live_runs t g.cells h.live)
        (all_map sp (λ s w. w.0) (forward x t beside firm e j good cal))
        ∙ ap (λ (v : ℕ → ℕ). tally v g.cells 0) (fun_ext (λ d. sym (summed_append (λ (s : Span). day_on x s d) l sp)))

    stays : (d : ℕ) → f.reading.day ≤ d → days_on x (l ++ sp) d ≡ 0
    stays d le = summed_append (λ (s : Span). day_on x s d) l sp
        ∙ omega (arith, h.still x d (le_trans k.lo le), days_after x sp d (all_map sp (λ s w. (w.1, le_trans w.2 le)) k.made))

    sums : sum_volumes (listed x after) ≡ wholes_on x (l ++ sp)
    sums = rw (summed_append (λ (s : Span). whole_on x s) l sp) (omega (arith, books_sum x t beside firm e j good cal, h.sum x))

    oldest_as : (d y : ℕ) → oldest (listed x after) d ≡ y → n ≡ oldest (listed x r.history) d ∷ [] → n ≡ y ∷ []
    oldest_as d y z i = i ∙ ap (λ (o : ℕ). o ∷ []) (sym (books_oldest x t beside firm e j good cal d) ∙ z)

    since : (b : Bool) → g.fields.enrolled ≡ b → Names t b f j → n ++ j ≡ oldest (listed x after) t ∷ []
    unfolding oldest
    since true y m = same_days m.1 ∙ oldest_as t _ refl (h.inside y x t)
    since false z m = rw (h.outside z, m.1, books_none x t beside firm e j good cal z)

  told_effect : (b : Bool) → Keeps g.fields b f → Enrols t g.fields b f j
      → cond b (used r.history + cond (starts_on t r.history) 0 1) (used r.history) + due f.supply ≤ 24
      → ((x : Side) → Firm x t f (cond b (named t s after) after))
      → Told t (l ++ sp) (n ++ j) (record { fields = f; cells = cond b (overwritten s g.cells) g.cells })
      (record { fields = f; history = cond b (named t s after) after })
  told_effect false keeps enrols fit firm-now = let y = sym enrols.0 in
      record {
        same = refl;
        firm = firm-now;
        live = h.live;
        told = tells;
        still = stays;
        sum = sums;
        held = rw keeps h.held;
        outside = λ z. same_days enrols.1 ∙ h.outside (y ∙ z);
        inside = λ z x d. same_days enrols.1 ∙ oldest_as x d _ refl (h.inside (y ∙ z) x d);
      }
  told_effect true keeps enrols fit firm-now =
      record {
        same = refl;
        firm = firm-now;
        live = live_overwritten t s g.cells h.live;
        told = λ x. begin_is x ∙ ap (begin t s) (tells x)
            ∙ begin_tally (days_on x (l ++ sp)) t s g.cells (stays x t k.hi) h.live;
        still = stays;
        sum = λ x. ap sum_volumes (begin_is x) ∙ sum_begin t s (listed x after) ∙ sums x;
        held = held_overwritten s g.fields.supply.holder g.cells h.held;
        outside = not_blank (enrolled_after wheels t beside (firm wheels) e j good cal fit enrols g.fields.enrolled enrols);
        inside = λ z x d. rw (oldest_named x t beside (firm x) e j good cal fit enrols d) (since x g.fields.enrolled refl enrols);
      }
    where
      begin_is : (x : Side) → listed x (named t s after) ≡ begin t s (listed x after)
      begin_is x = begins x t beside (firm x) e j good cal fit enrols

  -- An effect on both machines: the page is written, and the effect is entered.
  pub effect_tied : Tied t (l ++ sp) (n ++ j) (written e g.cells) (entered t e r.history)
  effect_tied =
      let p = told_effect (names e) k.keeps k.enrols good.fit (λ x. firm_after x t beside (firm x) e j good cal) in
      record {
        point = p;
        fine = subst (Fine t) (sym (views_agree t _ _ _ _ p)) (fine_entered wheels t beside (firm wheels) e j good cal);
      }
