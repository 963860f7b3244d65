-- The periods of a point by themselves, on either side: firm ones stay firm through an effect that is good.
use Rattle.basics.proofs.Basics.{◌≡◌, refl, sym, ◌∙◌, ap, true, false, Bool, cond, List, [], ◌≤◌, ℕ, ◌+◌, ◌<◌, suc, ◌*◌, ◌^◌}
use Rattle.basics.proofs.Basics.{le_trans, arith, length}
use Rattle.dates.specs.Dates.{last_day}
use Rattle.rules.specs.declared.{Fields.Fields, History.History, Point.Point, Span.Span, Effect.Effect}
use Rattle.rules.specs.Effects.{fields_of, names, spans_in}
use Rattle.rules.specs.Volumes.{summed}
use Rattle.rules.specs.Rejections.{due}
use Rattle.rules.specs.Pinned.Register.{used, starts_on, named, entered, booked_all, view}
use Rattle.agreement.specs.Sound.{Side, wheels, normal, per_day}
use Rattle.agreement.proofs.Shares.{All, all_map, wholes_on}
use Rattle.agreement.proofs.Tally.{Cut, begin, began_on, book_totals, sum_volumes, oldest, Desc, oldest_begin, sum_begin, sum_book_totals, desc_up}
use Rattle.agreement.proofs.Tally.{oldest_book_totals, desc_book_totals, began_book_totals, length_book_totals, desc_begin, length_begin}
use Rattle.agreement.proofs.Slots.{listed, Sized, used_count, length_listed, starts_listed, named_listed, named_sized}
use Rattle.agreement.proofs.Slots.{booked_all_listed, booked_all_sized}
use Rattle.agreement.proofs.Good.{Fine, Names, Enrols, Good, not_blank}

-- The oldest period starts at or before day d.
pub record Begun (ps : List Cut) (d : ℕ) : Type 0 where
  pub start : ℕ
  pub is : (x : ℕ) → oldest ps x ≡ start
  pub read : start ≤ d

-- No volume of the calendar's days wraps.
pub within : (x : Side) (d : ℕ) → d ≤ last_day → per_day x * d < 2 ^ 64
within wheels d le = omega arith
within normal d le = omega arith

pub record Firm (x : Side) (t : ℕ) (f : Fields) (h : History) : Type 0 where
  pub sized : Sized h
  pub falling : Desc (suc t) (listed x h)
  pub most : sum_volumes (listed x h) ≤ per_day x * f.reading.day
  pub none : f.enrolled ≡ false → listed x h ≡ []
  pub begun : f.enrolled ≡ true → Begun (listed x h) f.reading.day

pub firm_later : {x : Side} {t : ℕ} {f : Fields} {h : History} → Firm x t f h → Firm x (suc t) f h
firm_later {x} {t} {f} {h} k =
    record { sized = k.sized; falling = desc_up (listed x h) (omega arith) k.falling; most = k.most; none = k.none; begun = k.begun }

module _ (x : Side) (t : ℕ) (g : Point) (h : Firm x t g.fields g.history) (e : Effect) (j : List ℕ) (k : Good t (view t g) e (spans_in e) j)
    (cal : t ≤ last_day) where
  abbrev ps : List Cut
  ps = listed x g.history

  abbrev sp : List Span
  sp = spans_in e

  abbrev H : History
  H = booked_all sp g.history

  pub forward : All (λ (s : Span). (s.from < s.to) × (s.to ≤ suc t)) sp
  forward = all_map sp (λ s w. (w.1, omega (arith, w.2, k.hi))) k.made

  pub books : listed x H ≡ book_totals x sp (suc t) ps
  books = booked_all_listed x sp (suc t) g.history h.sized forward h.falling
      (omega (arith, h.most, k.most x, within x (fields_of e).reading.day (omega (arith, k.hi))))

  pub books_sized : Sized H
  books_sized = booked_all_sized sp g.history h.sized

  sums : (b : Bool) → g.fields.enrolled ≡ b → sum_volumes (book_totals x sp (suc t) ps) ≡ sum_volumes ps + wholes_on x sp
  unfolding book_totals summed
  sums true y = let s = h.begun y in
      sum_book_totals x sp ps (suc t) g.fields.reading.day h.falling (rw (s.is (suc t)) s.read)
      (all_map sp (λ s w. (w.0, w.1, omega (arith, w.2, k.hi))) k.made)
  sums false z = rw (k.once z) (omega arith)

  pub books_sum : sum_volumes (listed x H) ≡ sum_volumes ps + wholes_on x sp
  books_sum = ap sum_volumes books ∙ sums g.fields.enrolled refl

  pub books_none : g.fields.enrolled ≡ false → listed x H ≡ []
  unfolding book_totals
  books_none z = books ∙ rw (k.once z) (h.none z)

  pub books_oldest : (d : ℕ) → oldest (listed x H) d ≡ oldest ps d
  books_oldest d = ap (λ (q : List Cut). oldest q d) books ∙ oldest_book_totals x sp ps d (suc t)

  books_began : starts_on t H ≡ starts_on t g.history
  books_began = starts_listed x t H books_sized ∙ ap (began_on t) books ∙ began_book_totals x sp ps (suc t) t
      ∙ sym (starts_listed x t g.history h.sized)

  books_count : H.count ≡ g.history.count
  books_count = sym (length_listed x H) ∙ ap length books ∙ length_book_totals x sp ps (suc t) ∙ length_listed x g.history

  books_most : sum_volumes (listed x H) ≤ per_day x * (fields_of e).reading.day
  books_most = omega (arith, books_sum, h.most, k.most x)

  books_falling : Desc (suc t) (listed x H)
  books_falling = rw books (desc_book_totals x sp ps (suc t) h.falling)

  -- a holder is kept, or named
  firm_keep : Enrols t g.fields false (fields_of e) j → Firm x t (fields_of e) H
  firm_keep en = record {
    sized = books_sized;
    falling = books_falling;
    most = books_most;
    none = λ z. books_none (sym en.0 ∙ z);
    begun = λ y. let s = h.begun (sym en.0 ∙ y) in
        record { start = s.start; is = λ d. books_oldest d ∙ s.is d; read = le_trans s.read k.lo };
  }

  module _ (fit : used g.history + cond (starts_on t g.history) 0 1 + due (fields_of e).supply ≤ 24)
      (en : Names t g.fields.enrolled (fields_of e) j) where
    abbrev s : ℕ
    s = (fields_of e).supply.holder

    pub room : H.count + cond (starts_on t H) 0 1 ≤ 24
    room = rw (books_began, books_count) (omega (arith, used_count g.history h.sized, fit))

    pub begins : listed x (named t s H) ≡ begin t s (listed x H)
    begins = named_listed x t s H books_sized room

    pub enrolled_after : (b : Bool) → Names t b (fields_of e) j → (fields_of e).enrolled ≡ true
    enrolled_after true m = m.0
    enrolled_after false m = m.0

    pub oldest_named : (d : ℕ) → oldest (listed x (named t s H)) d ≡ oldest (listed x H) t
    oldest_named d = rw begins (oldest_begin t s (listed x H) d)

    since : (b : Bool) → g.fields.enrolled ≡ b → Names t b (fields_of e) j → Begun (listed x (named t s H)) (fields_of e).reading.day
    unfolding oldest
    since true y m = let o = h.begun y in
        record { start = o.start; is = λ d. oldest_named d ∙ books_oldest t ∙ o.is t; read = le_trans o.read k.lo }
    since false z m = record { start = t; is = λ d. oldest_named d ∙ rw (books_none z); read = omega (arith, m.2) }

    firm_name : Firm x t (fields_of e) (named t s H)
    firm_name = record {
      sized = named_sized x t s H books_sized room;
      falling = rw begins (desc_begin t s (listed x H) books_falling);
      most = rw (begins, sum_begin t s (listed x H)) books_most;
      none = not_blank (enrolled_after g.fields.enrolled en);
      begun = λ y. since g.fields.enrolled refl en;
    }

    count_name : (named t s H).count ≡ g.history.count + cond (starts_on t g.history) 0 1
    count_name = sym (length_listed x (named t s H)) ∙ ap length begins ∙ length_begin t s (listed x H)
        ∙ rw (length_listed x H, ← (starts_listed x t H books_sized), books_began, books_count)

  after_effect : (b : Bool) → Enrols t g.fields b (fields_of e) j
      → cond b (used g.history + cond (starts_on t g.history) 0 1) (used g.history) + due (fields_of e).supply ≤ 24
      → let h' = cond b (named t (fields_of e).supply.holder H) H in
      Firm x t (fields_of e) h' × (used h' ≡ cond b (used g.history + cond (starts_on t g.history) 0 1) (used g.history))
  after_effect true en fit = (
    firm_name fit en,
    rw (used_count g.history h.sized) (used_count _ (named_sized x t _ H books_sized (room fit en)) ∙ count_name fit en),
  )
  after_effect false en fit = (firm_keep en, rw (used_count g.history h.sized) (used_count H books_sized ∙ books_count))

  pub firm_after : Firm x t (fields_of e) (entered t e g.history).history
  firm_after = (after_effect (names e) k.enrols k.fit).0

  pub fine_entered : Fine t (view t (entered t e g.history))
  fine_entered = let m = (after_effect (names e) k.enrols k.fit).1 in
      record { past = k.hi; meter = k.meter; ahead = k.ahead; fit = rw m k.fit; blank = rw m k.blank }
