-- The 24 slots of a point, read newest first on one of the two sides: naming a holder and booking a reading do to them
-- what Tally's functions do to the list. The count stays within the slots, no volume wraps, and booking may stop at the
-- period that holds the reading's first day.
use Rattle.basics.proofs.Basics.{◌≡◌, refl, sym, ◌∙◌, ap, ap₂, true, false, Bool, cond, ◌&&◌, false≢true, List, [], ◌∷◌}
use Rattle.basics.proofs.Basics.{◌++◌, append-nil, map, reverse_aux, reverse, ◌≤◌, ℕ, ◌-◌, ◌+◌, ◌<◌, suc, zero, ◌^◌}
use Rattle.basics.proofs.Basics.{mod-eq_of_lt, add-one, dec_le, arith, eqb, ltb, leb, length, take, get_or, set}
use Rattle.basics.proofs.Basics.{length-set, take-suc, get_or-set_same, get_or-set_other, set_comm, lt-ltb, le-leb, lt-leb}
use Rattle.rules.specs.declared.{Period.Period, History.History, Span.Span}
use Rattle.rules.specs.Volumes.{summed}
use Rattle.rules.specs.Pinned.Register.{period, no_period, used, grown, starts_on, replaced, appended, named, booked_period}
use Rattle.rules.specs.Pinned.Register.{booked_slots, booked, booked_all}
use Rattle.agreement.specs.Sound.{Side, wheels, normal, volume_on}
use Rattle.agreement.proofs.Shares.{All, given_on, whole_on, wholes_on, before_on, after_on, most_on}
use Rattle.agreement.proofs.Tally.{Cut, cut, begin, began_on, begin_new, book_total, book_totals, sum_volumes, Desc}
use Rattle.agreement.proofs.Tally.{desc_book_total, sum_reading}

abbrev pub cut_on : Side → Period → Cut
cut_on x q = cut q.start q.holder (volume_on x q)

-- The first n slots, the newest first.
unfoldable pub recent : Side → ℕ → List Period → List Cut
recent x zero ps = []
recent x (suc n) ps = cut_on x (get_or ps n no_period) ∷ recent x n ps

abbrev pub listed : Side → History → List Cut
listed x h = recent x h.count h.periods

pub record Sized (h : History) : Type 0 where
  pub slots : length h.periods ≡ 24
  pub some : h.count ≤ 24

pub used_count : (h : History) → Sized h → used h ≡ h.count
used_count h z = omega arith

-- What holds of either volume: it is kept, it begins with nothing, and a reading adds to it.
kept_on : (x : Side) (t s : ℕ) (q : Period) → cut_on x (period t s q.volume.0 q.normal.0) ≡ cut t s (volume_on x q)
kept_on wheels t s q = refl
kept_on normal t s q = refl

new_on : (x : Side) (t s : ℕ) → cut_on x (period t s 0 0) ≡ cut t s 0
new_on wheels t s = refl
new_on normal t s = refl

grown_on : (x : Side) (s : Span) (e : ℕ) (q : Period)
    → cut_on x (booked_period s e q) ≡ cut q.start q.holder (grown (given_on x s) q.start e (volume_on x q))
unfolding booked_period
grown_on wheels s e q = refl
grown_on normal s e q = refl

cond_ap : {A B : Type 0} (f : A → B) (b : Bool) (x y : A) → cond b (f x) (f y) ≡ f (cond b x y)
cond_ap f true x y = refl
cond_ap f false x y = refl

pub cond_holds : {A : Type 0} (P : A → Type 0) (b : Bool) {x y : A} → P x → P y → P (cond b x y)
cond_holds P true p q = p
cond_holds P false p q = q

map_snoc : {A B : Type 0} (f : A → B) (l : List A) (x : A) (m : List B) → map f (l ++ x ∷ []) ++ m ≡ map f l ++ f x ∷ m
map_snoc f [] x m = refl
map_snoc f (y ∷ l) x m = ap (λ (r : List _). f y ∷ r) (map_snoc f l x m)

-- whatever side is read
module _ (s : Span) where
  booked_slots_length : (e n : ℕ) (ps : List Period) → length (booked_slots s e n ps) ≡ length ps
  unfolding booked_slots
  booked_slots_length e zero ps = refl
  booked_slots_length e (suc n) ps = let q : Period = get_or ps n no_period in
      let k = length-set ps n (booked_period s e q) in
      cond_holds (λ (l : List Period). length l ≡ length ps) (leb q.start s.from) k
      (booked_slots_length q.start n (set ps n (booked_period s e q)) ∙ k)

  -- a slot at or past n is left alone
  booked_slots_set : (e n i : ℕ) (ps : List Period) (p : Period) → n ≤ i
      → booked_slots s e n (set ps i p) ≡ set (booked_slots s e n ps) i p
  unfolding booked_slots
  booked_slots_set e zero i ps p le = refl
  booked_slots_set e (suc n) i ps p le = let q : Period = get_or ps n no_period in
      let r : List Period = set ps n (booked_period s e q) in rw (
        get_or-set_other ps i n p no_period (omega arith),
        set_comm ps i n p (booked_period s e q) (omega arith),
        booked_slots_set q.start n i r p (omega arith),
      ) (cond_ap (λ (l : List Period). set l i p) (leb q.start s.from) r (booked_slots s q.start n r))

pub booked_sized : (s : Span) (h : History) → Sized h → Sized (booked s h)
unfolding booked
booked_sized s h z = record { slots = booked_slots_length s s.to _ h.periods ∙ z.slots; some = z.some }

pub booked_all_sized : (l : List Span) (h : History) → Sized h → Sized (booked_all l h)
booked_all_sized [] h z = z
booked_all_sized (s ∷ l) h z = booked_all_sized l (booked s h) (booked_sized s h z)

book_total_end : (c : ℕ → ℕ) (e f : ℕ) (ps : List Cut) → c e ≡ c f → book_total c e ps ≡ book_total c f ps
unfolding book_total
book_total_end c e f [] q = refl
book_total_end c e f (p ∷ ps) q = rw q

-- On either side.
module _ (x : Side) where
  length_recent : (n : ℕ) (ps : List Period) → length (recent x n ps) ≡ n
  unfolding recent
  length_recent zero ps = refl
  length_recent (suc n) ps = ap suc (length_recent n ps)

  pub length_listed : (h : History) → length (listed x h) ≡ h.count
  length_listed h = length_recent h.count h.periods

  -- the slots themselves are oldest first
  reverse_recent : (n : ℕ) (ps : List Period) (l : List Cut) → n ≤ length ps
      → reverse_aux (recent x n ps) l ≡ map (cut_on x) (take n ps) ++ l
  unfolding recent
  reverse_recent zero ps l le = refl
  reverse_recent (suc n) ps l le = reverse_recent n ps (cut_on x (get_or ps n no_period) ∷ l) (omega arith)
      ∙ sym (map_snoc (cut_on x) (take n ps) (get_or ps n no_period) l)
      ∙ ap (λ (r : List Period). map (cut_on x) r ++ l) (sym (take-suc ps n no_period le))

  pub take_listed : (h : History) → Sized h → map (cut_on x) (take h.count h.periods) ≡ reverse (listed x h)
  take_listed h z = sym (append-nil (map (cut_on x) (take h.count h.periods)))
      ∙ sym (reverse_recent h.count h.periods [] (omega arith))

  -- Naming a holder

  starts_recent : (t n : ℕ) (ps : List Period)
      → (ltb 0 n && eqb (get_or ps (n - 1) no_period).start t) ≡ began_on t (recent x n ps)
  unfolding recent
  starts_recent t zero ps = refl
  starts_recent t (suc n) ps = let k : suc n - 1 ≡ n = omega arith in rw (lt-ltb 0 (suc n) (omega arith), k)

  pub starts_listed : (t : ℕ) (h : History) → Sized h → starts_on t h ≡ began_on t (listed x h)
  unfolding starts_on
  starts_listed t h z = rw (used_count h z) (starts_recent t h.count h.periods)

  -- a slot at or past n is not read
  recent_set : (n i : ℕ) (ps : List Period) (p : Period) → n ≤ i → recent x n (set ps i p) ≡ recent x n ps
  unfolding recent
  recent_set zero i ps p le = refl
  recent_set (suc n) i ps p le =
      ap₂ (λ (q : Period) (l : List Cut). cut_on x q ∷ l) (get_or-set_other ps i n p no_period (omega arith))
      (recent_set n i ps p (omega arith))

  recent_push : (n : ℕ) (ps : List Period) (p : Period) (c : Cut) → n < length ps → cut_on x p ≡ c
      → recent x (suc n) (set ps n p) ≡ c ∷ recent x n ps
  unfolding recent
  recent_push n ps p c lt q =
      ap₂ (λ (q : Cut) (l : List Cut). q ∷ l) (ap (cut_on x) (get_or-set_same ps n p no_period lt) ∙ q)
      (recent_set n n ps p (omega arith))

  begin_again : (t s n : ℕ) (ps : List Period) → began_on t (recent x n ps) ≡ true → n ≤ length ps
      → let q = get_or ps (n - 1) no_period in
      recent x n (set ps (n - 1) (period t s q.volume.0 q.normal.0)) ≡ begin t s (recent x n ps)
  unfolding recent
  begin_again t s zero ps b le = absurd (false≢true b)
  begin_again t s (suc n) ps b le = let k : suc n - 1 ≡ n = omega arith in
      rw (k, b) (recent_push n ps _ _ le (kept_on x t s (get_or ps n no_period)))

  module _ (t s : ℕ) (h : History) (z : Sized h) where
    named_both : (b : Bool) → starts_on t h ≡ b → h.count + cond b 0 1 ≤ 24
        → (listed x (named t s h) ≡ begin t s (listed x h)) × Sized (named t s h)
    unfolding named replaced appended
    named_both true q le = rw (q, used_count h z) (
      begin_again t s h.count h.periods (sym (starts_listed t h z) ∙ q) (omega arith),
      record { slots = rw length-set z.slots; some = z.some },
    )
    named_both false q le = rw (q, used_count h z, lt-ltb h.count 24 (omega arith)) (
      rw add-one (recent_push h.count h.periods (period t s 0 0) _ (omega arith) (new_on x t s)
          ∙ sym (begin_new t s (listed x h) (sym (starts_listed t h z) ∙ q))),
      record { slots = rw length-set z.slots; some = le },
    )

    pub named_listed : h.count + cond (starts_on t h) 0 1 ≤ 24 → listed x (named t s h) ≡ begin t s (listed x h)
    named_listed le = (named_both (starts_on t h) refl le).0

    pub named_sized : h.count + cond (starts_on t h) 0 1 ≤ 24 → Sized (named t s h)
    named_sized le = (named_both (starts_on t h) refl le).1

  -- Booking a reading

  module _ (s : Span) (lt : s.from < s.to) where
    -- the wrap never fires
    booked_period_exact : (e : ℕ) (q : Period) → volume_on x q + whole_on x s < 2 ^ 64
        → cut_on x (booked_period s e q) ≡ cut q.start q.holder (volume_on x q + (given_on x s e - given_on x s q.start))
    booked_period_exact e q fits =
        grown_on x s e q ∙ ap (cut q.start q.holder) (mod-eq_of_lt (omega (arith, most_on x s lt e)))

    -- periods that end by the reading's first day get nothing
    book_total_before : (ps : List Cut) (e : ℕ) → e ≤ s.from → Desc e ps → book_total (given_on x s) e ps ≡ ps
    unfolding book_total
    book_total_before [] e le r = refl
    book_total_before (p ∷ ps) e le r =
        ap₂ (λ (v : ℕ) (l : List Cut). cut p.start p.holder v ∷ l) (omega (arith, before_on x s lt e le))
        (book_total_before ps p.start (omega arith) r.1)

    booked_slots_recent : (n e f : ℕ) (ps : List Period) → n ≤ length ps → Desc f (recent x n ps)
        → sum_volumes (recent x n ps) + whole_on x s < 2 ^ 64
        → recent x n (booked_slots s e n ps) ≡ book_total (given_on x s) e (recent x n ps)
    unfolding recent booked_slots book_total sum_volumes
    booked_slots_recent zero e f ps le r fits = refl
    booked_slots_recent (suc n) e f ps le r fits = let q : Period = get_or ps n no_period in
        let p : Period = booked_period s e q in let i = booked_period_exact e q (omega arith) in
        let onto : List Cut → List Cut = λ l. cut q.start q.holder (volume_on x q + (given_on x s e - given_on x s q.start)) ∷ l in
        elim (dec_le q.start s.from) [
          | yes k ↦ rw (le-leb _ _ k)
              (recent_push n ps p _ le i ∙ ap onto (sym (book_total_before (recent x n ps) q.start k r.1)))
          | no k ↦ rw (lt-leb q.start s.from (omega arith), booked_slots_set s q.start n n ps p (omega arith))
              (recent_push n (booked_slots s q.start n ps) p _ (rw (booked_slots_length s q.start n ps) le) i
              ∙ ap onto (booked_slots_recent n q.start q.start ps (omega arith) r.1 (omega arith)))
        ]

  pub booked_listed : (s : Span) (e : ℕ) (h : History) → Sized h → s.from < s.to → s.to ≤ e → Desc e (listed x h)
      → sum_volumes (listed x h) + whole_on x s < 2 ^ 64 → listed x (booked s h) ≡ book_total (given_on x s) e (listed x h)
  unfolding booked
  booked_listed s e h z lt le r fits = rw (used_count h z)
      (booked_slots_recent s lt h.count s.to e h.periods (omega arith) r fits
      ∙ book_total_end (given_on x s) s.to e (listed x h)
      (after_on x s lt s.to (omega arith) ∙ sym (after_on x s lt e le)))

  pub booked_all_listed : (l : List Span) (e : ℕ) (h : History) → Sized h
      → All (λ (s : Span). (s.from < s.to) × (s.to ≤ e)) l → Desc e (listed x h)
      → sum_volumes (listed x h) + wholes_on x l < 2 ^ 64 → listed x (booked_all l h) ≡ book_totals x l e (listed x h)
  unfolding book_totals summed
  booked_all_listed [] e h z k r fits = refl
  booked_all_listed (s ∷ l) e h z k r fits = let q = booked_listed s e h z k.0.0 k.0.1 r (omega arith) in
      let sum = sum_reading x s (listed x h) e k.0.0 k.0.1 r in
      booked_all_listed l e (booked s h) (booked_sized s h z) k.1
      (rw q (desc_book_total (given_on x s) (listed x h) e e r)) (rw q (omega arith)) ∙ ap (book_totals x l e) q
