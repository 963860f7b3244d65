-- The two machines brought up to a day: the book day by day, the register by catch-up.
use Rattle.basics.proofs.Basics.{◌≡◌, refl, sym, ◌∙◌, ap, subst, subst₂, true, false, Bool, cond, List, [], ◌∷◌, ◌++◌}
use Rattle.basics.proofs.Basics.{append-nil, map, ◌≤◌, ℕ, ◌-◌, ◌+◌, ◌<◌, suc, zero, add-zero, add-suc, suc-add, arith}
use Rattle.basics.proofs.Basics.{eqb, length, get_or, eqb-true}
use Rattle.dates.specs.Dates.{last_day}
use Rattle.rules.specs.declared.{Fields.Fields, Point.Point, Register.Register, Settings.Settings, Span.Span}
use Rattle.rules.specs.declared.{Effect.Effect}
use Rattle.rules.specs.Effects.{event}
use Rattle.rules.specs.Pinned.Register.{entered, catch_up, register, point_at, no_point, advanced}
use Rattle.rules.specs.DayBook.{cell, Page, Book, written, new_day, go_on, up_to_day, look}
use Rattle.agreement.proofs.Shares.{days_on}
use Rattle.agreement.proofs.Tally.{live_runs, dawn}
use Rattle.agreement.specs.Sound.{Ahead}
use Rattle.agreement.proofs.Jump.{on_day, daily, daily_catch_up}
use Rattle.agreement.proofs.Good.{event_good}
use Rattle.agreement.proofs.Firm.{firm_later}
use Rattle.agreement.proofs.Tied.{Told, Tied, effect_tied}

module _ (S : Settings) (B : 0 < S.b) where
  -- one day on both sides
  day_tied : (t : ℕ) (l : List Span) (n : List ℕ) (g : Page) (r : Point) → Tied t l n g r → suc t ≤ last_day
      → Tied (suc t) l n (new_day S (suc t) g) (on_day S (suc t) r)
  unfolding new_day
  day_tied t l n g r h cal = let f : Fields = g.fields in let x = h.point in
      let new : Page = record { fields = f; cells = cell (suc t) f.supply.holder false ∷ g.cells } in
      let told : Told (suc t) l n new r = record {
        same = x.same;
        firm = λ y. firm_later (x.firm y);
        live = (refl, live_runs t g.cells x.live);
        told = λ y. x.told y ∙ sym (dawn (days_on y l) (suc t) f.supply.holder g.cells (x.still y (suc t) (omega (arith, h.fine.past))));
        still = x.still;
        sum = x.sum;
        held = (refl, x.held);
        outside = x.outside;
        inside = x.inside;
      } in let e : Effect = event S (suc t) f in let w = event_good S B t (look new) h.fine in rw (← x.same)
      (subst₂ (λ (x : List Span) (y : List ℕ). Tied (suc t) x y (written e new.cells) (entered (suc t) e r.history))
      (ap (λ (x : List Span). l ++ x) w.0 ∙ append-nil l) (append-nil n)
      (effect_tied (suc t) l n new r told e [] w.1 cal))

abbrev tomorrow : Book → Book
tomorrow b = record {
  settings = b.settings;
  day = suc b.day;
  contracts = b.contracts;
  page = λ q. new_day b.settings (suc b.day) (b.page q);
}

go_on_suc : (k : ℕ) (b : Book) (p : ℕ) → (go_on (suc k) b).page p ≡ new_day b.settings (suc (b.day + k)) ((go_on k b).page p)
unfolding go_on
go_on_suc zero b p = rw (add-zero b.day)
go_on_suc (suc k) b p = let e : suc b.day + k ≡ b.day + suc k = omega arith in rw e at (go_on_suc k (tomorrow b) p)

-- going on leaves the settings and the contracts
pub record GoneOn (k : ℕ) (b : Book) : Type 0 where
  pub settings : (go_on k b).settings ≡ b.settings
  pub contracts : (go_on k b).contracts ≡ b.contracts
  pub day : (go_on k b).day ≡ b.day + k

pub gone_on : (k : ℕ) (b : Book) → GoneOn k b
unfolding go_on
gone_on zero b = record { settings = refl; contracts = refl; day = sym (add-zero b.day) }
gone_on (suc k) b = let h = gone_on k (tomorrow b) in
    record { settings = h.settings; contracts = h.contracts; day = h.day ∙ suc-add b.day k ∙ sym (add-suc b.day k) }

-- An element of a list that a function went over.
pub get_d_map : {A B : Type 0} (f : A → B) (l : List A) (k : ℕ) (d : A) (e : B) → k < length l → get_or (map f l) k e ≡ f (get_or l k d)
get_d_map f [] k d e h = absurd (omega arith)
get_d_map f (x ∷ l) zero d e h = refl
get_d_map f (x ∷ l) (suc k) d e h = get_d_map f l k d e (omega arith)

pub point_map : (f : Point → Point) (ps : List Point) (p : ℕ) → 1 ≤ p → p ≤ length ps → point_at p (map f ps) ≡ f (point_at p ps)
point_map f ps p lo hi = get_d_map f ps (p - 1) no_point no_point (omega arith)

-- What holds of a point from day to day holds of it in the register brought up to day t.
module _ (S : Settings) (B : 0 < S.b) (P : ℕ → Point → Type 0) (ahead : (t : ℕ) (g : Point) → P t g → Ahead t g.fields.supply)
    (next : (t : ℕ) (g : Point) → P t g → suc t ≤ last_day → P (suc t) (on_day S (suc t) g)) where
  days_kept : (k t : ℕ) (g : Point) → P t g → t + k ≤ last_day → P (t + k) (daily S k t g)
  unfolding daily
  days_kept zero t g h cal = rw (add-zero t) h
  days_kept (suc k) t g h cal = rw (add-suc t k, ← (suc-add t k)) (days_kept k (suc t) (on_day S (suc t) g) (next t g h (omega arith)) (omega arith))

  pub up_kept : (r : Register) → S ≡ r.settings → (t p : ℕ) → r.day ≤ t → t ≤ last_day → 1 ≤ p → p ≤ length r.points
      → P r.day (point_at p r.points) → P t (point_at p (advanced t r).points)
  unfolding advanced
  up_kept r same t p on cal lo hi h = go (eqb r.day t) refl
    where
      g : Point
      g = point_at p r.points

      go : (x : Bool) → eqb r.day t ≡ x
          → P t (point_at p (cond x r (register r.settings t r.contracts (map (catch_up r.settings t) r.points))).points)
      go true e = subst (λ (d : ℕ). P d (point_at p r.points)) (eqb-true r.day t e) h
      go false e = let z : r.day + (t - r.day) ≡ t = omega arith in rw (point_map (catch_up r.settings t) r.points p lo hi, ← same)
          (subst (λ (x : ℕ). P x (catch_up S x g)) z
          (rw (daily_catch_up S B (t - r.day) r.day g (ahead r.day g h)) at (days_kept (t - r.day) r.day g h (omega arith))))

-- The page and the point brought up to day t.
module _ (b : Book) (r : Register) (same : b.settings ≡ r.settings) (days : b.day ≡ r.day) (B : 0 < b.settings.b) (t : ℕ)
    (on : b.day ≤ t) (cal : t ≤ last_day) (p : ℕ) (lo : 1 ≤ p) (hi : p ≤ length r.points) (l : List Span) (n : List ℕ)
    (h : Tied b.day l n (b.page p) (point_at p r.points)) where
  abbrev Beside : ℕ → Point → Type 0
  Beside x g = (b.day ≤ x) × Tied x l n ((up_to_day x b).page p) g

  page_ahead : (x : ℕ) (g : Point) → Beside x g → Ahead x g.fields.supply
  page_ahead x g i = subst (λ (f : Fields). Ahead x f.supply) i.1.point.same i.1.fine.ahead

  page_next : (x : ℕ) (g : Point) → Beside x g → suc x ≤ last_day → Beside (suc x) (on_day b.settings (suc x) g)
  page_next x g i cal = let e : suc x - b.day ≡ suc (x - b.day) = omega (arith, i.0) in
      let d : b.day + (x - b.day) ≡ x = omega (arith, i.0) in
      (omega (arith, i.0), rw (e, go_on_suc (x - b.day) b p, d) (day_tied b.settings B x l n ((up_to_day x b).page p) g i.1 cal))

  pub caught : Tied t l n ((up_to_day t b).page p) (point_at p (advanced t r).points)
  unfolding go_on
  caught = let z : r.day - b.day ≡ 0 = omega arith in
      (up_kept b.settings B Beside page_ahead page_next r same t p (omega arith) cal lo hi (omega arith, rw z (rw days at h))).1
