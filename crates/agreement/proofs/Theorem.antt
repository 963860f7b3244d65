-- Demand 3: the theorem `day_book_agrees`. Its statement is specs/Demand3.antt.
use Rattle.basics.proofs.Basics.{◌≡◌, refl, sym, ◌∙◌, ap, true, false, Bool, List, [], ◌∷◌, map, ◌≤◌, ℕ, ◌+◌, ◌^◌, arith}
use Rattle.basics.proofs.Basics.{take}
use Rattle.rules.specs.declared.{Code.Code, Meter.Meter, Point.Point, Span.Span}
use Rattle.rules.specs.Volumes.{full_turn, turn_of, factor_of}
use Rattle.rules.specs.DayBook.{Page}
use Rattle.rules.specs.Periods.{periods_of, starts_of, daily_sums, total}
use Rattle.agreement.specs.Demand3.{PointAgrees, DayBookAgrees}
use Rattle.agreement.specs.Sound.{Side, wheels, normal, volume_on, FactorFits}
use Rattle.agreement.proofs.Shares.{days_on, wholes_on}
use Rattle.agreement.proofs.Tally.{tally_length, oldest}
use Rattle.agreement.proofs.Slots.{listed, Sized, length_listed}
use Rattle.agreement.proofs.Cover.{starts_read, volumes_read, total_read, first_read, first_read_none, covered_read}
use Rattle.agreement.proofs.Good.{Fitted}
use Rattle.agreement.proofs.Tied.{Tied}
use Rattle.agreement.proofs.Run.{run_settings, run_agrees, run_answers}

turn_exact : (m : Meter) → Fitted m → turn_of m ≡ 10 ^ (m.before + m.after)
unfolding full_turn
turn_exact m w = ap (λ (n : ℕ). 10 ^ n) (omega arith)

factor_exact : (c : Code) → FactorFits c → (f : ℕ) → c ≡ Code.Cubic f → factor_of c ≡ f
unfolding factor_of
factor_exact (Code.Cubic g) w f q = let k : g ≡ f = cc in omega arith
factor_exact Code.Normal w f q = let z : ◌≡◌ {A = ℕ} 0 1 = cc in absurd (omega arith)

-- One point beside its page on day t, with its readings l and its enrolments n.
module _ (t : ℕ) (l : List Span) (n : List ℕ) (g : Page) (r : Point) (h : Tied t l n g r) where
  sized : Sized r.history
  sized = (h.point.firm wheels).sized

  first_start : (b : Bool) → g.fields.enrolled ≡ b → take 1 (starts_of r) ≡ n
  first_start true y = let s = (h.point.firm wheels).begun y in
      first_read r sized wheels s.start s.is ∙ ap (λ (o : ℕ). o ∷ []) (sym (s.is 0)) ∙ sym (h.point.inside y wheels 0)
  first_start false z = first_read_none r sized wheels ((h.point.firm wheels).none z) ∙ sym (h.point.outside z)

  -- an enrolment day is where the oldest period starts
  oldest_by : (e d : ℕ) → n ≡ e ∷ [] → e ≤ d → (b : Bool) → g.fields.enrolled ≡ b → (x : ℕ)
      → oldest (listed wheels r.history) x ≤ d
  oldest_by e d q le true y x =
      let z : oldest (listed wheels r.history) x ≡ e = cc (h.point.inside y wheels x) in omega arith
  oldest_by e d q le false z x = let w : ◌≡◌ {A = ℕ} 0 1 = cc (h.point.outside z) in absurd (omega arith)

  -- the volumes of either side are the sums of their days, and add up to the readings' totals
  sums : (x : Side) → map (volume_on x) (periods_of r) ≡ daily_sums (days_on x l) t (starts_of r)
  sums x = volumes_read r sized x (days_on x l) g.cells (h.point.told x) t h.point.live

  totals : (x : Side) → total (map (volume_on x) (periods_of r)) ≡ wholes_on x l
  totals x = total_read r sized x ∙ h.point.sum x

  point_agrees : PointAgrees t l n g r
  point_agrees = let p = h.point in
      record {
        fields = sym p.same;
        starts = starts_read r sized wheels (days_on wheels l) g.cells (p.told wheels);
        first = first_start g.fields.enrolled refl;
        covered = λ e d q lo hi. covered_read r sized wheels (days_on wheels l) g.cells (p.told wheels) t p.live
            g.fields.supply.holder p.held d (oldest_by e d q lo g.fields.enrolled refl) hi;
        volumes = sums wheels;
        advance = totals wheels;
        normals = sums normal;
        normal_advance = totals normal;
        room = rw (← p.same, ← (length_listed wheels r.history), p.told wheels, tally_length (days_on wheels l) g.cells 0)
            h.fine.fit;
        turn = rw (← p.same) (turn_exact g.fields.meter h.fine.meter);
        factor = rw (← p.same) (factor_exact g.fields.meter.code h.fine.meter.2);
      }

pub day_book_agrees : DayBookAgrees
day_book_agrees o ok calls = let h = run_agrees o ok calls in
    record {
      answers = run_answers o ok calls;
      day = sym h.day;
      settings = sym h.settings ∙ run_settings o calls;
      book_settings = run_settings o calls;
      contracts = sym h.contracts;
      points = λ p lo hi. rw (← h.day) (point_agrees _ _ _ _ _ (h.points p lo hi));
    }
