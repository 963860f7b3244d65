-- Demand 3: for every list of the twelve calls from a newly opened register, the register is what the day book says.
-- 01: "Demand 3 is one statement about the whole list, not one for each call." proofs/Theorem.antt proves it.
-- Definitions only.
use Rattle.std.specs.Prelude.{◌≡◌, true, List, [], ◌∷◌, map, ℕ, ◌+◌, ◌^◌, ◌≤◌, take}
use Rattle.std.proofs.Math.Option.{some}
use Rattle.rules.specs.declared.{Code.Code, Period.Period, Point.Point, Span.Span, Opening.Opening, Call.Call}
use Rattle.rules.specs.Volumes.{turn_of, factor_of, volume, normal, registered, registered_normal}
use Rattle.rules.specs.Answers.{is_accepted}
use Rattle.rules.specs.Rejections.{opening_answer, due}
use Rattle.rules.specs.Opening.{settings_of}
use Rattle.rules.specs.Pinned.Register
use Rattle.rules.specs.Pinned.Register.{point_at}
use Rattle.rules.specs.DayBook
use Rattle.rules.specs.DayBook.{Page}
use Rattle.rules.specs.Periods.{periods_of, starts_of, volumes_of, normals_of, marked_days, holder_on, covering, daily_sums}
use Rattle.rules.specs.Periods.{total, book, register}

-- One point of the register beside its page, where the last day is `last`; the readings and the enrolments come from
-- the list.
pub record PointAgrees (last : ℕ) (readings : List Span) (enrolments : List ℕ) (page : Page) (point : Point) : Type 0
  where
    pub fields : point.fields ≡ page.fields
    -- "The register's periods are the marked cells": they start at these and nowhere else
    pub starts : starts_of point ≡ marked_days page.cells []
    -- the first period starts on the enrolment day; no point is enrolled twice, and one that is not has no period
    pub first : take 1 (starts_of point) ≡ enrolments
    -- each gas day from enrolment to the register's day has a cell and lies in exactly one period, with the cell's
    -- holder
    pub covered : (e d : ℕ) → enrolments ≡ e ∷ [] → e ≤ d → d ≤ last
        → map (λ (q : Period). some q.holder) (covering d (periods_of point)) ≡ holder_on d page.cells ∷ []
    -- "A period's booked volume is the sum over its days", whose volumes are worked out from the list; so no volume has
    -- wrapped
    pub volumes : volumes_of point ≡ daily_sums (volume readings) last (starts_of point)
    -- a point's volumes add up to its registered advance
    pub advance : total (volumes_of point) ≡ registered readings
    -- 02, F-4: "Each period gains its Nm³ volume in thousandths"; "a point's Nm³ advance .. sums its readings'
    -- converted totals"; "Demand 3 and the questions cover these as they cover the booked ones."
    pub normals : normals_of point ≡ daily_sums (normal readings) last (starts_of point)
    pub normal_advance : total (normals_of point) ≡ registered_normal readings
    -- never more than 24 periods, those that are due included; the full turn is 10^w, and the factor the meter's own
    pub room : point.history.count + due point.fields.supply ≤ 24
    pub turn : turn_of point.fields.meter ≡ 10 ^ (point.fields.meter.before + point.fields.meter.after)
    pub factor : (f : ℕ) → point.fields.meter.code ≡ Code.Cubic f → factor_of point.fields.meter.code ≡ f

pub record Demand3 (o : Opening) (calls : List Call) : Type 0 where
  -- every answer is the day book's, "with the date it carries"
  pub answers : Register.answers (Register.opened o) calls ≡ DayBook.answers (DayBook.opened o) calls
  -- "today of its last accepted call, or the first day if there is none"
  pub day : (register o calls).day ≡ (book o calls).day
  -- both go by the opening's settings, from the first call to the last
  pub settings : (register o calls).settings ≡ settings_of o
  pub book_settings : (book o calls).settings ≡ settings_of o
  pub contracts : (register o calls).contracts ≡ (book o calls).contracts
  pub points : (p : ℕ) → 1 ≤ p → p ≤ 32
      → PointAgrees (register o calls).day (DayBook.readings (DayBook.opened o) calls p)
      (DayBook.enrolments (DayBook.opened o) calls p)
      ((book o calls).page p) (point_at p (register o calls).points)

-- The only hypothesis is that the opening is accepted.
abbrev pub DayBookAgrees : Type 0
DayBookAgrees = (o : Opening) → is_accepted (opening_answer o) ≡ true → (calls : List Call) → Demand3 o calls
