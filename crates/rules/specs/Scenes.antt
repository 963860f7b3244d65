-- The form of the examples: small lists of calls, each with its answer beside it, and what the register and the day
-- book show after them. Definitions only.
--
-- Line     a call and the answer that it gets
-- Plays    both machines give these answers
-- Shows    a point's periods and totals after the list, in both machines
-- Keeps    a point's fields after the list, in both machines
-- IsOn     the register's day after the list, in both machines
use Rattle.std.specs.Prelude.{◌≡◌, List, [], ◌∷◌, map, ℕ}
use Rattle.std.proofs.Math.Option.{Option, some}
use Rattle.rules.specs.declared.{Period.Period, Fields.Fields, Opening.Opening, Call.Call, Answer.Answer}
use Rattle.rules.specs.declared.{NewMeter.NewMeter, PointAction.PointAction, Span.Span}
use Rattle.rules.specs.Volumes.{volume, normal, registered, registered_normal}
use Rattle.rules.specs.Pinned.Register
use Rattle.rules.specs.Pinned.Register.{point_at}
pub use Rattle.rules.specs.Pinned.Register.{on}
use Rattle.rules.specs.DayBook
use Rattle.rules.specs.DayBook.{Cell}
use Rattle.rules.specs.Periods.{periods_of, volumes_of, normals_of, marked_days, holder_on, daily_sums, total}
use Rattle.rules.specs.Periods.{book, register}

-- First day, W, A, B, the default and the last-resort supplier: the fields of a line `set`, in its order.
abbrev pub opening : ℕ → ℕ → ℕ → ℕ → ℕ → ℕ → Opening
opening d w a b s l = record { day = d; w = w; a = a; b = b; default = s; resort = l }

-- An enrolment and a meter change, by the fields of their lines: wheels, index, code and factor of the new meter.
abbrev pub new_meter : ℕ → ℕ → ℕ → ℕ → ℕ → NewMeter
new_meter b a x c f = record { before = b; after = a; index = x; code = c; factor = f }

abbrev pub enrol : ℕ → ℕ → ℕ → ℕ → ℕ → PointAction
enrol b a x c f = PointAction.Enrol (new_meter b a x c f)

abbrev pub change : ℕ → ℕ → ℕ → ℕ → ℕ → ℕ → ℕ → PointAction
change x z b a y c f = PointAction.MeterChange x z (new_meter b a y c f)

infix 70 ◌gives◌
pub data Line : Type 0 where
  ◌gives◌ : Call → Answer → Line

abbrev pub calls : List Line → List Call
calls [] = []
calls ((c gives a) ∷ ls) = c ∷ calls ls

abbrev pub said : List Line → List Answer
said [] = []
said ((c gives a) ∷ ls) = a ∷ said ls

abbrev starts_in : List Period → List ℕ
starts_in ps = map (λ (q : Period). q.start) ps

abbrev holders_on : List ℕ → List Cell → List (Option ℕ)
holders_on ds cs = map (λ (d : ℕ). holder_on d cs) ds

module _ (o : Opening) (ls : List Line) where
  abbrev readings : ℕ → List Span
  readings p = DayBook.readings (DayBook.opened o) (calls ls) p

  -- What each period from these starts on has by the days' volumes.
  abbrev summed_by : (List Span → ℕ → ℕ) → ℕ → List ℕ → List ℕ
  summed_by vol p ss = daily_sums (vol (readings p)) (book o (calls ls)).day ss

  pub record Plays : Type 0 where
    pub by_register : Register.answers (Register.opened o) (calls ls) ≡ said ls
    pub by_book : DayBook.answers (DayBook.opened o) (calls ls) ≡ said ls

  pub record IsOn (d : ℕ) : Type 0 where
    pub by_register : (register o (calls ls)).day ≡ d
    pub by_book : (book o (calls ls)).day ≡ d

  pub record Keeps (p : ℕ) (f : Fields) : Type 0 where
    pub by_register : (point_at p (register o (calls ls)).points).fields ≡ f
    pub by_book : ((book o (calls ls)).page p).fields ≡ f

  -- The closing lines: a point's periods and its totals, v as the wheels count and n in normal cubic metres. Of the
  -- book: the marked days, their holders, and the sums of the days' volumes that the list's readings give.
  pub record Shows (p : ℕ) (ps : List Period) (v n : ℕ) : Type 0 where
    pub periods : periods_of (point_at p (register o (calls ls)).points) ≡ ps
    pub advance : (total (volumes_of (point_at p (register o (calls ls)).points)) ≡ v)
        × (total (normals_of (point_at p (register o (calls ls)).points)) ≡ n)
    pub starts : marked_days ((book o (calls ls)).page p).cells [] ≡ starts_in ps
    pub holders : holders_on (starts_in ps) ((book o (calls ls)).page p).cells ≡ map (λ (q : Period). some q.holder) ps
    pub volumes : (summed_by volume p (starts_in ps) ≡ map (λ (q : Period). q.volume.0) ps)
        × (summed_by normal p (starts_in ps) ≡ map (λ (q : Period). q.normal.0) ps)
    pub total : (registered (readings p) ≡ v) × (registered_normal (readings p) ≡ n)
