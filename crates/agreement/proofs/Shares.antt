-- A reading's day volumes are the steps of what it has given so far: nothing up to its first day, all of it from its
-- last day on. One argument over the factor: the wheels' own volume is that by 10,000. And how the volumes of a list of
-- readings add up.
--
-- by                  what a reading has given before a day, converted by a factor
-- given_on            the same on one of the two sides; `day_on`: what it gives a day, `whole_on`: in all
-- days_on, wholes_on  these two by all readings of a list
use Rattle.basics.proofs.Basics.{◌≡◌, refl, sym, ◌∙◌, List, [], ◌∷◌, ◌++◌, ◌≤◌, ℕ, ◌-◌, ◌+◌, ◌<◌, suc, ◌*◌, min, ◌/◌}
use Rattle.basics.proofs.Basics.{le_trans, mul-le-mul_right, mul-le-mul_left, mul-div_left, mul_comm, mul-zero, zero-mul}
use Rattle.basics.proofs.Basics.{zero-div, le-div_iff_mul-le, div-mul-le_self, mul-sub, dec_le, dec_lt, arith, lt-ltb}
use Rattle.basics.proofs.Basics.{le-leb, le-ltb, lt-leb}
use Rattle.rules.specs.declared.{Span.Span}
use Rattle.rules.specs.Volumes.{up_to, share, given, day_volume, normal_given, day_normal, summed}
use Rattle.agreement.specs.Sound.{Side, wheels, normal}

abbrev pub All : (Span → Type 0) → List Span → Type 0
All P [] = Unit {0}
All P (s ∷ l) = P s × All P l

pub all_map : {P Q : Span → Type 0} (l : List Span) → ((s : Span) → P s → Q s) → All P l → All Q l
all_map [] f k = tt
all_map (s ∷ l) f k = (f s k.0, all_map l f k.1)

pub div_up : {a b : ℕ} (D : ℕ) → 0 < D → a ≤ b → a / D ≤ b / D
div_up {a} {b} D p h = (le-div_iff_mul-le p).1 (le_trans (div-mul-le_self a D) h)

pub sub_mul : (m n k : ℕ) → (m - n) * k ≡ m * k - n * k
sub_mul m n k = rw (mul_comm (m - n) k, mul_comm m k, mul_comm n k) (mul-sub k m n)

abbrev pub by : ℕ → Span → ℕ → ℕ
by f s d = given s d * f / 10000

-- by 10,000 nothing changes
pub by_same : (n : ℕ) → n * 10000 / 10000 ≡ n
by_same n = mul-div_left n (omega arith)

module _ (s : Span) (h : s.from < s.to) where
  up_to_up : {k l : ℕ} → k ≤ l → up_to s k ≤ up_to s l
  unfolding up_to
  up_to_up {k} {l} p = div_up (s.to - s.from) (omega arith) (mul-le-mul_left s.advance p)

  up_to_none : up_to s 0 ≡ 0
  unfolding up_to
  up_to_none = rw (mul-zero, zero-div)

  up_to_all : up_to s (s.to - s.from) ≡ s.advance
  unfolding up_to
  up_to_all = mul-div_left s.advance (omega arith)

  given_before : (d : ℕ) → d ≤ s.from → given s d ≡ 0
  unfolding given
  given_before d p = let k : min (d - s.from) (s.to - s.from) ≡ 0 = omega arith in rw (k, up_to_none, zero-mul)

  given_after : (d : ℕ) → s.to ≤ d → given s d ≡ s.advance * s.unit
  unfolding given
  given_after d p = let k : min (d - s.from) (s.to - s.from) ≡ s.to - s.from = omega arith in rw (k, up_to_all)

  given_up : {c d : ℕ} → c ≤ d → given s c ≤ given s d
  unfolding given
  given_up {c} {d} p = mul-le-mul_right s.unit (up_to_up (omega arith))

  given_inside : (d : ℕ) → s.from ≤ d → d < s.to → given s (suc d) - given s d ≡ day_volume s d
  unfolding given day_volume share
  given_inside d p q = let k : min (suc d - s.from) (s.to - s.from) ≡ suc (d - s.from) = omega arith in
      let l : min (d - s.from) (s.to - s.from) ≡ d - s.from = omega arith in
      rw (le-leb _ _ p, lt-ltb _ _ q, k, l, sub_mul) refl

  -- the day's volume is the step of what is given
  pub given_step : (d : ℕ) → given s (suc d) - given s d ≡ day_volume s d
  unfolding day_volume
  given_step d = elim (dec_le s.from d) [
    | no p ↦ rw (lt-leb s.from d (omega arith)) (omega (arith, given_before (suc d) (omega arith)))
    | yes p ↦ elim (dec_lt d s.to) [
      | yes q ↦ given_inside d p q
      | no q ↦ rw (le-leb _ _ p, le-ltb d s.to (omega arith))
          (omega (arith, given_after d (omega arith), given_after (suc d) (omega arith)))
    ]
  ]

  -- by any factor
  module _ (f : ℕ) where
    pub by_before : (d : ℕ) → d ≤ s.from → by f s d ≡ 0
    by_before d p = rw (given_before d p, zero-mul, zero-div)

    pub by_after : (d : ℕ) → s.to ≤ d → by f s d ≡ s.advance * s.unit * f / 10000
    by_after d p = rw (given_after d p)

    pub by_up : {c d : ℕ} → c ≤ d → by f s c ≤ by f s d
    by_up p = div_up 10000 (omega arith) (mul-le-mul_right f (given_up p))

    pub by_step : (d : ℕ) → by f s (suc d) ≡ by f s d + (by f s (suc d) - by f s d)
    by_step d = omega (arith, by_up {c = d} {d = suc d} (omega arith))

-- The two sides.
abbrev pub factor_on : Side → Span → ℕ
factor_on wheels s = 10000
factor_on normal s = s.factor

abbrev pub given_on : Side → Span → ℕ → ℕ
given_on wheels s d = given s d
given_on normal s d = normal_given s d

abbrev pub day_on : Side → Span → ℕ → ℕ
day_on wheels s d = day_volume s d
day_on normal s d = day_normal s d

abbrev pub whole_on : Side → Span → ℕ
whole_on wheels s = s.advance * s.unit
whole_on normal s = normal_given s s.to

-- each is the running total by a factor
pub given_by : (x : Side) (s : Span) (d : ℕ) → given_on x s d ≡ by (factor_on x s) s d
unfolding normal_given
given_by wheels s d = sym (by_same (given s d))
given_by normal s d = refl

module _ (s : Span) (h : s.from < s.to) where
  day_by : (x : Side) (d : ℕ) → day_on x s d ≡ given_on x s (suc d) - given_on x s d
  unfolding day_normal
  day_by wheels d = sym (given_step s h d)
  day_by normal d = refl

  pub whole_by : (x : Side) → whole_on x s ≡ s.advance * s.unit * factor_on x s / 10000
  whole_by wheels = sym (by_same (s.advance * s.unit))
  whole_by normal = given_by normal s s.to ∙ by_after s h s.factor s.to (omega arith)

-- so what holds by any factor holds on either side
module _ (x : Side) (s : Span) (h : s.from < s.to) where
  pub before_on : (d : ℕ) → d ≤ s.from → given_on x s d ≡ 0
  before_on d p = given_by x s d ∙ by_before s h (factor_on x s) d p

  pub after_on : (d : ℕ) → s.to ≤ d → given_on x s d ≡ whole_on x s
  after_on d p = given_by x s d ∙ by_after s h (factor_on x s) d p ∙ sym (whole_by s h x)

  pub step_on : (d : ℕ) → given_on x s (suc d) ≡ given_on x s d + day_on x s d
  step_on d = rw (day_by s h x d, given_by x s (suc d), given_by x s d) (by_step s h (factor_on x s) d)

  up_on : {c d : ℕ} → c ≤ d → given_on x s c ≤ given_on x s d
  up_on {c} {d} p = rw (given_by x s c, given_by x s d) (by_up s h (factor_on x s) p)

  pub most_on : (d : ℕ) → given_on x s d ≤ whole_on x s
  most_on d = elim (dec_le d s.to) [
    | yes p ↦ rw (← (after_on s.to (omega arith))) (up_on p)
    | no p ↦ omega (arith, after_on d (omega arith))
  ]

  pub day_after : (d : ℕ) → s.to ≤ d → day_on x s d ≡ 0
  day_after d p = omega (arith, step_on d, after_on d p, after_on (suc d) (omega arith))

abbrev pub days_on : Side → List Span → ℕ → ℕ
days_on x l d = summed (λ (s : Span). day_on x s d) l

abbrev pub wholes_on : Side → List Span → ℕ
wholes_on x l = summed (λ (s : Span). whole_on x s) l

pub summed_append : (f : Span → ℕ) (l m : List Span) → summed f (l ++ m) ≡ summed f l + summed f m
unfolding summed
summed_append f [] m = omega arith
summed_append f (s ∷ l) m = omega (arith, summed_append f l m)

pub days_after : (x : Side) (l : List Span) (d : ℕ) → All (λ (s : Span). (s.from < s.to) × (s.to ≤ d)) l
    → days_on x l d ≡ 0
unfolding summed
days_after x [] d k = refl
days_after x (s ∷ l) d k = omega (arith, day_after x s k.0.0 d k.0.1, days_after x l d k.1)
