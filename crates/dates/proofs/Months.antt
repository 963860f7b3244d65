-- The month table and the table of its sums, by tests that antt computes.
use Rattle.basics.proofs.Basics.{◌≡◌, refl, true, Bool, cond, ◌&&◌, List, [], ◌∷◌, ◌≤◌, ℕ, ◌+◌, ◌<◌, suc, ◌/◌, ◌%◌}
use Rattle.basics.proofs.Basics.{arith, eqb, ltb, leb, get_or, lt-ltb, le-ltb, eqb-true, ltb-true, leb-true, cases}
use Rattle.dates.specs.Dates.{leap_row, month_length}
use Rattle.dates.specs.Numbers.{month_start}
use Rattle.dates.proofs.Every.{and_left, and_right, every_below, every₂, every₂_below}

-- a year's row is one of two
pub row_is : (y : ℕ) → leap_row y < 2
unfolding leap_row
row_is y = cases (eqb (y % 400) 0) (λ e. rw e (omega arith)) (λ e. cases (eqb (y % 100) 0) (λ f. rw (e, f) (omega arith))
    (λ f. cases (eqb (y % 4) 0) (λ g. rw (e, f, g) (omega arith)) (λ g. rw (e, f, g) (omega arith))))

-- a month has 28 to 31 days
pub length_bounds : (row m : ℕ) → row < 2 → m < 12 → (28 ≤ month_length row m) × (month_length row m ≤ 31)
length_bounds row m r h = let t = every₂_below (λ row m. leb 28 (month_length row m) && leb (month_length row m) 31) 2 12
    (unfold month_length in refl) row m r h in search (leb-true, and_left, and_right)

-- the table of the days before each month: its entries are the sums of the lengths before them
abbrev pub starts : List (List ℕ)
starts = (0 ∷ 31 ∷ 59 ∷ 90 ∷ 120 ∷ 151 ∷ 181 ∷ 212 ∷ 243 ∷ 273 ∷ 304 ∷ 334 ∷ []) ∷
    (0 ∷ 31 ∷ 60 ∷ 91 ∷ 121 ∷ 152 ∷ 182 ∷ 213 ∷ 244 ∷ 274 ∷ 305 ∷ 335 ∷ []) ∷ []

abbrev pub start_at : ℕ → ℕ → ℕ
start_at row m = get_or (get_or starts row []) m 0

pub start_is : (row m : ℕ) → row < 2 → m < 12 → (start_at row m ≡ month_start row m) × (start_at row m ≤ 335)
start_is row m r h = let t = every₂_below (λ row m. eqb (start_at row m) (month_start row m) && leb (start_at row m) 335) 2 12
    (unfold month_start month_length in refl) row m r h in search (eqb-true, leb-true, and_left, and_right)

-- a year has at most 366 days, and a month ends within it
pub year_length_lem : (row : ℕ) → row < 2 → month_start row 12 ≤ 366
year_length_lem row h = leb-true _ _ (every_below (λ row. leb (month_start row 12) 366) 2 (unfold month_start month_length in refl) row h)

pub month_in_year : (row m : ℕ) → row < 2 → m < 12 → month_start row m + month_length row m ≤ month_start row 12
month_in_year row m r h = leb-true _ _ (every₂_below (λ row m. leb (month_start row m + month_length row m) (month_start row 12)) 2 12
    (unfold month_start month_length in refl) row m r h)

-- day r of the year lies in month m
abbrev pub InMonth : ℕ → ℕ → ℕ → Type 0
InMonth row r m = (m < 12) × (month_start row m ≤ r) × (r < month_start row (suc m))

-- the month of a day of the year is a 32nd of it, or the month after
abbrev pub guess : ℕ → ℕ → ℕ
guess row r = cond (ltb r (month_start row (suc (r / 32)))) (r / 32) (suc (r / 32))

abbrev is_guessed : ℕ → ℕ → Bool
is_guessed row r = cond (ltb r (month_start row 12))
    (ltb (guess row r) 12 && leb (month_start row (guess row r)) r && ltb r (month_start row (suc (guess row r)))) true

module _ (row r : ℕ) (h : row < 2) (g : r < month_start row 12) where
  pub guess_in : InMonth row r (guess row r)
  guess_in = let few = year_length_lem row h in let all : every₂ is_guessed 2 366 ≡ true = unfold month_start month_length in refl in
      let t = rw (lt-ltb _ _ g) at (every₂_below is_guessed 2 366 all row r h (omega arith)) in search (ltb-true, leb-true, and_left, and_right)

  pub month_kept : r < month_start row (suc (r / 32)) → InMonth row r (r / 32)
  month_kept a = rw (lt-ltb _ _ a) at guess_in

  pub month_after : month_start row (suc (r / 32)) ≤ r → InMonth row r (suc (r / 32))
  month_after a = rw (le-ltb _ _ a) at guess_in
