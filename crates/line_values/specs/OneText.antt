-- 01, Message lines: what it means that numbers and dates have one text each.
-- Definitions only: `one_text` of proofs/ proves it.
use Rattle.std.specs.Prelude.{ℕ, ◌<◌, ◌≤◌, ◌^◌, ◌≡◌, false, List, [], ◌∷◌}
use Rattle.dates.specs.Dates.{last_day}
use Rattle.line_text.specs.Decimal.{decimal}
use Rattle.line_text.specs.Days.{day_text}
use Rattle.line_values.specs.Pinned.Numbers.{number, number_of, is_digit}
use Rattle.line_values.specs.Pinned.Days.{day_in}

-- A text that does not go on with a digit.
abbrev pub Stops : List ℕ → Type 0
Stops [] = Unit {0}
Stops (c ∷ l) = is_digit c ≡ false

pub record OneText : Type 0 where
  -- a number of at most 12 digits is read back from its text
  pub number_back : (n : ℕ) (l : List ℕ) → n < 10 ^ 12 → Stops l → number_of (decimal n l) ≡ number n l
  -- and only its text is read as it
  pub number_only : (n : ℕ) (l r : List ℕ) → number_of l ≡ number n r → (l ≡ decimal n r) × (n < 10 ^ 12)
  -- a day of the calendar is read back from its date
  pub day_back : (n : ℕ) (l : List ℕ) → n ≤ last_day → day_in (day_text n l) ≡ number n l
  -- and only its date is read as it
  pub day_only : (n : ℕ) (l r : List ℕ) → day_in l ≡ number n r → (l ≡ day_text n r) × (n ≤ last_day)
