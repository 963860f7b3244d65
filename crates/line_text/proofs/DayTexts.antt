-- The text of a day: what stands behind it, and its eight bytes.
use Rattle.std.specs.Prelude.{Some, None}
use Rattle.basics.proofs.Basics.{◌≡◌, List, [], ◌++◌, ℕ, length}
use Rattle.dates.specs.declared.{Date.Date}
use Rattle.dates.specs.Numbers.{date_answer}
use Rattle.line_text.specs.Days.{date_text, answer_text, day_text}
use Rattle.line_text.proofs.Fixed.{fixed_append, fixed_length}

-- a day's text, on the calendar or off it, has eight bytes, whatever stands behind it
date_append : (x : Date) (l : List ℕ) → date_text x l ≡ date_text x [] ++ l
date_append x l = simp (← fixed_append)

pub day_append : (n : ℕ) (l : List ℕ) → day_text n l ≡ day_text n [] ++ l
day_append n l = elim (date_answer n) as (λ a. answer_text a l ≡ answer_text a [] ++ l)
    [ Some x ↦ date_append x l | None ↦ fixed_append 8 0 [] l ]

pub date_length : (x : Date) → length (date_text x []) ≡ 8
date_length x = simp fixed_length

pub day_length : (n : ℕ) → length (day_text n []) ≡ 8
day_length n = elim (date_answer n) as (λ a. length (answer_text a []) ≡ 8)
    [ Some x ↦ date_length x | None ↦ fixed_length 8 0 [] ]
