-- 01, Message lines: "At the end come, per enrolled point, rising, its periods (point; start; holder; volume) and
-- `total`; point; advance." 02, F-4: with the Nm³ volume behind each volume. The closing lines by the day book and the
-- list alone, and the law that they are a register's. Definitions only: `listing_by_book` of proofs/ proves it.
use Rattle.std.specs.Prelude.{ℕ, zero, suc, ◌≡◌, true, List, [], ◌∷◌, ◌++◌}
use Rattle.std.proofs.Math.Option.{Option, none, some}
use Rattle.rules.specs.declared.{Period.Period, Opening.Opening, Call.Call}
use Rattle.rules.specs.Answers.{is_accepted}
use Rattle.rules.specs.Rejections.{opening_answer}
use Rattle.rules.specs.Periods.{register}
use Rattle.questions.specs.declared.{Advance.Advance}
use Rattle.questions.specs.ByBook.{book_periods, book_advance}
use Rattle.line_answers.specs.Answers.{period_line, total_line}
use Rattle.line_listing.specs.Pinned.Listing.{listing}

-- "its periods (point; start; holder; volume)"
unfoldable pub lines_of_periods : ℕ → List Period → List ℕ
lines_of_periods p [] = []
lines_of_periods p (q ∷ qs) = period_line p q ++ lines_of_periods p qs

-- "and `total`; point; advance"; a point that is not enrolled has no advance, and no line.
abbrev pub with_total : ℕ → List Period → Option Advance → List ℕ
with_total p qs none = []
with_total p qs (some a) = lines_of_periods p qs ++ total_line p a.volume a.normal

-- "rising": the lines of n points, the first of them point p.
unfoldable pub rising : (ℕ → List ℕ) → ℕ → ℕ → List ℕ
rising f p zero = []
rising f p (suc n) = f p ++ rising f (suc p) n

-- "per enrolled point": its marked cells as periods, with their holders and the sums of their days' volumes, and its
-- registered advances.
unfoldable pub book_listing : Opening → List Call → List ℕ
book_listing o calls = rising (λ p. with_total p (book_periods o calls p) (book_advance o calls p)) 1 32

abbrev pub ListingByBook : Type 0
ListingByBook =
    (o : Opening) → is_accepted (opening_answer o) ≡ true → (calls : List Call) → listing (register o calls) ≡
    book_listing o calls
