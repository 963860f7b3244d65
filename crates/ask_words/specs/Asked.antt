-- What the words behind `ask` ask for: `holder P DATE`, `period P N`, `advance P`, `view S P N`, `working DATE DATE`,
-- `all`. Definitions only.
use Rattle.std.specs.Prelude.{ℕ, suc, cond, List, [], ◌∷◌, ◌++◌, eqb, length, Option, Some, None}
use Rattle.dates.specs.Dates.{last_day}
use Rattle.line_text.specs.Ascii.{ascii}
use Rattle.line_values.specs.Pinned.Words.{are_same}
use Rattle.line_values.specs.Pinned.Numbers.{Parsed, number, bad, number_of}
use Rattle.line_values.specs.Pinned.Days.{day_in}
use Rattle.ask_words.specs.declared.{Question.Question, Asked.Asked}

-- The value of a word: all of it is read.
abbrev pub value_of : Parsed → Option ℕ
value_of (number n []) = Some n
value_of (number n (c ∷ l)) = None
value_of bad = None

-- S, P and N are decimal as in message lines, DATE is aaaammjj, a date of the calendar.
unfoldable pub number_value : List ℕ → Option ℕ
number_value w = value_of (number_of w)

unfoldable pub date_value : List ℕ → Option ℕ
date_value w = value_of (day_in w)

-- 02, F-5: "days off the calendar .. give 22". A word of eight digits that is no date of the calendar stands for the
-- first day off it.
abbrev pub or_off : Option ℕ → Option ℕ → Option ℕ
or_off (Some d) v = Some d
or_off None (Some n) = Some (suc last_day)
or_off None None = None

unfoldable pub any_date_value : List ℕ → Option ℕ
any_date_value w = or_off (date_value w) (cond (eqb (length w) 8) (number_value w) None)

abbrev pub advance_asked : Option ℕ → Option Asked
advance_asked (Some p) = Some (Asked.One (Question.Advance p))
advance_asked None = None

-- What two values ask for; nothing where one of them is none.
abbrev pub both : (ℕ → ℕ → Asked) → Option ℕ → Option ℕ → Option Asked
both f (Some a) (Some b) = Some (f a b)
both f (Some a) None = None
both f None v = None

abbrev pub holder_asked : Option ℕ → Option ℕ → Option Asked
holder_asked = both (λ p d. Asked.One (Question.Holder p d))

abbrev pub period_asked : Option ℕ → Option ℕ → Option Asked
period_asked = both (λ p n. Asked.One (Question.Period p n))

-- 02, F-6: "A supplier names itself, a point and n"
abbrev pub view_asked : Option ℕ → Option ℕ → Option ℕ → Option Asked
view_asked (Some s) v w = both (λ p n. Asked.One (Question.View s p n)) v w
view_asked None v w = None

abbrev pub working_asked : Option ℕ → Option ℕ → Option Asked
working_asked = both (λ a b. Asked.Working a b)

-- One word, two, three, four.
unfoldable pub by_one : List ℕ → Option Asked
by_one w = cond (are_same w (ascii "all")) (Some Asked.All) None

unfoldable pub by_two : List ℕ → List ℕ → Option Asked
by_two w a = cond (are_same w (ascii "advance")) (advance_asked (number_value a)) None

unfoldable pub by_three : List ℕ → List ℕ → List ℕ → Option Asked
by_three w a b =
    cond (are_same w (ascii "holder")) (holder_asked (number_value a) (date_value b))
    (cond (are_same w (ascii "period")) (period_asked (number_value a) (number_value b))
    (cond (are_same w (ascii "working")) (working_asked (any_date_value a) (any_date_value b)) None))

unfoldable pub by_four : List ℕ → List ℕ → List ℕ → List ℕ → Option Asked
by_four w a b c = cond (are_same w (ascii "view")) (view_asked (number_value a) (number_value b) (number_value c)) None

-- What n words ask for, of which w, a, b and c are the first four; none where they ask for nothing that there is.
unfoldable pub asked_by : ℕ → List ℕ → List ℕ → List ℕ → List ℕ → Option Asked
asked_by n w a b c =
    cond (eqb n 1) (by_one w)
    (cond (eqb n 2) (by_two w a) (cond (eqb n 3) (by_three w a b) (cond (eqb n 4) (by_four w a b c) None)))

-- What is written for other words, and where no register is open.
unfoldable pub usage : List ℕ
usage =
    ascii "usage: ask holder P DATE | ask period P N | ask advance P | ask view S P N | ask working DATE DATE | ask all"
    ++ (10 ∷ [])

unfoldable pub unopened : List ℕ
unopened = ascii "unopened" ++ (10 ∷ [])
