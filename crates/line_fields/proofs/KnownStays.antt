-- A right known date changes nothing, and stays right: the statement `KnownStays`, proved.
use Rattle.basics.proofs.Basics.{◌≡◌, refl, List, [], ◌∷◌, ◌++◌, ℕ, eqb, leb, take, cases}
use Rattle.line_values.specs.Pinned.Words.{are_same}
use Rattle.line_values.specs.Pinned.Numbers.{Parsed, number, bad, number_of}
use Rattle.line_values.specs.Pinned.Days.{day_in}
use Rattle.line_fields.specs.declared.{KnownDate.KnownDate, Shape.Shape, Sort.Sort}
use Rattle.line_fields.specs.Between.Known.{packed, known_text, first_known, IsKnown}
use Rattle.line_fields.specs.Pinned.Reading.{AllParsed, unread, value_of, field_of, and_then, fields_of, fields_in}
use Rattle.line_fields.specs.Between.Shapes.{most_fields, sorts_of}
use Rattle.line_fields.specs.Between.With.{ParsedWith, value, none, known_by, date_read, date_with, value_with, field_with}
use Rattle.line_fields.specs.Between.With.{AllWith, on_with, fields_with, fields_in_with, all_of}
use Rattle.line_fields.specs.Between.KnownStays.{KnownStays}
use Rattle.line_fields.proofs.KnownDates.{known_day, now_known, first_right}

-- read as x says, and a right date is known then
abbrev ReadAs : ParsedWith → Parsed → Type 0
ReadAs (value n r k) x = (x ≡ number n r) × IsKnown k
ReadAs none x = x ≡ bad

number_as : (k : KnownDate) (x : Parsed) → IsKnown k → ReadAs (known_by (λ n. k) x) x
number_as k (number n r) h = (refl, h)
number_as k bad h = refl

date_as : (l : List ℕ) (x : Parsed) → day_in l ≡ x → ReadAs (date_read (packed (take 8 l)) x) x
date_as l (number n r) e = (refl, now_known n l r e)
date_as l bad e = refl

value_as : (k : KnownDate) (s : Sort) (l : List ℕ) → IsKnown k → ReadAs (value_with k s l) (value_of s l)
unfolding date_with
value_as k Sort.Date l h = cases (are_same (take 8 l) (known_text k)) (λ e. rw e (known_day k l h e, h)) (λ e. rw e (date_as l (day_in l) refl))
value_as k Sort.Number l h = number_as k (number_of l) h

field_as : (k : KnownDate) (s : Sort) (l : List ℕ) → IsKnown k → ReadAs (field_with k s l) (field_of s l)
unfolding field_with field_of
field_as k s [] h = refl
field_as k s (c ∷ l) h = cases (eqb c 59) (λ e. rw e (value_as k s l h)) (λ e. rw e)

-- fields
abbrev AllAs : AllWith → AllParsed → Type 0
AllAs x v = (all_of x ≡ v) × IsKnown x.known

then_as : (x : ParsedWith) (y : Parsed) (z : AllWith) (f : ℕ → List ℕ → KnownDate → AllWith) (g : ℕ → List ℕ → AllParsed) →
    ReadAs x y → AllAs z unread → ((n : ℕ) (r : List ℕ) (d : KnownDate) → IsKnown d → AllAs (f n r d) (g n r)) →
    AllAs (on_with x z f) (and_then y g)
then_as (value n r d) y z f g e h w = rw e.0 (w n r d e.1)
then_as none y z f g e h w = rw e h

fields_as : (k : KnownDate) (ss : List Sort) (acc l : List ℕ) → IsKnown k → AllAs (fields_with k ss acc l) (fields_of ss acc l)
unfolding fields_with fields_of
fields_as k [] acc l h = (refl, h)
fields_as k (s ∷ ss) acc l h = then_as (field_with k s l) (field_of s l) _ _ _ (field_as k s l h) (refl, h)
    (λ n r d hd. fields_as d ss (acc ++ (n ∷ [])) r hd)

all_as : (k : KnownDate) (s : Shape) (l : List ℕ) → IsKnown k → AllAs (fields_in_with k s l) (fields_in s l)
unfolding fields_in_with fields_in
all_as k s l h = cases (leb s.count most_fields) (λ e. rw e (fields_as k (sorts_of s) [] l h)) (λ e. rw e (refl, h))

pub known_stays : KnownStays
known_stays = record { first = first_right; same = λ k s l h. (all_as k s l h).0; right = λ k s l h. (all_as k s l h).1 }

pub first_is_known : (k : KnownDate) → k ≡ first_known → IsKnown k
first_is_known k e = rw e known_stays.first
