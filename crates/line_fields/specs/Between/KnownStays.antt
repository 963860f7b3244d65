-- A right known date changes nothing, and what is known after it is right again. So nothing is lost where a program
-- begins with `first_known` and hands on what it gets. Definitions only: `known_stays` of proofs/ proves it.
use Rattle.std.specs.Prelude.{◌≡◌, List, ℕ}
use Rattle.line_fields.specs.declared.{KnownDate.KnownDate, Shape.Shape}
use Rattle.line_fields.specs.Between.Known.{first_known, IsKnown}
use Rattle.line_fields.specs.Pinned.Reading.{fields_in}
use Rattle.line_fields.specs.Between.With.{fields_in_with, all_of}

pub record KnownStays : Type 0 where
  pub first : IsKnown first_known
  -- the fields are read as without a known date
  pub same : (k : KnownDate) (s : Shape) (l : List ℕ) → IsKnown k → all_of (fields_in_with k s l) ≡ fields_in s l
  pub right : (k : KnownDate) (s : Shape) (l : List ℕ) → IsKnown k → IsKnown (fields_in_with k s l).known
