-- The table of kinds, kind by kind.
use Rattle.basics.proofs.Basics.{◌≡◌, refl, true, Bool, ◌&&◌, not, List, [], ◌∷◌, ◌≤◌, ℕ, ◌+◌, eqb, lit≤}
use Rattle.basics.proofs.Basics.{length}
use Rattle.line_values.specs.Pinned.Words.{are_same}
use Rattle.line_fields.specs.Between.Shapes.{most_fields, sorts_from, sorts_of}
use Rattle.line_fields.proofs.FieldTexts.{widths}
use Rattle.line_kinds.specs.declared.{Kind.Kind}
use Rattle.line_kinds.specs.Kinds.{word, shape_of}
use Rattle.line_kinds.specs.Pinned.Naming.{kind_in, kind_named}

-- a byte that does not stand in a text
abbrev pub lacks : ℕ → List ℕ → Bool
lacks b [] = true
lacks b (c ∷ l) = not (eqb c b) && lacks b l

-- What holds of a kind's row: its word names it and has no `;` and no line feed; its sizes, for any fields that fit.
pub record Sound (k : Kind) : Type 0 where
  pub named : kind_named (word k) ≡ k
  pub one_word : lacks 59 (word k) ≡ true
  pub in_line : lacks 10 (word k) ≡ true
  pub few : (shape_of k).count ≤ most_fields
  pub short : length (word k) ≤ 8
  pub small : length (word k) + widths (sorts_of (shape_of k)) ≤ 116

pub sound : (k : Kind) → Sound k
unfolding sorts_from kind_in are_same
sound Kind.Set = record { named = refl; one_word = refl; in_line = refl; few = lit≤ tt; short = lit≤ tt; small = lit≤ tt }
sound Kind.Ctr = record { named = refl; one_word = refl; in_line = refl; few = lit≤ tt; short = lit≤ tt; small = lit≤ tt }
sound Kind.Def = record { named = refl; one_word = refl; in_line = refl; few = lit≤ tt; short = lit≤ tt; small = lit≤ tt }
sound Kind.Enr = record { named = refl; one_word = refl; in_line = refl; few = lit≤ tt; short = lit≤ tt; small = lit≤ tt }
sound Kind.Demmespc = record { named = refl; one_word = refl; in_line = refl; few = lit≤ tt; short = lit≤ tt; small = lit≤ tt }
sound Kind.I = record { named = refl; one_word = refl; in_line = refl; few = lit≤ tt; short = lit≤ tt; small = lit≤ tt }
sound Kind.Demcf = record { named = refl; one_word = refl; in_line = refl; few = lit≤ tt; short = lit≤ tt; small = lit≤ tt }
sound Kind.Adc = record { named = refl; one_word = refl; in_line = refl; few = lit≤ tt; short = lit≤ tt; small = lit≤ tt }
sound Kind.Ri = record { named = refl; one_word = refl; in_line = refl; few = lit≤ tt; short = lit≤ tt; small = lit≤ tt }
sound Kind.Cdt = record { named = refl; one_word = refl; in_line = refl; few = lit≤ tt; short = lit≤ tt; small = lit≤ tt }
sound Kind.Demmhs = record { named = refl; one_word = refl; in_line = refl; few = lit≤ tt; short = lit≤ tt; small = lit≤ tt }
sound Kind.Sus = record { named = refl; one_word = refl; in_line = refl; few = lit≤ tt; short = lit≤ tt; small = lit≤ tt }
sound Kind.Jour = record { named = refl; one_word = refl; in_line = refl; few = lit≤ tt; short = lit≤ tt; small = lit≤ tt }
sound Kind.Unknown = record { named = refl; one_word = refl; in_line = refl; few = lit≤ tt; short = lit≤ tt; small = lit≤ tt }
