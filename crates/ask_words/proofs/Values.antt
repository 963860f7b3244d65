-- A word has a value where it is read to its end.
use Rattle.std.specs.Prelude.{Some, None}
use Rattle.basics.proofs.Basics.{◌≡◌, refl, List, [], ◌∷◌, ◌≤◌, ℕ, ◌-◌, ◌+◌, ◌<◌, arith, length, lt-ltb, le-ltb}
use Rattle.line_values.specs.Pinned.Numbers.{Parsed, number, bad}
use Rattle.line_values.specs.Between.Places.{found_at}
use Rattle.line_values.proofs.Places.{ends_short, Leaves}
use Rattle.ask_words.specs.Asked.{value_of}
use Rattle.ask_words.specs.Between.Whole.{whole_of}

-- what was read of a word, where more follows it and where nothing does
pub whole_more : (len v next : ℕ) → next < len → whole_of len (Some (v, next)) ≡ None
whole_more len v next h = rw (lt-ltb next len h)

pub whole_all : (len v next : ℕ) → len ≤ next → whole_of len (Some (v, next)) ≡ Some v
whole_all len v next h = rw (le-ltb next len h)

pub whole_value : (w : List ℕ) (x : Parsed) → Leaves w x → whole_of (length w) (found_at 0 w x) ≡ value_of x
whole_value w (number v []) e = whole_all (length w) v (0 + (length w - 0)) (omega arith)
whole_value w (number v (c ∷ r)) e = let short = ends_short w (c ∷ r) e in
    whole_more (length w) v (0 + (length w - length (c ∷ r))) (omega arith)
whole_value w bad e = refl
