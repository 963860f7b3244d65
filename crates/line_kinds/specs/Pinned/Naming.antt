-- The kind that a word names. `OneLine` of line_messages pins it to the words. Definitions only.
use Rattle.std.specs.Prelude.{ℕ, cond, List, [], ◌∷◌, eqb, length}
use Rattle.line_values.specs.Pinned.Words.{are_same}
use Rattle.line_kinds.specs.declared.{Kind.Kind}
use Rattle.line_kinds.specs.Kinds.{kinds, word}

-- Those of them whose word has n letters.
abbrev pub of_length : ℕ → List Kind → List Kind
of_length n [] = []
of_length n (k ∷ ks) = cond (eqb (length (word k)) n) (k ∷ of_length n ks) (of_length n ks)

-- The first kind of a list that has this word.
unfoldable pub kind_in : List Kind → List ℕ → Kind
kind_in [] w = Kind.Unknown
kind_in (k ∷ ks) w = cond (are_same w (word k)) k (kind_in ks w)

-- The kind that a word names: a kind with that very word, or Unknown.
abbrev pub kind_named : List ℕ → Kind
kind_named w = kind_in kinds w
