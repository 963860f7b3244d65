-- 01, Message lines: the kinds of lines, one row for each. Definitions only.
use Rattle.std.specs.Prelude.{ℕ, List, [], ◌∷◌}
use Rattle.line_text.specs.Ascii.{ascii}
use Rattle.line_fields.specs.declared.{Shape.Shape}
use Rattle.line_fields.specs.Between.Shapes.{shape}
use Rattle.line_kinds.specs.declared.{Kind.Kind}

-- The kinds that a line can have.
abbrev pub kinds : List Kind
kinds =
    Kind.Set ∷ Kind.Ctr ∷ Kind.Def ∷ Kind.Enr ∷ Kind.Demmespc ∷ Kind.I ∷ Kind.Demcf ∷ Kind.Adc ∷ Kind.Ri ∷ Kind.Cdt ∷
    Kind.Demmhs ∷ Kind.Sus ∷ Kind.Jour ∷ []

-- A kind's row: its word, and the fields behind it: how many, and which of them is a date beside today, the first; 0
-- where none is.
pub record Row : Type 0 where
  pub word : List ℕ
  pub shape : Shape

abbrev pub row : List ℕ → ℕ → ℕ → Row
row w count second = record { word = w; shape = shape count second }

-- 01: "`ctr`, `def`, `enr` .., `jour`; `set` opens", and "Number 31 prints `?` as its kind."
-- Only the words need be believed: `OneLine` of line_messages pins the fields.
abbrev pub row_of : Kind → Row
row_of Kind.Set = row (ascii "set") 6 0
row_of Kind.Ctr = row (ascii "ctr") 2 0
row_of Kind.Def = row (ascii "def") 2 0
row_of Kind.Enr = row (ascii "enr") 7 0
row_of Kind.Demmespc = row (ascii "demmespc") 4 0
row_of Kind.I = row (ascii "i") 3 0
row_of Kind.Demcf = row (ascii "demcf") 5 4
row_of Kind.Adc = row (ascii "adc") 3 0
row_of Kind.Ri = row (ascii "ri") 5 2
row_of Kind.Cdt = row (ascii "cdt") 9 0
row_of Kind.Demmhs = row (ascii "demmhs") 2 0
row_of Kind.Sus = row (ascii "sus") 3 0
row_of Kind.Jour = row (ascii "jour") 1 0
row_of Kind.Unknown = row (ascii "?") 0 0

-- A kind's word, and its fields.
abbrev pub word : Kind → List ℕ
word k = (row_of k).word

abbrev pub shape_of : Kind → Shape
shape_of k = (row_of k).shape
