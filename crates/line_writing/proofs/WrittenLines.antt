-- A line that is written, from what its parts say: its word, then its fields, in front of zeros.
use Rattle.basics.proofs.Basics.{◌≡◌, ◌∙◌, ap, true, List, ◌++◌, ◌≤◌, ℕ, ◌+◌, arith, length, replicate}
use Rattle.line_text.specs.Between.Appending.{Appended}
use Rattle.line_text.specs.Longest.{longest_line}
use Rattle.line_text.proofs.Appends.{Rest, rest_start, rest_next, zeros_put}
use Rattle.line_fields.specs.Fields.{fields_text}
use Rattle.line_fields.specs.Between.Shapes.{most_fields, fields_as}
use Rattle.line_fields.specs.declared.{Shape.Shape}
use Rattle.line_kinds.specs.Kinds.{word, shape_of}
use Rattle.line_kinds.proofs.KindTable.{sound}
use Rattle.line_messages.specs.declared.{Message.Message, Values.Values}
use Rattle.line_messages.specs.Lines.{said, line_of}
use Rattle.line_messages.specs.Writing.{is_writable}
use Rattle.line_messages.specs.Between.Values.{values_of}
use Rattle.line_messages.proofs.OneLine.{fields_own, line_short, writable_fit, its_text}
use Rattle.line_writing.specs.declared.{Line.Line}
use Rattle.line_writing.specs.Between.Written.{written_line}

abbrev blank : List ℕ
blank = replicate longest_line 0

-- the values of a message, and its kind's shape
module _ (m : Message) (p : Values) (shape : Shape) (hp : p ≡ values_of (said m)) (hs : shape ≡ shape_of p.kind) where
  pub few_values : shape.count ≤ most_fields
  few_values = rw hs (sound p.kind).few

  pub values_are : fields_as shape p.values ≡ (said m).fields
  values_are = rw (hs, hp) (fields_own m)

  module _ (fit : is_writable m ≡ true) (o₁ : List ℕ) (at : ℕ) (w : Appended 0 (word p.kind) blank o₁ at) where
    abbrev fields : List ℕ
    fields = fields_text (fields_as shape p.values)

    line_is : line_of m ≡ word p.kind ++ fields
    line_is = rw (values_are, hp)

    room : length (word p.kind ++ fields) ≤ longest_line
    room = let short = line_short m (writable_fit m fit) in omega (arith, ap length line_is)

    begun : Rest 0 (word p.kind ++ fields) blank at fields o₁
    begun = rest_next 0 _ blank 0 (word p.kind) fields blank at o₁ (rest_start 0 _ blank (omega (arith, room))) w

    -- there is room for the fields
    pub fields_room : (shape.count ≤ most_fields) × (at + length fields ≤ length o₁)
    fields_room = (few_values, omega (arith, begun.end, begun.long, begun.fits))

    -- and the line is what is written
    pub line_written : (o₂ : List ℕ) (r : ℕ) → Appended at fields o₁ o₂ r →
        ◌≡◌ {A = Line} (record { len = r; bytes = o₂ }) (written_line m)
    unfolding written_line
    line_written o₂ r v = let all = zeros_put longest_line (word p.kind) fields o₁ o₂ at r room w v in
        let text = its_text m fit ∙ line_is in rw (text, all.0, all.1)
