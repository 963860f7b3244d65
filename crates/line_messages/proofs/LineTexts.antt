-- What a line says, from what its parts say.
use Rattle.std.specs.Prelude.{Result, Ok, Err}
use Rattle.basics.proofs.Basics.{◌≡◌, sym, ◌∙◌, ap, cond, List, [], ◌≤◌, ℕ, ◌-◌, ◌<◌, length, drop, take}
use Rattle.basics.proofs.Basics.{drop_of_length-le, drop-cons, le-leb}
use Rattle.line_text.specs.Longest.{longest_line}
use Rattle.line_fields.specs.declared.{KnownDate.KnownDate, Shape.Shape}
use Rattle.line_fields.specs.Between.Known.{IsKnown}
use Rattle.line_fields.specs.Between.Shapes.{most_fields, sorts_of}
use Rattle.line_fields.specs.Pinned.Reading.{values, unread, fields_of}
use Rattle.line_fields.specs.Between.With.{AllWith, fields_in_with, ReadsFields}
use Rattle.line_fields.proofs.FieldSteps.{fields_are}
use Rattle.line_fields.proofs.FieldsRead.{fields_read, fields_all, fields_not}
use Rattle.line_kinds.specs.declared.{Kind.Kind}
use Rattle.line_kinds.specs.Kinds.{shape_of}
use Rattle.line_kinds.specs.Pinned.Naming.{kind_named}
use Rattle.line_kinds.proofs.KindTable.{sound}
use Rattle.line_messages.specs.declared.{Message.Message, LineMessage.LineMessage}
use Rattle.line_messages.specs.Lines.{kind_of, Said}
use Rattle.line_messages.specs.Pinned.Messages.{message_of}
use Rattle.line_messages.specs.Pinned.Reading.{word_end, message_with, read_line}
use Rattle.line_messages.specs.Between.Values.{line_message}
use Rattle.line_messages.proofs.Saying.{says, message_zeros}

-- a message of a kind has that kind
pub of_kind : (k : Kind) (v : List ℕ) (m : Message) → m ≡ message_of k v →
    ◌≡◌ {A = LineMessage} (record { kind = k; message = m }) (line_message m)
of_kind k v m e = let own : k ≡ kind_of m = sym (ap kind_of e ∙ ap (λ (s : Said). s.kind) (says k v)) in rw (← own)

-- what is read of a line's word and fields
module _ (l : List ℕ) (e : ℕ) (k : Kind) (shape : Shape) (then : KnownDate) (v : List ℕ) (r : Result ℕ ℕ) (last : KnownDate)
    (short : length l ≤ longest_line) (he : e ≡ word_end l) (hk : k ≡ kind_named (take e l)) (hs : shape ≡ shape_of k)
    (read : ReadsFields last shape e l then v r) (known : IsKnown last) where
  abbrev x : AllWith
  x = fields_in_with last shape (drop e l)

  line_is : read_line l ≡ message_with k (cond x.ok (values x.read x.rest) unread)
  unfolding read_line
  line_is = let all = ap (λ (q : Shape). fields_of (sorts_of q) [] (drop e l)) (sym hs) ∙
      sym (fields_are shape (drop e l) (rw hs (sound k).few)) ∙ fields_read last shape e l then v r read known in
      rw (le-leb (length l) longest_line short, ← he, ← hk, all)

  -- not all of its fields, text behind them, and none
  pub line_bad : (n : ℕ) → r ≡ Err n → line_message Message.Unreadable ≡ line_message (read_line l)
  line_bad n h = ap line_message (sym (line_is ∙ rw (fields_not last shape e l then v r read n h)))

  pub line_more : (n : ℕ) → r ≡ Ok n → n < length l → line_message Message.Unreadable ≡ line_message (read_line l)
  line_more n h less = let all = fields_all last shape e l then v r read n h in
      ap line_message (sym (line_is ∙ rw (all.0, ← all.1, drop-cons l n 0 less)))

  pub line_all : (n : ℕ) → r ≡ Ok n → length l ≤ n → (m : Message) → m ≡ message_of k v →
      ◌≡◌ {A = LineMessage} (record { kind = k; message = m }) (line_message (read_line l))
  line_all n h far m em = let all = fields_all last shape e l then v r read n h in
      let whole : read_line l ≡ message_of k x.read = line_is ∙ rw (all.0, ← all.1, drop_of_length-le l far) in
      let own = em ∙ ap (message_of k) read.values ∙ message_zeros k x.read (most_fields - length x.read) ∙ sym whole in
      of_kind k v m em ∙ ap line_message own
