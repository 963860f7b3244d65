-- What is handed back: behind the buffer's end, by the fields, and by the line's end.
use Rattle.std.specs.Prelude.{Result, Ok, Err}
use Rattle.basics.proofs.Basics.{◌≡◌, refl, sym, ◌∙◌, ap, ap₂, true, false, ◌&&◌, List, [], ◌≤◌, ℕ, ◌-◌, ◌+◌, ◌<◌}
use Rattle.basics.proofs.Basics.{arith, length, drop, take, length-drop, drop_of_length-le, drop-drop}
use Rattle.line_values.specs.Pinned.Words.{are_same}
use Rattle.line_values.proofs.Places.{ends_short}
use Rattle.line_fields.specs.Between.Shapes.{most_fields, sorts_from}
use Rattle.line_fields.specs.Between.With.{AllWith, fields_with, fields_in_with, values_after, ReadsFields}
use Rattle.line_fields.specs.declared.{KnownDate.KnownDate, Shape.Shape}
use Rattle.line_fields.proofs.FieldsRead.{fields_in_rest, fields_all, fields_not}
use Rattle.line_kinds.specs.declared.{Kind.Kind}
use Rattle.line_kinds.specs.Pinned.Naming.{kind_in, kind_named}
use Rattle.line_kinds.specs.Kinds.{shape_of}
use Rattle.input_lines.specs.Between.Feeds.{until_feed}
use Rattle.line_messages.specs.declared.{Message.Message, LineMessage.LineMessage}
use Rattle.line_messages.specs.Between.Values.{line_message}
use Rattle.line_messages.specs.Pinned.Messages.{message_of}
use Rattle.line_messages.specs.Pinned.Reading.{read_line}
use Rattle.line_messages.proofs.LineTexts.{of_kind}
use Rattle.line_messages.proofs.Saying.{message_zeros}
use Rattle.line_next.specs.Between.NextLine.{feed_first, stop_at, first_kind, first_fields, taken, taken_by, next_line}
use Rattle.line_next.proofs.NextLines.{empty_line}

-- an empty text has no word, no fields, and is a line that cannot be read
taken_empty : (k : KnownDate) (from : ℕ) → taken (read_line []) (from + 0) k ≡ taken_by from [] (first_fields k [])
unfolding stop_at until_feed kind_in are_same fields_with sorts_from fields_in_with
taken_empty k from = refl

pub next_off : (k : KnownDate) (buf : List ℕ) (from : ℕ) → length buf < from → taken Message.Unreadable from k ≡ next_line k buf from
unfolding next_line
next_off k buf from h = let past : length buf ≤ from = omega arith in let here : from ≡ from + 0 = omega arith in
    ap₂ (λ (m : Message) (n : ℕ). taken m n k) (sym empty_line) here ∙ taken_empty k from ∙
    ap (λ (l : List ℕ). taken_by from l (first_fields k l)) (sym (drop_of_length-le buf past))

module _ (last : KnownDate) (buf : List ℕ) (from e : ℕ) (k : Kind) (shape : Shape) (then : KnownDate) (v : List ℕ) (r : Result ℕ ℕ)
    (he : e ≡ from + stop_at (drop from buf)) (inside : e ≤ length buf)
    (hk : k ≡ kind_named (take (e - from) (drop from buf))) (hs : shape ≡ shape_of k)
    (read : ReadsFields last shape e buf then v r) where
  abbrev x : AllWith
  x = first_fields last (drop from buf)

  kind_is : k ≡ first_kind (drop from buf)
  kind_is = let n : e - from ≡ stop_at (drop from buf) = omega arith in
      hk ∙ ap (λ (i : ℕ). kind_named (take i (drop from buf))) n

  fields_in_is : fields_in_with last shape (drop e buf) ≡ x
  fields_in_is = ap₂ (λ (q : Shape) (l : List ℕ). fields_in_with last q l) (hs ∙ ap shape_of kind_is)
      (ap (λ (i : ℕ). drop i buf) he ∙ sym (drop-drop (stop_at (drop from buf)) from buf))

  known_is : then ≡ x.known
  known_is = read.known ∙ ap (λ (y : AllWith). y.known) fields_in_is

  message_is : message_of k v ≡ message_of (first_kind (drop from buf)) x.read
  message_is = ap (message_of k) (read.values ∙ ap values_after fields_in_is) ∙
      message_zeros k x.read (most_fields - length x.read) ∙ ap (λ (j : Kind). message_of j x.read) kind_is

  -- all the fields are read, up to n
  module _ (n : ℕ) (all : r ≡ Ok n) where
    ok_is : x.ok ≡ true
    ok_is = sym (ap (λ (y : AllWith). y.ok) fields_in_is) ∙ (fields_all last shape e buf then v r read n all).0

    rest_is : drop n buf ≡ x.rest
    rest_is = (fields_all last shape e buf then v r read n all).1 ∙ ap (λ (y : AllWith). y.rest) fields_in_is

    end_is : n ≡ from + (length (drop from buf) - length x.rest)
    end_is = let there = (fields_all last shape e buf then v r read n all).2 in
        let short = ends_short (drop e buf) _ (fields_in_rest last shape (drop e buf)) in
        let rest = ap (λ (y : AllWith). length y.rest) fields_in_is in let long = length-drop e buf in
        let longer = length-drop from buf in omega arith

    pub next_by_fields : feed_first (drop n buf) ≡ true → (m : Message) → m ≡ message_of k v →
        record { read = record { kind = k; message = m }; end = n; known = then } ≡ next_line last buf from
    unfolding next_line
    next_by_fields feed m hm = let ends : feed_first x.rest ≡ true = ap feed_first (sym rest_is) ∙ feed in
        let own = of_kind k v m hm ∙ ap line_message (hm ∙ message_is) in
        rw (ok_is, ends, ← end_is, ← known_is) (ap (λ (y : LineMessage). record { read = y; end = n; known = then }) own)

    -- but no line feed follows them
    pub no_feed : feed_first (drop n buf) ≡ false → (x.ok && feed_first x.rest) ≡ false
    no_feed other = rw (ok_is, ← rest_is) other

  -- not all of them
  pub no_fields : (n : ℕ) → r ≡ Err n → (x.ok && feed_first x.rest) ≡ false
  no_fields n e' = let off = sym (ap (λ (y : AllWith). y.ok) fields_in_is) ∙ fields_not last shape e buf then v r read n e' in rw off

  pub next_by_end : (x.ok && feed_first x.rest) ≡ false → (m : LineMessage) (f : ℕ) →
      f ≡ from + until_feed (drop from buf) → m ≡ line_message (read_line (take (f - from) (drop from buf))) →
      record { read = m; end = f; known = then } ≡ next_line last buf from
  unfolding next_line
  next_by_end off m f hf hm = let n : f - from ≡ until_feed (drop from buf) = omega arith in
      rw (off, known_is, ← hf, ← n) (ap (λ (y : LineMessage). record { read = y; end = f; known = x.known }) hm)
