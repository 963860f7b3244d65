-- The next line, read where it stands: a kind's word, its fields and then a line feed are the line of its message.
use Rattle.basics.proofs.Basics.{◌≡◌, refl, sym, ◌∙◌, ap, ap₂, true, false, Bool, cond, List, [], ◌∷◌, ◌++◌}
use Rattle.basics.proofs.Basics.{append_assoc, append-nil, ◌≤◌, ℕ, ◌+◌, ◌<◌, suc, arith, eqb, leb, length}
use Rattle.basics.proofs.Basics.{drop, take, get_or, length-append, length-drop, drop_of_length-le, take-append-drop}
use Rattle.basics.proofs.Basics.{drop-cons, take_at, take-length, eqb-true, cases}
use Rattle.basics.proofs.Basics.{◌||◌, ◌≤◌, ltb, ltb-false}
use Rattle.std.specs.Prelude.{position, ◌==◌}
use Rattle.std.specs.List.{position_or_len}
use Rattle.std.specs.Option.{unwrap_or}
use Rattle.std.proofs.Math.Numerals.{one-add}
use Rattle.std.proofs.lemmas.List.Recursion.{is_position_or_len}
use Rattle.line_text.specs.Longest.{longest_line}
use Rattle.line_values.specs.Pinned.Words.{are_same}
use Rattle.line_fields.specs.Pinned.Reading.{values, unread, fields_of}
use Rattle.line_fields.specs.Fields.{fields_text}
use Rattle.line_fields.specs.Between.Shapes.{sorts_from, sorts_of}
use Rattle.line_fields.specs.Between.Known.{IsKnown}
use Rattle.line_fields.specs.Between.With.{AllWith}
use Rattle.line_fields.specs.declared.{KnownDate.KnownDate}
use Rattle.line_fields.proofs.FieldSteps.{fields_are}
use Rattle.line_fields.proofs.FieldTexts.{FieldsAre, fields_only}
use Rattle.line_fields.proofs.KnownStays.{known_stays}
use Rattle.line_kinds.specs.declared.{Kind.Kind}
use Rattle.line_kinds.specs.Kinds.{kinds, word, shape_of}
use Rattle.line_kinds.specs.Pinned.Naming.{kind_in, kind_named}
use Rattle.line_kinds.proofs.KindTable.{sound}
use Rattle.line_kinds.proofs.Naming.{NamedBy, named, unnamed, found}
use Rattle.input_lines.specs.Between.Feeds.{until_feed}
use Rattle.line_messages.specs.declared.{Message.Message}
use Rattle.line_messages.specs.Between.Values.{line_message}
use Rattle.line_messages.specs.Pinned.Messages.{message_of}
use Rattle.line_messages.specs.Pinned.Reading.{word_end, read_line}
use Rattle.line_messages.proofs.OneLine.{line_is, line_back}
use Rattle.line_next.specs.declared.{NextLine.NextLine}
use Rattle.line_next.specs.Between.NextLine.{first_line, feed_first, stop_at, first_kind, first_fields, taken_by, next_line, IsNext, NextIsLine}
use Rattle.line_next.proofs.PlainTexts.{Plain, plain_end, plain_append, plain_fields, plain_word}

-- where a word ends: at the first `;` or line feed, or at the text's end
stop_le : (l : List ℕ) → stop_at l ≤ length l
unfolding stop_at
stop_le [] = omega arith
stop_le (c ∷ l) = let rest = stop_le l in
    cases (eqb c 59) (λ p. rw p (omega arith)) (λ p. cases (eqb c 10) (λ q. rw (p, q) (omega arith)) (λ q. rw (p, q) (omega arith)))

abbrev is_stop : ℕ → Bool
is_stop c = c == 59 || c == 10

stop_cons : (c : ℕ) (l : List ℕ) → stop_at (c ∷ l) ≡ cond (is_stop c) 0 (1 + stop_at l)
unfolding stop_at
stop_cons c l = rw (one-add (stop_at l)) (cases (eqb c 59) (λ p. rw p) (λ p. rw p))

pub stop_place : (l : List ℕ) → (unwrap_or (position (λ c. c == 59 || c == 10) l) (length l) ≡ stop_at l) × (stop_at l ≤ length l)
unfolding stop_at
stop_place l = let e : stop_at l ≡ position_or_len is_stop l = is_position_or_len stop_at is_stop refl stop_cons l in
    (cases (ltb (stop_at l) (length l)) (λ t. rw (← e, t)) (λ f. rw (← e, f) (omega (arith, stop_le l, ltb-false (stop_at l) (length l) f))), stop_le l)

-- a word before a line feed is the line
word_is_line : (l : List ℕ) → feed_first (drop (stop_at l) l) ≡ true → until_feed l ≡ stop_at l
unfolding stop_at until_feed
word_is_line [] e = refl
word_is_line (c ∷ l) e = cases (eqb c 59)
    (λ p. cases (eqb c 10) (λ q. rw (p, q))
    (λ q. absurd (let f : eqb c 10 ≡ true = rw p at e in let z : ◌≡◌ {A = ℕ} 0 1 = cc in omega arith)))
    (λ p. cases (eqb c 10) (λ q. rw (p, q)) (λ q. rw (p, q, word_is_line l (rw (p, q) at e))))

-- and it has no `;`
word_whole : (l : List ℕ) → word_end (take (stop_at l) l) ≡ length (take (stop_at l) l)
unfolding stop_at word_end
word_whole [] = refl
word_whole (c ∷ l) = cases (eqb c 59) (λ p. rw p)
    (λ p. cases (eqb c 10) (λ q. rw (p, q)) (λ q. rw (p, q, p) (ap suc (word_whole l))))

-- a text of one line, its line feed, and more
first_line_lem : (t r l : List ℕ) → Plain t → l ≡ t ++ r → feed_first r ≡ true →
    (first_line l ≡ t) × (length l ≡ until_feed l + length r)
first_line_lem t [] l p e h = absurd (let z : ◌≡◌ {A = ℕ} 0 1 = cc in omega arith)
first_line_lem t (c ∷ r) l p e h = let ten : c ≡ 10 = eqb-true c 10 h in
    let end : until_feed l ≡ length t = ap until_feed (e ∙ ap (λ (x : ℕ). t ++ (x ∷ r)) ten) ∙ plain_end t r p in
    let sum = ap length e ∙ length-append t (c ∷ r) in (rw (end, e) (take_at t (c ∷ r) (length t) refl), omega arith)

-- a word that names no kind is no line
no_line : (w : List ℕ) → word_end w ≡ length w → kind_named w ≡ Kind.Unknown → read_line w ≡ Message.Unreadable
unfolding read_line fields_of sorts_from
no_line w e u = rw (name, rest) (cases (leb (length w) longest_line) (λ q. rw q) (λ q. rw q)) where
  name : kind_named (take (word_end w) w) ≡ Kind.Unknown
  name = rw (e, take-length w) u

  rest : drop (word_end w) w ≡ []
  rest = let all : length w ≤ length w = omega arith in rw e (drop_of_length-le w all)

feed_some : (r : List ℕ) → feed_first r ≡ true → 0 < length r
feed_some [] h = absurd (let z : ◌≡◌ {A = ℕ} 0 1 = cc in omega arith)
feed_some (c ∷ r) h = omega arith

-- the line of a word, of fields and a line feed
module _ (l : List ℕ) (n : ℕ) (vs r : List ℕ) (hn : n ≡ stop_at l) (feed : feed_first r ≡ true) where
  fields_line : (k : Kind) → NamedBy (take n l) k → k ≡ kind_named (take n l) →
      fields_of (sorts_of (shape_of k)) [] (drop n l) ≡ values vs r →
      (read_line (first_line l) ≡ message_of k vs) × (length l ≡ until_feed l + length r)
  unfolding fields_of sorts_from
  fields_line k (named q) hk hf = let a = fields_only (sorts_of (shape_of k)) [] (drop n l) vs r hf in
      let T = fields_text a.fields in let whole : l ≡ (word k ++ T) ++ r =
      sym (take-append-drop n l) ∙ ap₂ ◌++◌ q a.text ∙ sym (append_assoc (word k) T r) in
      let plain = plain_append (word k) T (plain_word (word k) (sound k).in_line) (plain_fields a.fields) in
      let first = first_line_lem (word k ++ T) r l plain whole feed in
      let alone : FieldsAre (sorts_of (shape_of k)) T [] [] vs =
      record { fields = a.fields; sorts = a.sorts; all = a.all; text = sym (append-nil T); fit = a.fit } in
      let own = line_is (word k ++ T) T k vs refl alone in
      (ap read_line (first.0 ∙ own.0) ∙ line_back (message_of k vs) own.1, first.1)
  fields_line k unnamed hk hf = let rest : drop n l ≡ r = let read : values [] (drop n l) ≡ values vs r = hf in cc in
      let end = word_is_line l (rw (← hn, rest) feed) in let long = sym (ap length rest) ∙ length-drop n l in
      let some = feed_some r feed in let here = hn ∙ sym end in
      (rw end (no_line (take (stop_at l) l) (word_whole l) (rw (← hn) (sym hk))), omega arith)

-- with a right known date
pub empty_line : read_line [] ≡ Message.Unreadable
unfolding read_line word_end kind_in are_same fields_of sorts_from
empty_line = refl

module _ (k : KnownDate) (buf : List ℕ) (from : ℕ) (right : IsKnown k) where
  abbrev text : List ℕ
  text = drop from buf

  abbrev x : AllWith
  x = first_fields k text

  is_known : IsKnown x.known
  is_known = known_stays.right k (shape_of (first_kind text)) (drop (stop_at text) text) right

  -- its fields are those that are read without a known date
  fields_of_lem : x.ok ≡ true → fields_of (sorts_of (shape_of (first_kind text))) [] (drop (stop_at text) text) ≡ values x.read x.rest
  fields_of_lem e = sym (fields_are (shape_of (first_kind text)) (drop (stop_at text) text) (sound (first_kind text)).few) ∙
      sym (known_stays.same k (shape_of (first_kind text)) (drop (stop_at text) text) right) ∙
      ap (λ (b : Bool). cond b (values x.read x.rest) unread) e

  pub next_is : IsNext buf from (taken_by from text x)
  next_is = cases x.ok
      (λ p. cases (feed_first x.rest)
      (λ q. let w = fields_line text (stop_at text) x.read x.rest refl q (first_kind text) (found kinds (take (stop_at text) text)) refl (fields_of_lem p) in
      rw (p, q) (record { read = ap line_message (sym w.0); end = ap (λ (n : ℕ). from + n) (omega arith); known = is_known }))
      (λ q. rw (p, q) (record { read = refl; end = refl; known = is_known })))
      (λ p. rw p (record { read = refl; end = refl; known = is_known }))

pub next_is_line : NextIsLine
unfolding next_line
next_is_line k buf from right = next_is k buf from right

pub next_right : (k : KnownDate) (buf : List ℕ) (from : ℕ) (t : NextLine) → t ≡ next_line k buf from → IsKnown k → IsNext buf from t
next_right k buf from t e right = rw e (next_is_line k buf from right)
