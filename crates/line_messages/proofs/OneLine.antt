-- Each call and each opening has one line, and each line at most one meaning: the statement `OneLine`, proved.
use Rattle.basics.proofs.Basics.{◌≡◌, refl, sym, ◌∙◌, ap, true, List, [], ◌∷◌, ◌++◌, append-nil, ◌≤◌, ℕ, ◌-◌, arith}
use Rattle.basics.proofs.Basics.{leb, length, drop, take, length-append, take-append-drop, take_at, drop_at, le-leb}
use Rattle.basics.proofs.Basics.{cases}
use Rattle.line_text.specs.Longest.{longest_line}
use Rattle.line_fields.specs.Fields.{fields_text, fit_all}
use Rattle.line_fields.specs.Between.Shapes.{most_fields, sorts_of, fields_as, sorts_in, values_in}
use Rattle.line_fields.specs.Pinned.Reading.{AllParsed, values, unread, fields_of}
use Rattle.line_fields.proofs.FieldTexts.{fields_back, FieldsAre, fields_only, fields_short, sorts_as, fields_of_values, fields_zeros}
use Rattle.line_kinds.specs.declared.{Kind.Kind}
use Rattle.line_kinds.specs.Kinds.{kinds, word, shape_of}
use Rattle.line_kinds.specs.Pinned.Naming.{kind_named}
use Rattle.line_kinds.proofs.KindTable.{sound}
use Rattle.line_kinds.proofs.Naming.{NamedBy, named, unnamed, found}
use Rattle.line_messages.specs.declared.{Message.Message}
use Rattle.line_messages.specs.Lines.{Said, said, line, kind_of, line_of}
use Rattle.line_messages.specs.Writing.{is_writable, text_of}
use Rattle.line_messages.specs.Pinned.Messages.{message_of}
use Rattle.line_messages.specs.Pinned.Reading.{word_end, message_with, read_line}
use Rattle.line_messages.specs.Between.Values.{values_of}
use Rattle.line_messages.specs.OneLine.{OneLine}
use Rattle.line_messages.proofs.Saying.{says, said_back}
use Rattle.line_messages.proofs.WordEnds.{word_ends, fields_begin}

-- a writable message's fields fit, and a message whose fields fit is writable unless it is Unreadable
pub writable_fit : (m : Message) → is_writable m ≡ true → fit_all (said m).fields ≡ true
unfolding is_writable fit_all
writable_fit (Message.Open o) h = h
writable_fit (Message.Ask c) h = h
writable_fit Message.Unreadable h = refl

pub writable_is : (m : Message) → (m ≡ Message.Unreadable → ⊥) → is_writable m ≡ fit_all (said m).fields
unfolding is_writable
writable_is (Message.Open o) n = refl
writable_is (Message.Ask c) n = refl
writable_is Message.Unreadable n = absurd (n refl)

-- a message, by its kind and fields
module _ (m : Message) where
  -- its fields are those of its kind
  said_own : said m ≡ line (kind_of m) (fields_as (shape_of (kind_of m)) (values_in (said m).fields))
  said_own = ap said (sym (said_back m)) ∙ says (kind_of m) (values_in (said m).fields)

  -- also with zeros behind their values
  pub fields_own : fields_as (shape_of (kind_of m)) (values_of (said m)).values ≡ (said m).fields
  fields_own = let vs = values_in (said m).fields in
      fields_zeros _ 0 _ vs (most_fields - length vs) ∙ sym (ap (λ (s : Said). s.fields) said_own)

  pub sorts_own : sorts_in (said m).fields ≡ sorts_of (shape_of (kind_of m))
  sorts_own = ap (λ (s : Said). sorts_in s.fields) said_own ∙ sorts_as _ 0 _ _

  pub line_short : fit_all (said m).fields ≡ true → length (line_of m) ≤ 116
  line_short fit = let fields = rw sorts_own at (fields_short (said m).fields fit) in
      let sum = length-append (word (kind_of m)) (fields_text (said m).fields) in let small = (sound (kind_of m)).small in
      omega arith

  -- its line reads as it
  pub line_back : fit_all (said m).fields ≡ true → read_line (line_of m) ≡ m
  unfolding read_line
  line_back fit = let w = word (kind_of m) in let t = fields_text (said m).fields in
      let long : length (w ++ t) ≤ longest_line = let q = line_short fit in omega arith in rw (
        le-leb (length (w ++ t)) longest_line long,
        word_ends w t (sound (kind_of m)).one_word (fields_begin (said m).fields),
        take_at w t (length w) refl,
        drop_at w t (length w) refl,
        (sound (kind_of m)).named,
        ← sorts_own,
        fields_back (said m).fields [] fit,
      ) (said_back m)

-- a line of a kind's word and of fields that were read is the line of its message
module _ (t F : List ℕ) (k : Kind) (vs : List ℕ) (e : t ≡ word k ++ F) (f : FieldsAre (sorts_of (shape_of k)) F [] [] vs) where
  pub said_is : said (message_of k vs) ≡ line k f.fields
  said_is = says k vs ∙ ap (λ (v : List ℕ). line k (fields_as (shape_of k) v)) f.all ∙
      ap (line k) (fields_of_values (shape_of k).second (shape_of k).count f.fields [] f.sorts)

  pub line_is : (t ≡ line_of (message_of k vs)) × (fit_all (said (message_of k vs)).fields ≡ true)
  line_is = let text = f.text ∙ append-nil (fields_text f.fields) in (
    e ∙ ap (◌++◌ (word k)) text ∙ ap (λ (s : Said). word s.kind ++ fields_text s.fields) (sym said_is),
    ap (λ (s : Said). fit_all s.fields) said_is ∙ f.fit,
  )

-- a line that is read as a message that is not Unreadable is that message's line
line_was : (l : List ℕ) (m : Message) → read_line l ≡ m → (m ≡ Message.Unreadable → ⊥) → (l ≡ line_of m) × (is_writable m ≡ true)
unfolding read_line
line_was l m e n = cases (leb (length l) longest_line)
    (λ q. kind (kind_named (take (word_end l) l)) (found kinds (take (word_end l) l)) _ refl (rw q at e)) (λ q. absurd (n (sym (rw q at e)))) where
      kind : (k : Kind) → NamedBy (take (word_end l) l) k → (x : AllParsed) →
          fields_of (sorts_of (shape_of k)) [] (drop (word_end l) l) ≡ x →
          message_with k x ≡ m → (l ≡ line_of m) × (is_writable m ≡ true)
      kind k f unread p w = absurd (n (sym w))
      kind k f (values vs (c ∷ r)) p w = absurd (n (sym w))
      kind k unnamed (values vs []) p w = absurd (n (sym w))
      kind k (named q) (values vs []) p w =
          let whole = sym (take-append-drop (word_end l) l) ∙ ap (λ (x : List ℕ). x ++ drop (word_end l) l) q in
          let own = line_is l (drop (word_end l) l) k vs whole (fields_only (sorts_of (shape_of k)) [] (drop (word_end l) l) vs [] p) in
          (own.0 ∙ ap line_of w, writable_is m n ∙ ap (λ (x : Message). fit_all (said x).fields) (sym w) ∙ own.1)

-- a writable message
module _ (m : Message) (fit : is_writable m ≡ true) where
  pub its_text : text_of m ≡ line_of m
  unfolding text_of
  its_text = rw fit

  its_back : read_line (text_of m) ≡ m
  its_back = ap read_line its_text ∙ line_back m (writable_fit m fit)

text_was : (l : List ℕ) (m : Message) → read_line l ≡ m → (m ≡ Message.Unreadable → ⊥) → (l ≡ text_of m) × (is_writable m ≡ true)
text_was l m e n = let w = line_was l m e n in (w.0 ∙ sym (its_text m w.1), w.1)

pub text_short : (m : Message) → length (text_of m) ≤ 116
unfolding text_of
text_short m = cases (is_writable m) (λ e. rw e (line_short m (writable_fit m e))) (λ e. rw e (omega arith))

others : (l : List ℕ) → ((m : Message) → is_writable m ≡ true → l ≡ text_of m → ⊥) → read_line l ≡ Message.Unreadable
others l never = go (read_line l) refl where
  not_this : (m : Message) → read_line l ≡ m → (m ≡ Message.Unreadable → ⊥) → ⊥
  not_this m e n = let w = text_was l m e n in never m w.1 w.0

  go : (m : Message) → read_line l ≡ m → m ≡ Message.Unreadable
  go (Message.Open o) e = absurd (not_this (Message.Open o) e (λ q. let z : ◌≡◌ {A = ℕ} 0 1 = cc in omega arith))
  go (Message.Ask c) e = absurd (not_this (Message.Ask c) e (λ q. let z : ◌≡◌ {A = ℕ} 0 1 = cc in omega arith))
  go Message.Unreadable e = refl

pub one_line : OneLine
one_line =
    record {
      written = its_text;
      reads_back = its_back;
      was_written = text_was;
      others_unreadable = others;
      one_text = λ l₁ l₂ m e f n. (text_was l₁ m e n).0 ∙ sym (text_was l₂ m f n).0;
      one_message = λ m₁ m₂ h₁ h₂ e. sym (its_back m₁ h₁) ∙ ap read_line e ∙ its_back m₂ h₂;
      short = text_short;
    }
