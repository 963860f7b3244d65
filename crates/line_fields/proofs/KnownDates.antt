-- A date whose bytes are those of the known one is the known one, and a date that was read is known from then on.
use Rattle.std.specs.Prelude.{Option, Some, None}
use Rattle.std.specs.Int.{from_le_bytes, w64}
use Rattle.basics.proofs.Basics.{◌≡◌, refl, sym, ◌∙◌, ap, true, List, [], ◌∷◌, ◌++◌, ◌≤◌, ℕ, ◌-◌, ◌+◌, ◌<◌, suc, zero}
use Rattle.basics.proofs.Basics.{◌*◌, ◌^◌, ◌/◌, ◌%◌, arith, length, drop, take, get_or, length-append, length-drop}
use Rattle.basics.proofs.Basics.{take-append-drop, length-take, length-take-le, take_at, get_or-drop}
use Rattle.basics.proofs.Basics.{cases, drop_of_length-le, take-length}
use Rattle.dates.specs.declared.{Date.Date}
use Rattle.dates.specs.Dates.{date_of}
use Rattle.dates.specs.Numbers.{date_answer}
use Rattle.line_text.specs.Decimal.{fixed}
use Rattle.line_text.specs.Days.{answer_text, day_text}
use Rattle.line_text.proofs.DayTexts.{day_append, day_length}
use Rattle.line_values.specs.Pinned.Words.{are_same}
use Rattle.line_values.specs.Pinned.Numbers.{Parsed, number, bad}
use Rattle.line_values.specs.Pinned.Days.{day_in}
use Rattle.line_values.proofs.Days.{day_back, day_only}
use Rattle.line_values.proofs.Steps.{cons_at, other_length, same_words, same_self}
use Rattle.line_fields.specs.declared.{KnownDate.KnownDate}
use Rattle.line_fields.specs.Between.Known.{packed, unpacked, known_text, first_known, IsKnown}
use Rattle.line_fields.specs.Between.With.{none, date_read, date_with, found_with, known_with}

-- each is a byte
abbrev pub AreBytes : List ℕ → Type 0
AreBytes [] = Unit {0}
AreBytes (c ∷ l) = (c < 256) × AreBytes l

pub take_bytes : (n : ℕ) (l : List ℕ) → ((i : ℕ) → get_or l i 0 < 256) → AreBytes (take n l)
take_bytes zero l h = tt
take_bytes (suc n) [] h = tt
take_bytes (suc n) (c ∷ l) h = (h 0, take_bytes n l (λ i. h (suc i)))

-- bytes as a number, and the bytes of a number
unpack_packed : (l : List ℕ) → AreBytes l → unpacked (length l) (packed l) ≡ l
unfolding unpacked
unpack_packed [] h = refl
unpack_packed (c ∷ l) h = let small = h.0 in let first : (c + 256 * packed l) % 256 ≡ c = omega arith in
    let rest : (c + 256 * packed l) / 256 ≡ packed l = omega arith in
    rw (first, rest) (ap (◌∷◌ c) (unpack_packed l h.1))

pack_unpacked : (n b : ℕ) → b < 256 ^ n → packed (unpacked n b) ≡ b
unfolding unpacked
pack_unpacked zero b h = omega arith
pack_unpacked (suc n) b h = let rest = pack_unpacked n (b / 256) (omega arith) in omega arith

unpacked_length : (n b : ℕ) → length (unpacked n b) ≡ n
unfolding unpacked
unpacked_length zero b = refl
unpacked_length (suc n) b = ap suc (unpacked_length n (b / 256))

eight_unpacked : (l : List ℕ) → AreBytes l → length l ≡ 8 → unpacked 8 (packed l) ≡ l
eight_unpacked l b h = ap (λ (n : ℕ). unpacked n (packed l)) (sym h) ∙ unpack_packed l b

-- digits are bytes
fixed_bytes : (k n : ℕ) (l : List ℕ) → AreBytes l → AreBytes (fixed k n l)
unfolding fixed
fixed_bytes zero n l h = h
fixed_bytes (suc k) n l h = fixed_bytes k (n / 10) ((48 + n % 10) ∷ l) (omega arith, h)

day_bytes : (n : ℕ) → AreBytes (day_text n [])
day_bytes n = go (date_answer n) where
  go : (a : Option Date) → AreBytes (answer_text a [])
  go (Some x) = fixed_bytes 4 x.year _ (fixed_bytes 2 x.month _ (fixed_bytes 2 x.day [] tt))
  go None = fixed_bytes 8 0 [] tt

-- the known date is read where its bytes stand
pub known_day : (k : KnownDate) (l : List ℕ) → IsKnown k → are_same (take 8 l) (known_text k) ≡ true →
    day_in l ≡ number k.day (drop 8 l)
known_day k l h e = let same = same_words (take 8 l) (known_text k) e ∙ h.text in
    let whole : l ≡ day_text k.day (drop 8 l) =
    sym (take-append-drop 8 l) ∙ ap (λ (t : List ℕ). t ++ drop 8 l) same ∙ sym (day_append k.day (drop 8 l)) in
    ap day_in whole ∙ day_back k.day (drop 8 l) h.inside

-- a date that was read
pub now_known : (n : ℕ) (l r : List ℕ) → day_in l ≡ number n r → IsKnown (record { bytes = packed (take 8 l); day = n })
now_known n l r e = let w = day_only n l r e in let text : take 8 l ≡ day_text n [] =
    ap (take 8) (w.0 ∙ day_append n r) ∙ take_at (day_text n []) r 8 (day_length n) in
    record {
      inside = w.1;
      text = ap (λ (t : List ℕ). unpacked 8 (packed t)) text ∙ eight_unpacked (day_text n []) (day_bytes n) (day_length n);
    }

-- the first one
pub first_right : IsKnown first_known
unfolding date_of date_answer fixed unpacked
first_right = record { inside = omega arith; text = refl }

-- a text of fewer than eight bytes begins with no date
day_short : (l : List ℕ) → length l < 8 → day_in l ≡ bad
day_short l h = go (day_in l) refl where
  go : (x : Parsed) → day_in l ≡ x → day_in l ≡ bad
  go bad e = e
  go (number n r) e = let long = ap length ((day_only n l r e).0 ∙ day_append n r) ∙ length-append (day_text n []) r in
      let eight = day_length n in absurd (omega arith)

-- a date read with a known one: too short, the known one, another
module _ (k : KnownDate) (l : List ℕ) where
  pub date_short : length l < 8 → date_with k l ≡ none
  unfolding date_with
  date_short h = let few = length-take 8 l in let eight = unpacked_length 8 k.bytes in
      rw (other_length (take 8 l) (known_text k) (λ e. omega arith), day_short l h)

  -- by its bytes it is the known one
  date_is : AreBytes (take 8 l) → 8 ≤ length l → packed (take 8 l) ≡ k.bytes → are_same (take 8 l) (known_text k) ≡ true
  date_is b long e = let text = ap (unpacked 8) (sym e) ∙ eight_unpacked (take 8 l) b (length-take-le 8 l long) in
      rw (text, same_self (take 8 l))

  pub date_same : (at : ℕ) → 8 ≤ length l → AreBytes (take 8 l) → packed (take 8 l) ≡ k.bytes →
      (found_with at l (date_with k l) ≡ Some (k.day, at + 8)) × (known_with k (date_with k l) ≡ k)
  unfolding date_with
  date_same at long b e = let left = length-drop 8 l in let end : at + (length l - length (drop 8 l)) ≡ at + 8 = omega arith in
      rw (date_is b long e) (rw end, refl)

  pub date_other : k.bytes < 256 ^ 8 → (packed (take 8 l) ≡ k.bytes → ⊥) →
      date_with k l ≡ date_read (packed (take 8 l)) (day_in l)
  unfolding date_with
  date_other small n = cases (are_same (take 8 l) (known_text k))
      (λ e. absurd (n (ap packed (same_words (take 8 l) (known_text k) e) ∙ pack_unpacked 8 k.bytes small))) (λ e. rw e)

-- eight bytes as one number
pub eight_packed : (l : List ℕ) → length l ≡ 8 → from_le_bytes w64 l ≡ packed l
eight_packed l h = let end : length l ≤ 8 = omega arith in let none : drop 8 l ≡ [] = drop_of_length-le l end in let all : l ≡ get_or l 0 0 ∷ get_or l 1 0 ∷ get_or l 2 0 ∷ get_or l 3 0 ∷
    get_or l 4 0 ∷ get_or l 5 0 ∷ get_or l 6 0 ∷ get_or l 7 0 ∷ [] =
    cons_at l 0 (omega arith) ∙ ap (◌∷◌ (get_or l 0 0)) (cons_at l 1 (omega arith) ∙ ap (◌∷◌ (get_or l 1 0))
    (cons_at l 2 (omega arith) ∙ ap (◌∷◌ (get_or l 2 0)) (cons_at l 3 (omega arith) ∙ ap (◌∷◌ (get_or l 3 0))
    (cons_at l 4 (omega arith) ∙ ap (◌∷◌ (get_or l 4 0)) (cons_at l 5 (omega arith) ∙ ap (◌∷◌ (get_or l 5 0))
    (cons_at l 6 (omega arith) ∙ ap (◌∷◌ (get_or l 6 0)) (cons_at l 7 (omega arith) ∙ ap (◌∷◌ (get_or l 7 0))
    none))))))) in
    omega (arith, ap packed all)

-- the eight bytes at a position, as the code takes them
pub eight_at : (s d t : List ℕ) (at b : ℕ) → d ≡ take (length s - at) (drop at s) → 8 ≤ length d → t ≡ take 8 d →
    b ≡ from_le_bytes w64 t → (8 ≤ length (drop at s)) × (b ≡ packed (take 8 (drop at s)))
eight_at s d t at b e long f g = let all : take (length s - at) (drop at s) ≡ drop at s = rw (← length-drop at s) (take-length (drop at s)) in
    let n : 8 ≤ length (drop at s) = rw (e ∙ all) at long in
    (n, g ∙ ap (from_le_bytes w64) (f ∙ ap (take 8) (e ∙ all)) ∙ eight_packed (take 8 (drop at s)) (length-take-le 8 (drop at s) n))

pub eight_bytes : (s : List ℕ) (at : ℕ) → ((i : ℕ) → get_or s i 0 < 256) → AreBytes (take 8 (drop at s))
eight_bytes s at h = take_bytes 8 (drop at s) (λ i. rw (get_or-drop at s i 0) (h (at + i)))
