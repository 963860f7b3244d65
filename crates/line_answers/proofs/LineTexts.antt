-- The texts of answer and closing lines, as the writers put them piece by piece, and their lengths.
use Rattle.basics.proofs.Basics.{◌≡◌, ◌∙◌, ap, some, Option, none, List, [], ◌∷◌, ◌++◌, ◌≤◌, ℕ, ◌+◌, ◌<◌, ◌^◌, arith}
use Rattle.basics.proofs.Basics.{length, length-append}
use Rattle.rules.specs.declared.{Answer.Answer, Period.Period, Volume.Volume, NormalVolume.NormalVolume}
use Rattle.rules.specs.Answers.{is_accepted, number, date}
use Rattle.line_text.specs.Ascii.{ascii}
use Rattle.line_text.specs.Decimal.{decimal}
use Rattle.line_text.specs.Days.{day_text}
use Rattle.line_text.proofs.Spelling.{decimal_append, decimal_length}
use Rattle.line_text.proofs.Fixed.{fixed_append, fixed_length}
use Rattle.line_text.proofs.DayTexts.{day_append, day_length}
use Rattle.line_kinds.specs.declared.{Kind.Kind}
use Rattle.line_kinds.specs.Kinds.{word}
use Rattle.line_kinds.proofs.KindTable.{sound}
use Rattle.line_answers.specs.Answers.{shown_kind, verdict, date_shown, answer_line, volumes_shown, period_line, total_line}

-- a number of 64 bits has at most 20 digits
pub digits_few : (n : ℕ) → n < 2 ^ 64 → length (decimal n []) ≤ 20
digits_few n h = decimal_length 20 n (omega arith) (omega arith)

-- a date that is shown, or its zeros, has eight bytes
shown_append : (d : Option ℕ) (l : List ℕ) → date_shown d l ≡ date_shown d [] ++ l
shown_append none l = fixed_append 8 0 [] l
shown_append (some d) l = day_append d l

shown_length : (d : Option ℕ) → length (date_shown d []) ≡ 8
shown_length none = fixed_length 8 0 []
shown_length (some d) = day_length d

-- an answer line, piece by piece
module _ (k : Kind) (a : Answer) where
  abbrev pub answer_pieces : List ℕ
  answer_pieces = word (shown_kind k (number a)) ++ ((59 ∷ verdict (is_accepted a) ∷ 59 ∷ []) ++
      (decimal (number a) [] ++ ((59 ∷ []) ++ (date_shown (date a) [] ++ (10 ∷ [])))))

  pub answer_pieces_lem : answer_line k a ≡ answer_pieces
  unfolding answer_line
  answer_pieces_lem = ap (λ (l : List ℕ). word (shown_kind k (number a)) ++ (59 ∷ verdict (is_accepted a) ∷ 59 ∷ l))
      (decimal_append (number a) (59 ∷ date_shown (date a) (10 ∷ [])) ∙
      ap (λ (l : List ℕ). decimal (number a) [] ++ (59 ∷ l)) (shown_append (date a) (10 ∷ [])))

  pub answer_length : length (answer_line k a) ≡ length (word (shown_kind k (number a))) + length (decimal (number a) []) + 13
  answer_length = let pieces = ap length answer_pieces_lem in let date = shown_length (date a) in
      simp length-append at pieces ∙ omega arith

-- the length of an answer line, as the code adds it up
pub answer_size : (k : Kind) (a : Answer) (n : ℕ) (shown : Kind) (size : ℕ) → n ≡ number a → shown ≡ shown_kind k (number a) →
    size ≡ length (word shown) + length (decimal n []) + 13 → size ≡ length (answer_line k a)
answer_size k a n shown size hn hs e = rw (answer_length k a, ← hs, ← hn) e

-- the two volumes that end a line, piece by piece
module _ (v : Volume) (n : NormalVolume) where
  abbrev pub volumes_pieces : List ℕ
  volumes_pieces = (59 ∷ []) ++ (decimal v.0 [] ++ ((59 ∷ []) ++ (decimal n.0 [] ++ (10 ∷ []))))

  pub volumes_pieces_lem : volumes_shown v n ≡ volumes_pieces
  volumes_pieces_lem = ap (◌∷◌ 59) (decimal_append v.0 _ ∙
      ap (λ (l : List ℕ). decimal v.0 [] ++ (59 ∷ l)) (decimal_append n.0 (10 ∷ [])))

  pub volumes_length : length (volumes_shown v n) ≡ length (decimal v.0 []) + length (decimal n.0 []) + 3
  volumes_length = let pieces = ap length volumes_pieces_lem in simp length-append at pieces ∙ omega arith

-- a period line, piece by piece
module _ (p : ℕ) (q : Period) where
  abbrev pub period_pieces : List ℕ
  period_pieces = decimal p [] ++ ((59 ∷ []) ++ (day_text q.start [] ++ ((59 ∷ []) ++
      (decimal q.holder [] ++ volumes_shown q.volume q.normal))))

  pub period_pieces_lem : period_line p q ≡ period_pieces
  unfolding period_line
  period_pieces_lem = decimal_append p _ ∙
      ap (λ (l : List ℕ). decimal p [] ++ (59 ∷ l)) (day_append q.start _ ∙
      ap (λ (l : List ℕ). day_text q.start [] ++ (59 ∷ l)) (decimal_append q.holder _))

  pub period_length : length (period_line p q) ≡
      length (decimal p []) + length (decimal q.holder []) + length (volumes_shown q.volume q.normal) + 10
  period_length = let pieces = ap length period_pieces_lem in let start = day_length q.start in
      simp length-append at pieces ∙ omega arith

-- a total line, piece by piece
module _ (p : ℕ) (v : Volume) (n : NormalVolume) where
  abbrev pub total_pieces : List ℕ
  total_pieces = ascii "total;" ++ (decimal p [] ++ volumes_shown v n)

  pub total_pieces_lem : total_line p v n ≡ total_pieces
  unfolding total_line
  total_pieces_lem = ap (◌++◌ (ascii "total;")) (decimal_append p (volumes_shown v n))

  pub total_length : length (total_line p v n) ≡ length (decimal p []) + length (volumes_shown v n) + 6
  total_length = let pieces = ap length total_pieces_lem in simp length-append at pieces ∙ omega arith

-- how long an answer line, a period line and a total line can be
pub answer_short : (k : Kind) (a : Answer) (j : ℕ) → 0 < j → number a < 10 ^ j → length (answer_line k a) ≤ 21 + j
answer_short k a j p h = let all = answer_length k a in let name = (sound (shown_kind k (number a))).short in
    let digits = decimal_length j (number a) p h in omega arith

-- two volumes of 64 bits
pub volumes_short : (v : Volume) (n : NormalVolume) → v.0 < 2 ^ 64 → n.0 < 2 ^ 64 → length (volumes_shown v n) ≤ 43
volumes_short v n hv hn = let all = volumes_length v n in let volume = digits_few v.0 hv in
    let normal = digits_few n.0 hn in omega arith

pub period_short : (p : ℕ) (q : Period) (i j : ℕ) → 0 < i → 0 < j → p < 10 ^ i → q.holder < 10 ^ j →
    q.volume.0 < 2 ^ 64 → q.normal.0 < 2 ^ 64 → length (period_line p q) ≤ 53 + i + j
period_short p q i j hi hj hp hh hv hn = let all = period_length p q in let point = decimal_length i p hi hp in
    let holder = decimal_length j q.holder hj hh in let both = volumes_short q.volume q.normal hv hn in
    omega arith

pub total_short : (p : ℕ) (v : Volume) (n : NormalVolume) (i : ℕ) → 0 < i → p < 10 ^ i → v.0 < 2 ^ 64 →
    n.0 < 2 ^ 64 → length (total_line p v n) ≤ 49 + i
total_short p v n i hi hp hv hn = let all = total_length p v n in let point = decimal_length i p hi hp in
    let both = volumes_short v n hv hn in omega arith
