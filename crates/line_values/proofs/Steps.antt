-- One step of reading at a position of a line: what the definitions of reading come to there.
use Rattle.std.specs.Prelude.{Option, Some, None, nat_eq, ◌⊎◌}
use Rattle.std.proofs.Common.{inl, inr}
use Rattle.std.proofs.lemmas.List.{get_or-take}
use lib.Pointwise.{pointwise}
use Rattle.basics.proofs.Basics.{◌≡◌, refl, ◌∙◌, ap, ap₂, fun_ext, true, false, cond, ◌&&◌, and-false, List, [], ◌∷◌}
use Rattle.basics.proofs.Basics.{◌≤◌, ℕ, ◌-◌, ◌+◌, ◌<◌, suc, zero, ◌*◌, ◌^◌, add-one, arith, eqb, ltb}
use Rattle.basics.proofs.Basics.{length, drop, get_or, drop_of_length-le, drop-cons, eq-eqb, eqb-true}
use Rattle.basics.proofs.Basics.{cases, take, length-drop, get_or-drop}
use Rattle.dates.specs.Numbers.{day_answer}
use Rattle.dates.proofs.Every.{and_left, and_right}
use Rattle.line_values.specs.Pinned.Words.{are_same}
use Rattle.line_values.specs.Pinned.Numbers.{bad, is_digit, more_of, number_of, fixed_of}
use Rattle.line_values.specs.Between.Places.{found_at, date_at}
use Rattle.line_values.specs.Pinned.Days.{day_read, day_in}
use Rattle.line_values.proofs.Places.{more_leaves, fixed_leaves, answer_leaves, month_leaves, year_leaves, on_found, found_then, found_here, found_next}

-- digits at a position, and one step of reading them
abbrev pub more_at : ℕ → List ℕ → ℕ → Option (ℕ × ℕ)
more_at v s i = found_at i (drop i s) (more_of v (drop i s))

abbrev pub fixed_at : ℕ → ℕ → List ℕ → ℕ → Option (ℕ × ℕ)
fixed_at k v s i = found_at i (drop i s) (fixed_of k v (drop i s))

pub more_end : (i : ℕ) (s : List ℕ) (v : ℕ) → length s ≤ i → more_at v s i ≡ Some (v, i)
unfolding more_of
more_end i s v h = rw (drop_of_length-le s h) (found_here i v [])

pub cons_at : (s : List ℕ) (i : ℕ) → i < length s → drop i s ≡ get_or s i 0 ∷ drop (i + 1) s
cons_at s i h = rw (add-one i) (drop-cons s i 0 h)

module _ (i c : ℕ) (l : List ℕ) where
  pub more_step : (v : ℕ) → found_at i (c ∷ l) (more_of v (c ∷ l)) ≡
      cond (is_digit c) (cond (ltb v (10 ^ 11)) (found_at (i + 1) l (more_of (v * 10 + (c - 48)) l)) None) (Some (v, i))
  unfolding more_of
  more_step v = cases (is_digit c)
      (λ e. cases (ltb v (10 ^ 11))
      (λ f. rw (e, f) (found_next i c l (more_of (v * 10 + (c - 48)) l) (more_leaves (v * 10 + (c - 48)) l))) (λ f. rw (e, f)))
      (λ e. rw e (found_here i v (c ∷ l)))

  pub number_step : found_at i (c ∷ l) (number_of (c ∷ l)) ≡
      cond (eqb c 48) (Some (0, i + 1)) (cond (is_digit c) (found_at (i + 1) l (more_of (c - 48) l)) None)
  unfolding number_of
  number_step = cases (eqb c 48) (λ e. rw e (ap (λ (i : ℕ). Some (0, i)) (omega arith))) (λ e. cases (is_digit c)
      (λ f. rw (e, f) (found_next i c l (more_of (c - 48) l) (more_leaves (c - 48) l))) (λ f. rw (e, f)))

pub fixed_step : (s : List ℕ) (i j k m v : ℕ) → j ≡ i + 1 → k ≡ suc m → i + k ≤ length s → fixed_at k v s i ≡
    cond (is_digit (get_or s i 0)) (fixed_at m (v * 10 + (get_or s i 0 - 48)) s j) None
unfolding fixed_of
fixed_step s i j k m v n e h = let l = drop (i + 1) s in let w = v * 10 + (get_or s i 0 - 48) in
    rw (n, e, cons_at s i (omega arith)) (cases (is_digit (get_or s i 0))
    (λ e. rw e (found_next i (get_or s i 0) l (fixed_of m w l) (fixed_leaves m w l))) (λ e. rw e))

-- fewer bytes than digits
pub fixed_few : (k v : ℕ) (l : List ℕ) → length l < k → fixed_of k v l ≡ bad
unfolding fixed_of
fixed_few zero v l h = absurd (omega arith)
fixed_few (suc k) v [] h = refl
fixed_few (suc k) v (c ∷ l) h =
    cases (is_digit c) (λ e. rw e (fixed_few k (v * 10 + (c - 48)) l (omega arith))) (λ e. rw e)

pub fixed_end : (s : List ℕ) (i j k v : ℕ) → k ≡ 0 → j ≡ i → fixed_at k v s i ≡ Some (v, j)
unfolding fixed_of
fixed_end s i j k v n e = rw (e, n) (found_here i v (drop i s))

-- where a text has no part of so many bytes there are fewer
pub few_left : (s : List ℕ) (at count : ℕ) → (length s < at) ⊎ (length s < length s) → 0 < count → length (drop at s) < count
few_left s at count (inl h) p = let e = length-drop at s in omega arith
few_left s at count (inr h) p = absurd (omega arith)

pub few_digits : (l : List ℕ) (count : ℕ) → (count < 0) ⊎ (length l < count) → length l < count
few_digits l count (inl h) = absurd (omega arith)
few_digits l count (inr h) = h

-- the byte at an index of a part
pub part_byte : (s d l : List ℕ) (at count n k : ℕ) → d ≡ take count l → l ≡ take n (drop at s) → k < count → k < n → get_or d k 0 ≡ get_or s (at + k) 0
part_byte s d l at count n k e f h j =
    rw (e, get_or-take count l k 0 h, f, get_or-take n (drop at s) k 0 j, get_or-drop at s k 0)

-- a number of k digits with one more

pub fixed_grows : (v c k : ℕ) → v < 10 ^ k → c ≤ 57 → v * 10 + (c - 48) < 10 ^ (k + 1)
fixed_grows v c k h b = rw (add-one k) (omega arith)

-- a date, part after part
abbrev pub day_found : Option ℕ → ℕ → Option (ℕ × ℕ)
day_found (Some n) i = Some (n, i)
day_found None i = None

day_found_lem : (a : Option ℕ) (i : ℕ) (l : List ℕ) → found_at i l (day_read a l) ≡ day_found a i
day_found_lem (Some n) i l = found_here i n l
day_found_lem None i l = refl

pub date_steps : (s : List ℕ) (at : ℕ) → date_at s at ≡ on_found (fixed_at 4 0 s at) (λ y i.
    on_found (fixed_at 2 0 s i) (λ m j. on_found (fixed_at 2 0 s j) (λ d end. day_found (day_answer y m d) end)))
unfolding day_in
date_steps s at = found_then s at (fixed_of 4 0 (drop at s)) _ (fixed_leaves 4 0 (drop at s)) year_leaves ∙
    ap (on_found (fixed_at 4 0 s at)) (fun_ext λ y. fun_ext λ i.
    found_then s i (fixed_of 2 0 (drop i s)) _ (fixed_leaves 2 0 (drop i s)) (month_leaves y) ∙
    ap (on_found (fixed_at 2 0 s i)) (fun_ext λ m. fun_ext λ j.
    found_then s j (fixed_of 2 0 (drop j s)) _ (fixed_leaves 2 0 (drop j s)) (λ d r. answer_leaves (day_answer y m d) r) ∙
    ap (on_found (fixed_at 2 0 s j)) (fun_ext λ d. fun_ext λ end. day_found_lem (day_answer y m d) end (drop end s))))

-- the comparison of two words
pub other_length : (a b : List ℕ) → (length a ≡ length b → ⊥) → are_same a b ≡ false
unfolding are_same
other_length [] [] h = absurd (h refl)
other_length [] (y ∷ b) h = refl
other_length (x ∷ a) [] h = refl
other_length (x ∷ a) (y ∷ b) h = rw (other_length a b (λ q. h (ap suc q))) (and-false (eqb x y))

pub same_words : (a b : List ℕ) → are_same a b ≡ true → a ≡ b
unfolding are_same
same_words [] [] h = refl
same_words [] (y ∷ b) h = absurd (let z : ◌≡◌ {A = ℕ} 0 1 = cc in omega arith)
same_words (x ∷ a) [] h = absurd (let z : ◌≡◌ {A = ℕ} 0 1 = cc in omega arith)
same_words (x ∷ a) (y ∷ b) h = ap₂ ◌∷◌ (eqb-true x y (and_left (eqb x y) _ h)) (same_words a b (and_right (eqb x y) _ h))

pub same_self : (a : List ℕ) → are_same a a ≡ true
unfolding are_same
same_self [] = refl
same_self (x ∷ a) = rw (eq-eqb x x refl) (same_self a)

-- what `==` of two slices says
pub pointwise_is : (a b : List ℕ) → pointwise nat_eq a b ≡ are_same a b
unfolding are_same
pointwise_is [] [] = refl
pointwise_is [] (y ∷ b) = refl
pointwise_is (x ∷ a) [] = refl
pointwise_is (x ∷ a) (y ∷ b) = ap (◌&&◌ (eqb x y)) (pointwise_is a b)
