-- What reading leaves is the end of the text, and it stands at the position that is handed back.
use Rattle.std.specs.Prelude.{Option, Some, None}
use Rattle.basics.proofs.Basics.{◌≡◌, refl, sym, ◌∙◌, ap, List, [], ◌∷◌, ◌++◌, append_assoc, ◌≤◌, ℕ, ◌-◌, ◌+◌, suc}
use Rattle.basics.proofs.Basics.{zero, ◌*◌, ◌^◌, arith, eqb, ltb, length, drop, length-append, drop-drop, drop_at}
use Rattle.basics.proofs.Basics.{cases}
use Rattle.dates.specs.Numbers.{day_answer}
use Rattle.line_values.specs.Pinned.Numbers.{Parsed, number, bad, is_digit, more_of, number_of, fixed_of}
use Rattle.line_values.specs.Between.Places.{found_at}
use Rattle.line_values.specs.Pinned.Days.{and_then, day_read, day_in}

-- l ends with r
pub record Ends (l r : List ℕ) : Type 0 where
  pub read : List ℕ
  pub whole : l ≡ read ++ r

pub ends_self : (l : List ℕ) → Ends l l
ends_self l = record { read = []; whole = refl }

pub ends_cons : (c : ℕ) (l r : List ℕ) → Ends l r → Ends (c ∷ l) r
ends_cons c l r e = record { read = c ∷ e.read; whole = ap (◌∷◌ c) e.whole }

pub ends_on : (l m r : List ℕ) → Ends l m → Ends m r → Ends l r
ends_on l m r a b =
    record { read = a.read ++ b.read; whole = a.whole ∙ ap (◌++◌ a.read) b.whole ∙ sym (append_assoc a.read b.read r) }

pub ends_short : (l r : List ℕ) → Ends l r → length r ≤ length l
ends_short l r e = let sum = ap length e.whole ∙ length-append e.read r in omega arith

-- what was read leaves the end of the text
abbrev pub Leaves : List ℕ → Parsed → Type 0
Leaves l (number n r) = Ends l r
Leaves l bad = Unit {0}

leaves_on : (l m : List ℕ) (x : Parsed) → Ends l m → Leaves m x → Leaves l x
leaves_on l m (number n r) a b = ends_on l m r a b
leaves_on l m bad a b = tt

leaves_cons : (c : ℕ) (l : List ℕ) (x : Parsed) → Leaves l x → Leaves (c ∷ l) x
leaves_cons c l x = leaves_on (c ∷ l) l x (ends_cons c l l (ends_self l))

leaves_then : (l : List ℕ) (x : Parsed) (f : ℕ → List ℕ → Parsed) → Leaves l x → ((n : ℕ) (r : List ℕ) → Leaves r (f n r)) →
    Leaves l (and_then x f)
leaves_then l (number n r) f a b = leaves_on l r (f n r) a (b n r)
leaves_then l bad f a b = tt

pub more_leaves : (v : ℕ) (l : List ℕ) → Leaves l (more_of v l)
unfolding more_of
more_leaves v [] = ends_self []
more_leaves v (c ∷ l) = cases (is_digit c)
    (λ e. cases (ltb v (10 ^ 11))
    (λ f. rw (e, f) (leaves_cons c l (more_of (v * 10 + (c - 48)) l) (more_leaves (v * 10 + (c - 48)) l)))
    (λ f. rw (e, f) tt))
    (λ e. rw e (ends_self (c ∷ l)))

pub number_leaves : (l : List ℕ) → Leaves l (number_of l)
unfolding number_of
number_leaves [] = tt
number_leaves (c ∷ l) = cases (eqb c 48) (λ e. rw e (ends_cons c l l (ends_self l)))
    (λ e. cases (is_digit c) (λ f. rw (e, f) (leaves_cons c l (more_of (c - 48) l) (more_leaves (c - 48) l))) (λ f. rw (e, f) tt))

pub fixed_leaves : (k v : ℕ) (l : List ℕ) → Leaves l (fixed_of k v l)
unfolding fixed_of
fixed_leaves zero v l = ends_self l
fixed_leaves (suc k) v [] = tt
fixed_leaves (suc k) v (c ∷ l) = cases (is_digit c)
    (λ e. rw e (leaves_cons c l (fixed_of k (v * 10 + (c - 48)) l) (fixed_leaves k (v * 10 + (c - 48)) l))) (λ e. rw e tt)

pub answer_leaves : (a : Option ℕ) (l : List ℕ) → Leaves l (day_read a l)
answer_leaves (Some n) l = ends_self l
answer_leaves None l = tt

pub month_leaves : (y m : ℕ) (l : List ℕ) → Leaves l (and_then (fixed_of 2 0 l) (λ d r. day_read (day_answer y m d) r))
month_leaves y m l = leaves_then l (fixed_of 2 0 l) _ (fixed_leaves 2 0 l) (λ d r. answer_leaves (day_answer y m d) r)

pub year_leaves : (y : ℕ) (l : List ℕ) →
    Leaves l (and_then (fixed_of 2 0 l) (λ m l₂. and_then (fixed_of 2 0 l₂) (λ d r. day_read (day_answer y m d) r)))
year_leaves y l = leaves_then l (fixed_of 2 0 l) _ (fixed_leaves 2 0 l) (month_leaves y)

pub day_leaves : (l : List ℕ) → Leaves l (day_in l)
unfolding day_in
day_leaves l = leaves_then l (fixed_of 4 0 l) _ (fixed_leaves 4 0 l) year_leaves

-- where an end of the text behind at stands, and as many bytes on what is read there
pub end_place : (s : List ℕ) (at : ℕ) (r : List ℕ) → Ends (drop at s) r → drop (at + (length (drop at s) - length r)) s ≡ r
end_place s at r e = let sum = length-append e.read r in
    rw (← drop-drop (length (drop at s) - length r) at s, e.whole) (drop_at e.read r (length (e.read ++ r) - length r) (omega arith))

pub further : (at : ℕ) (l r t : List ℕ) → Ends l r → Ends r t →
    at + (length l - length t) ≡ at + (length l - length r) + (length r - length t)
further at l r t e f = let a = ends_short l r e in let b = ends_short r t f in omega arith

-- what is handed back of a text that is read in two steps
abbrev pub on_found : Option (ℕ × ℕ) → (ℕ → ℕ → Option (ℕ × ℕ)) → Option (ℕ × ℕ)
on_found (Some (v, i)) f = f v i
on_found None f = None

found_on : (at : ℕ) (l r : List ℕ) (x : Parsed) → Ends l r → Leaves r x → found_at at l x ≡ found_at (at + (length l - length r)) r x
found_on at l r (number v t) e f = ap (λ (i : ℕ). Some (v, i)) (further at l r t e f)
found_on at l r bad e f = refl

pub found_then : (s : List ℕ) (at : ℕ) (x : Parsed) (f : ℕ → List ℕ → Parsed) → Leaves (drop at s) x →
    ((n : ℕ) (r : List ℕ) → Leaves r (f n r)) →
    found_at at (drop at s) (and_then x f) ≡ on_found (found_at at (drop at s) x) (λ v i. found_at i (drop i s) (f v (drop i s)))
found_then s at (number n r) f a b = rw (end_place s at r a) (found_on at (drop at s) r (f n r) a (b n r))
found_then s at bad f a b = refl

-- a value behind which all is left, and what is read behind one byte
pub found_here : (i v : ℕ) (l : List ℕ) → found_at i l (number v l) ≡ Some (v, i)
found_here i v l = ap (λ (i : ℕ). Some (v, i)) (omega arith)

pub found_next : (i c : ℕ) (l : List ℕ) (x : Parsed) → Leaves l x → found_at i (c ∷ l) x ≡ found_at (i + 1) l x
found_next i c l (number v r) e = let short = ends_short l r e in ap (λ (i : ℕ). Some (v, i)) (omega arith)
found_next i c l bad e = refl
