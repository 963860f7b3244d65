-- What is handed back of one field, and of all: the positions, the known date, and the values.
use Rattle.std.specs.Prelude.{Option, Some, None, Result}
use Rattle.basics.proofs.Basics.{◌≡◌, refl, sym, ap, false, Bool, cond, List, [], ◌∷◌, ◌++◌, ◌≤◌, ℕ, ◌-◌, ◌+◌, arith}
use Rattle.basics.proofs.Basics.{eqb, length, drop, take, replicate, take-append-drop, length-take-le, cases}
use Rattle.line_values.specs.Pinned.Words.{are_same}
use Rattle.line_values.specs.Pinned.Numbers.{Parsed, number, bad, number_of}
use Rattle.line_values.specs.Between.Places.{found_at}
use Rattle.line_values.specs.Pinned.Days.{day_in}
use Rattle.line_values.proofs.Places.{Ends, ends_self, ends_cons, ends_on, ends_short, Leaves, number_leaves, day_leaves, end_place, further}
use Rattle.line_fields.specs.declared.{Sort.Sort, Shape.Shape, KnownDate.KnownDate}
use Rattle.line_fields.specs.Between.Known.{known_text}
use Rattle.line_fields.specs.Between.Shapes.{most_fields}
use Rattle.line_fields.specs.Between.With.{ParsedWith, value, none, known_by, date_with, value_with, field_with, AllWith, with_all, on_with}
use Rattle.line_fields.specs.Between.With.{fields_with, fields_in_with}
use Rattle.line_fields.specs.Between.With.{found_with, known_with, place_of, place_after, values_after, ReadsFields}

-- what is read with a known date leaves the end of the text
abbrev pub LeavesWith : List ℕ → ParsedWith → Type 0
LeavesWith l (value n r k) = Ends l r
LeavesWith l none = Unit {0}

read_leaves : (f : ℕ → KnownDate) (l : List ℕ) (x : Parsed) → Leaves l x → LeavesWith l (known_by f x)
read_leaves f l (number n r) e = e
read_leaves f l bad e = tt

value_leaves : (k : KnownDate) (s : Sort) (l : List ℕ) → LeavesWith l (value_with k s l)
unfolding date_with
value_leaves k Sort.Date l = cases (are_same (take 8 l) (known_text k))
    (λ e. rw e (record { read = take 8 l; whole = sym (take-append-drop 8 l) })) (λ e. rw e (read_leaves _ l (day_in l) (day_leaves l)))
value_leaves k Sort.Number l = read_leaves _ l (number_of l) (number_leaves l)

leaves_cons : (c : ℕ) (l : List ℕ) (x : ParsedWith) → LeavesWith l x → LeavesWith (c ∷ l) x
leaves_cons c l (value n r k) e = ends_cons c l r e
leaves_cons c l none e = tt

field_leaves : (k : KnownDate) (s : Sort) (l : List ℕ) → LeavesWith l (field_with k s l)
unfolding field_with
field_leaves k s [] = tt
field_leaves k s (c ∷ l) = cases (eqb c 59) (λ e. rw e (leaves_cons c l (value_with k s l) (value_leaves k s l))) (λ e. rw e tt)

-- and so do fields
on_rest : (l : List ℕ) (x : ParsedWith) (y : AllWith) (f : ℕ → List ℕ → KnownDate → AllWith) → LeavesWith l x → Ends l y.rest →
    ((n : ℕ) (r : List ℕ) (d : KnownDate) → Ends r (f n r d).rest) → Ends l (on_with x y f).rest
on_rest l (value n r d) y f e h g = ends_on l r _ e (g n r d)
on_rest l none y f e h g = h

pub fields_rest : (k : KnownDate) (ss : List Sort) (acc l : List ℕ) → Ends l (fields_with k ss acc l).rest
unfolding fields_with
fields_rest k [] acc l = ends_self l
fields_rest k (s ∷ ss) acc l = on_rest l (field_with k s l) _ _ (field_leaves k s l) (ends_self l) (λ n r d. fields_rest d ss (acc ++ (n ∷ [])) r)

-- one field: behind its `;`, and of a number or a date that is read
found_next : (i c : ℕ) (l : List ℕ) (x : ParsedWith) → LeavesWith l x → found_with i (c ∷ l) x ≡ found_with (i + 1) l x
found_next i c l (value v r k) e = let short = ends_short l r e in ap (λ (n : ℕ). Some (v, n)) (omega arith)
found_next i c l none e = refl

pub field_step : (i c : ℕ) (l : List ℕ) (k : KnownDate) (t : Sort) →
    found_with i (c ∷ l) (field_with k t (c ∷ l)) ≡ cond (eqb c 59) (found_with (i + 1) l (value_with k t l)) None
unfolding field_with
field_step i c l k t = cases (eqb c 59) (λ e. rw e (found_next i c l (value_with k t l) (value_leaves k t l))) (λ e. rw e)

pub known_step : (c : ℕ) (l : List ℕ) (k : KnownDate) (t : Sort) →
    known_with k (field_with k t (c ∷ l)) ≡ cond (eqb c 59) (known_with k (value_with k t l)) k
unfolding field_with
known_step c l k t = cases (eqb c 59) (λ e. rw e) (λ e. rw e)

module _ (at : ℕ) (l : List ℕ) (f : ℕ → KnownDate) where
  pub found_known : (x : Parsed) → found_with at l (known_by f x) ≡ found_at at l x
  found_known (number n r) = refl
  found_known bad = refl

  pub known_none : (k : KnownDate) (x : Parsed) → found_at at l x ≡ None → known_with k (known_by f x) ≡ k
  known_none k (number n r) e = absurd (let z : ◌≡◌ {A = ℕ} 0 1 = cc in omega arith)
  known_none k bad e = refl

  pub known_some : (k : KnownDate) (x : Parsed) (v i : ℕ) → found_at at l x ≡ Some (v, i) → known_with k (known_by f x) ≡ f v
  known_some k (number n r) v i e = let q : (n, at + (length l - length r)) ≡ (v, i) = cc in ap (λ (p : ℕ × ℕ). f p.0) q
  known_some k bad v i e = absurd (let z : ◌≡◌ {A = ℕ} 0 1 = cc in omega arith)

pub known_kept : (at : ℕ) (l : List ℕ) (k : KnownDate) (x : ParsedWith) → found_with at l x ≡ None → known_with k x ≡ k
known_kept at l k (value v r d) e = absurd (let z : ◌≡◌ {A = ℕ} 0 1 = cc in omega arith)
known_kept at l k none e = refl

pub known_number : (k : KnownDate) (x : Parsed) → known_with k (known_by (λ n. k) x) ≡ k
known_number k (number n r) = refl
known_number k bad = refl

-- fields: what is handed back of those that are read from a position on, and one of them
abbrev pub handed : List ℕ → ℕ → AllWith → Result ℕ ℕ × KnownDate × List ℕ
handed s i x = (place_after i (drop i s) x, x.known, values_after x)

abbrev pub on_field {ℓ} : {A : Type ℓ} → Option (ℕ × ℕ) → A → (ℕ → ℕ → A) → A
on_field (Some (v, i)) a f = f v i
on_field None a f = a

field_then : (s : List ℕ) (i : ℕ) (k : KnownDate) (x : ParsedWith) (y : AllWith) (f : ℕ → List ℕ → KnownDate → AllWith) →
    LeavesWith (drop i s) x → ((n : ℕ) (r : List ℕ) (d : KnownDate) → Ends r (f n r d).rest) → handed s i (on_with x y f) ≡
    on_field (found_with i (drop i s) x) (handed s i y) (λ v j. handed s j (f v (drop j s) (known_with k x)))
field_then s i k (value v r d) y f e g = let x = f v r d in rw (end_place s i r e)
    (ap (λ (n : ℕ). (place_of x.ok n, x.known, values_after x)) (further i (drop i s) r x.rest e (g v r d)))
field_then s i k none y f e g = refl

pub fields_step : (s : List ℕ) (i : ℕ) (k : KnownDate) (t : Sort) (ts : List Sort) (acc : List ℕ) →
    handed s i (fields_with k (t ∷ ts) acc (drop i s)) ≡ on_field (found_with i (drop i s) (field_with k t (drop i s)))
    (handed s i (with_all false acc (drop i s) k))
    (λ v j. handed s j (fields_with (known_with k (field_with k t (drop i s))) ts (acc ++ (v ∷ [])) (drop j s)))
unfolding fields_with
fields_step s i k t ts acc = field_then s i k (field_with k t (drop i s)) _ _ (field_leaves k t (drop i s))
    (λ n r d. fields_rest d ts (acc ++ (n ∷ [])) r)

-- at the end: the values, and zeros behind them
pub handed_here : (s : List ℕ) (at i : ℕ) (vs : List ℕ) (ok : Bool) (k : KnownDate) → i ≤ most_fields → length vs ≡ most_fields →
    drop i vs ≡ replicate (most_fields - i) 0 → handed s at (with_all ok (take i vs) (drop at s) k) ≡ (place_of ok at, k, vs)
handed_here s at i vs ok k b n z = let end : at + (length (drop at s) - length (drop at s)) ≡ at = omega arith in
    rw (end, length-take-le i vs (omega arith), ← z, take-append-drop i vs)

pub reads : (last : KnownDate) (shape : Shape) (from : ℕ) (s : List ℕ) (k : KnownDate) (vs : List ℕ) (r : Result ℕ ℕ) →
    handed s from (fields_in_with last shape (drop from s)) ≡ (r, k, vs) → ReadsFields last shape from s k vs r
reads last shape from s k vs r e =
    record {
      result = ap (λ (p : Result ℕ ℕ × KnownDate × List ℕ). p.0) (sym e);
      known = ap (λ (p : Result ℕ ℕ × KnownDate × List ℕ). p.1) (sym e);
      values = ap (λ (p : Result ℕ ℕ × KnownDate × List ℕ). p.2) (sym e);
    }
