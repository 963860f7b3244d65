-- What the three tables tell of the points.
use Rattle.basics.proofs.Basics.{◌≡◌, refl, ◌∙◌, ap, List, [], ◌∷◌, ◌++◌, append_assoc, ◌≤◌, ℕ, ◌+◌, ◌<◌, suc, zero}
use Rattle.basics.proofs.Basics.{◌*◌, arith, length, drop, take, get_or, set, length-set, length-drop, length-take-le}
use Rattle.basics.proofs.Basics.{take_all, drop-drop, take_at, drop_at, paste, get_or-drop, drop-set-lt, take-set-le}
use Rattle.basics.proofs.Basics.{take-add, get_or-take, take-set-lt, drop-set-add, length-paste}
use Rattle.rules.specs.declared.{Fields.Fields, Period.Period, Point.Point}
use Rattle.input_tables.specs.Between.Tables.{joined, row_at, points_of, Sized}

next_row : (i : ℕ) (ss : List Period) → row_at i (drop 24 ss) ≡ row_at (suc i) ss
next_row i ss = let e : 24 + 24 * i ≡ 24 * suc i = omega arith in
    ap (take 24) (drop-drop (24 * i) 24 ss ∙ ap (λ (n : ℕ). drop n ss) e)

pub row_length : (i : ℕ) (ss : List Period) → 24 * i + 24 ≤ length ss → length (row_at i ss) ≡ 24
row_length i ss h = length-take-le 24 (drop (24 * i) ss) (omega (arith, length-drop (24 * i) ss))

pub row_get : (i k : ℕ) (ss : List Period) (d : Period) → k < 24 → get_or (row_at i ss) k d ≡ get_or ss (24 * i + k) d
row_get i k ss d h = get_or-take 24 (drop (24 * i) ss) k d h ∙ get_or-drop (24 * i) ss k d

-- A point is what the tables have at its place.
module _ (g₀ : Point) (f₀ : Fields) (n₀ : ℕ) where
  pub points_get : (fs : List Fields) (ns : List ℕ) (ss : List Period) (i : ℕ) → i < length fs → i < length ns →
      get_or (points_of fs ns ss) i g₀ ≡ joined (get_or fs i f₀) (get_or ns i n₀) (row_at i ss)
  unfolding points_of
  points_get [] ns ss i h j = absurd (omega arith)
  points_get (_ ∷ _) [] ss i h j = absurd (omega arith)
  points_get (_ ∷ _) (_ ∷ _) ss zero h j = refl
  points_get (f ∷ fs) (n ∷ ns) ss (suc i) h j =
      points_get fs ns (drop 24 ss) i (omega arith) (omega arith) ∙ ap (joined (get_or fs i f₀) (get_or ns i n₀)) (next_row i ss)

-- Tables of one length are as many points.
pub points_length : (fs : List Fields) (ns : List ℕ) (ss : List Period) (n : ℕ) → length fs ≡ n → length ns ≡ n →
    length (points_of fs ns ss) ≡ n
unfolding points_of
points_length [] ns ss n h j = h
points_length (_ ∷ _) [] ss n h j = j
points_length (_ ∷ _) (_ ∷ _) ss zero h j = absurd (omega arith)
points_length (_ ∷ fs) (_ ∷ ns) ss (suc n) h j = ap suc (points_length fs ns (drop 24 ss) n (omega arith) (omega arith))

module _ (f : Fields) (n : ℕ) where
  -- One slot changed is one point changed.
  pub points_slot : (fs : List Fields) (ns : List ℕ) (ss : List Period) (i k : ℕ) (q : Period) → k < 24 →
      points_of (set fs i f) (set ns i n) (set ss (24 * i + k) q) ≡ set (points_of fs ns ss) i (joined f n (set (row_at i ss) k q))
  unfolding points_of
  points_slot [] ns ss i k q h = refl
  points_slot (_ ∷ _) [] ss zero k q h = refl
  points_slot (_ ∷ _) [] ss (suc i) k q h = refl
  points_slot (_ ∷ fs) (_ ∷ ns) ss zero k q h = let e : 24 * 0 + k ≡ k = omega arith in
      rw (e, take-set-lt 24 ss k q h, drop-set-lt 24 ss k q h)
  points_slot (f₁ ∷ fs) (n₁ ∷ ns) ss (suc i) k q h = let e : 24 * suc i + k ≡ 24 + (24 * i + k) = omega arith in
      let l : 24 ≤ 24 + (24 * i + k) = omega arith in
      rw (e, take-set-le 24 ss (24 + (24 * i + k)) q l, drop-set-add 24 ss (24 * i + k) q, points_slot fs ns (drop 24 ss) i k q h, next_row i ss)

  -- A row changed is one point changed.
  pub points_row : (fs : List Fields) (ns : List ℕ) (ss row : List Period) (i : ℕ) → length row ≡ 24 → 24 * i + 24 ≤ length ss →
      points_of (set fs i f) (set ns i n) (paste ss (24 * i) row 24) ≡ set (points_of fs ns ss) i (joined f n row)
  unfolding points_of
  points_row [] ns ss row i h w = refl
  points_row (_ ∷ _) [] ss row zero h w = refl
  points_row (_ ∷ _) [] ss row (suc i) h w = refl
  points_row (_ ∷ fs) (_ ∷ ns) ss row zero h w = let k : take 24 row ≡ row = take_all 24 row (omega arith) in
      rw (k, take_at row (drop (0 + 24) ss) 24 h, drop_at row (drop (0 + 24) ss) 24 h)
  points_row (f₁ ∷ fs) (n₁ ∷ ns) ss row (suc i) h w = let e : 24 * suc i ≡ 24 + 24 * i = omega arith in
      let l : length (take 24 ss) ≡ 24 = length-take-le 24 ss (omega arith) in
      let z : paste ss (24 + 24 * i) row 24 ≡ take 24 ss ++ paste (drop 24 ss) (24 * i) row 24 =
      rw (take-add 24 (24 * i) ss, append_assoc (take 24 ss) (take (24 * i) (drop 24 ss)) (take 24 row), drop-drop (24 * i + 24) 24 ss)
      (later i ss row) in rw (
        e,
        z,
        take_at (take 24 ss) (paste (drop 24 ss) (24 * i) row 24) 24 l,
        drop_at (take 24 ss) (paste (drop 24 ss) (24 * i) row 24) 24 l,
        points_row fs ns (drop 24 ss) row i h (omega (arith, length-drop 24 ss)),
      )
    where
      later : (i : ℕ) (ss row : List Period) →
          take 24 ss ++ (take (24 * i) (drop 24 ss) ++ take 24 row) ++ drop (24 + 24 * i + 24) ss
          ≡ take 24 ss ++ (take (24 * i) (drop 24 ss) ++ take 24 row ++ drop (24 + (24 * i + 24)) ss)
      later i ss row = let e : 24 + (24 * i + 24) ≡ 24 + 24 * i + 24 = omega arith in
          rw (e, append_assoc (take 24 ss) (take (24 * i) (drop 24 ss) ++ take 24 row) (drop (24 + 24 * i + 24) ss))

-- A row written over.
module _ {fs : List Fields} {ns : List ℕ} {ss out : List Period} {i : ℕ} (f : Fields) (n : ℕ) (row : List Period) (h : i < 32) (l : length row ≡ 24)
    (s : Sized fs ns ss) (p : out ≡ paste ss (24 * i) row 24) where
  pub pasted_points : points_of (set fs i f) (set ns i n) out ≡ set (points_of fs ns ss) i (joined f n row)
  pasted_points = rw p (points_row f n fs ns ss row i l (omega (arith, s.slots)))

  pub pasted_sized : Sized (set fs i f) (set ns i n) out
  pasted_sized =
      record {
        fields = length-set fs i f ∙ s.fields;
        counts = length-set ns i n ∙ s.counts;
        slots = ap length p ∙ length-paste ss (24 * i) row 24 (omega (arith, s.slots)) (omega (arith, l)) ∙ s.slots;
      }
