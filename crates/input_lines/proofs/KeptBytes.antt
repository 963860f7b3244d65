-- Laws of what is kept of a line that has not ended.
use Rattle.basics.proofs.Basics.{◌≡◌, refl, ◌∙◌, ap, List, [], ◌∷◌, ◌++◌, append_assoc, append-nil, ◌≤◌, ℕ, ◌-◌, ◌+◌}
use Rattle.basics.proofs.Basics.{suc, zero, min, dec_le, arith, length, take, length-append, replicate, length-take}
use Rattle.basics.proofs.Basics.{length-take-le, take_all, take-append_seam, take-append-add}
use Rattle.line_text.specs.Between.Appending.{Appended}
use Rattle.line_text.proofs.Appends.{zeros_put}
use Rattle.input_lines.specs.declared.{Begun.Begun}
use Rattle.input_lines.specs.Between.Begun.{kept_bytes, capped, kept, begun_of}

-- ---- capped

take_front : (n : ℕ) (x t : List ℕ) → take n (take n x ++ t) ≡ take n (x ++ t)
take_front zero x t = refl
take_front (suc n) [] t = refl
take_front (suc n) (a ∷ x) t = ap (λ (l : List ℕ). a ∷ l) (take_front n x t)

pub capped_front : (x t : List ℕ) → capped (capped x ++ t) ≡ capped (x ++ t)
unfolding capped
capped_front x t = take_front kept_bytes x t

pub capped_more : (x : List ℕ) (b : ℕ) (t : List ℕ) → capped (capped (x ++ (b ∷ [])) ++ t) ≡ capped (x ++ (b ∷ t))
capped_more x b t = capped_front (x ++ (b ∷ [])) t ∙ ap capped (append_assoc x (b ∷ []) t)

pub capped_nil : (l : List ℕ) → length l ≤ kept_bytes → capped (l ++ []) ≡ l
unfolding capped
capped_nil l h = rw (append-nil l) (take_all kept_bytes l h)

pub capped_le : (l : List ℕ) → length (capped l) ≤ kept_bytes
unfolding capped
capped_le l = omega (arith, length-take kept_bytes l)

-- ---- a part and its bytes

pub kept_le : (p : Begun) → length (kept p) ≤ kept_bytes
kept_le p = omega (arith, length-take (min p.len kept_bytes) p.bytes)

pub kept_begun : (l : List ℕ) → length l ≤ kept_bytes → kept (begun_of l) ≡ l
unfolding begun_of
kept_begun l h = let e : min (length l) kept_bytes ≡ length l = omega arith in
    rw e (take-append_seam l (replicate (kept_bytes - length l) 0))

pub empty_begun : begun_of [] ≡ record { len = 0; bytes = replicate kept_bytes 0 }
unfolding begun_of
empty_begun = refl

-- ---- two words put into zeros

take_min : (n : ℕ) (l : List ℕ) → take n l ≡ take (min (length l) n) l
take_min n l = elim (dec_le n (length l)) [
  | yes h ↦ (let e : min (length l) n ≡ n = omega arith in rw e)
  | no h ↦ (let e : min (length l) n ≡ length l = omega arith in rw (e, take_all n l (omega arith), take_all (length l) l (omega arith)))
]

-- a front of at most kept_bytes bytes and what still fits
pub capped_append : (x more : List ℕ) → length x ≤ kept_bytes → capped (x ++ more) ≡ x ++ take (min (length more) (kept_bytes - length x)) more
unfolding capped
capped_append x more h = let s : kept_bytes ≡ length x + (kept_bytes - length x) = omega arith in
    ap (λ (n : ℕ). take n (x ++ more)) s ∙ take-append-add x more (kept_bytes - length x) ∙
    ap (λ (l : List ℕ). x ++ l) (take_min (kept_bytes - length x) more)

-- the bytes held and as many of the new ones as fit
pub begun_appended : (held more : List ℕ) (added : ℕ) (o₁ o₂ : List ℕ) (a b : ℕ) → length held ≤ kept_bytes →
    added ≡ min (length more) (kept_bytes - length held) → Appended 0 held (replicate kept_bytes 0) o₁ a →
    Appended a (take added more) o₁ o₂ b → record { len = b; bytes = o₂ } ≡ begun_of (capped (held ++ more))
unfolding begun_of
begun_appended held more added o₁ o₂ a b h ha w v =
    let al : length (take added more) ≡ added = length-take-le added more (omega arith) in
    let all : capped (held ++ more) ≡ held ++ take added more = rw (← ha) at (capped_append held more h) in
    let q = zeros_put kept_bytes held (take added more) o₁ o₂ a b (omega (arith, length-append held (take added more))) w v in
    rw (q.0, q.1, all)
