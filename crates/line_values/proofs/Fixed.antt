-- Texts of a fixed number of digits: read back as written, and only so.
use Rattle.basics.proofs.Basics.{◌≡◌, refl, sym, ◌∙◌, ap, List, [], ◌∷◌, ◌≤◌, ℕ, ◌-◌, ◌+◌, ◌<◌, suc, zero, ◌*◌, ◌^◌}
use Rattle.basics.proofs.Basics.{◌/◌, ◌%◌, add-zero, zero-add, arith, cases}
use Rattle.line_text.specs.Decimal.{fixed}
use Rattle.line_values.specs.Pinned.Numbers.{fixed_of, number, is_digit}
use Rattle.line_values.proofs.Numbers.{is_digit_lem, digit_range}

fixed_digit : (j v d : ℕ) (l : List ℕ) → d < 10 → fixed_of (suc j) v ((48 + d) ∷ l) ≡ fixed_of j (v * 10 + d) l
unfolding fixed_of
fixed_digit j v d l h = let e : 48 + d - 48 ≡ d = omega arith in rw (is_digit_lem d h, e)

-- the k digits of n are read as n, and then j digits more
fixed_read : (k j n : ℕ) (l : List ℕ) → n < 10 ^ k → fixed_of (k + j) 0 (fixed k n l) ≡ fixed_of j n l
unfolding fixed
fixed_read zero j n l h = let e : n ≡ 0 = omega arith in rw (zero-add j, e)
fixed_read (suc k) j n l h = let more : suc k + j ≡ k + suc j = omega arith in
    let whole : n / 10 * 10 + n % 10 ≡ n = omega arith in rw more
    (fixed_read k (suc j) (n / 10) ((48 + n % 10) ∷ l) (omega arith) ∙
    fixed_digit j (n / 10) (n % 10) l (omega arith) ∙ ap (λ (x : ℕ). fixed_of j x l) whole)

pub fixed_back : (k n : ℕ) (l : List ℕ) → n < 10 ^ k → fixed_of k 0 (fixed k n l) ≡ number n l
unfolding fixed_of
fixed_back k n l h = rw (add-zero k) at (fixed_read k 0 n l h)

fixed_last : (j v c : ℕ) (l : List ℕ) → 48 ≤ c → c ≤ 57 → fixed (suc j) (v * 10 + (c - 48)) l ≡ fixed j v (c ∷ l)
unfolding fixed
fixed_last j v c l a b = let d : (v * 10 + (c - 48)) / 10 ≡ v = omega arith in
    let m : 48 + (v * 10 + (c - 48)) % 10 ≡ c = omega arith in rw (d, m)

-- of j + k digits of n the first j, those of v, stand before l
fixed_written : (k j v n : ℕ) (l r : List ℕ) → v < 10 ^ j → fixed_of k v l ≡ number n r →
    (fixed j v l ≡ fixed (j + k) n r) × (n < 10 ^ (j + k))
unfolding fixed_of
fixed_written zero j v n l r h e = let q : v ≡ n = cc in let s : l ≡ r = cc in rw (add-zero j, ← q, ← s) (refl, h)
fixed_written (suc k) j v n [] r h e = absurd (let z : ◌≡◌ {A = ℕ} 0 1 = cc in omega arith)
fixed_written (suc k) j v n (c ∷ l) r h e = cases (is_digit c)
    (λ f. let q = digit_range c f in let more : suc j + k ≡ j + suc k = omega arith in
    let w = fixed_written k (suc j) (v * 10 + (c - 48)) n l r (omega arith) (rw f at e) in
    rw (← more) (sym (fixed_last j v c l q.0 q.1) ∙ w.0, w.1))
    (λ f. absurd (let z : ◌≡◌ {A = ℕ} 0 1 = cc in omega arith))

pub fixed_only : (k n : ℕ) (l r : List ℕ) → fixed_of k 0 l ≡ number n r → (l ≡ fixed k n r) × (n < 10 ^ k)
unfolding fixed
fixed_only k n l r e = rw (zero-add k) at (fixed_written k 0 0 n l r (omega arith) e)
