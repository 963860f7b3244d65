-- Reading a number and writing it are inverse: a number of at most 12 digits is read back from its text, and only from it.
use Rattle.basics.proofs.Basics.{◌≡◌, refl, sym, ◌∙◌, ap, true, List, [], ◌∷◌, ◌≤◌, ℕ, ◌-◌, ◌+◌, ◌<◌, suc, zero, ◌*◌}
use Rattle.basics.proofs.Basics.{◌^◌, ◌/◌, ◌%◌, arith, eqb, ltb, leb, lt-ltb, le-leb, le-ltb, ne_eqb, ltb-false}
use Rattle.basics.proofs.Basics.{eqb-true, ltb-true, leb-true, eqb-false, cases}
use Rattle.dates.proofs.Every.{and_left, and_right}
use Rattle.line_text.specs.Decimal.{spell, decimal}
use Rattle.line_text.proofs.Spelling.{spell_room}
use Rattle.line_values.specs.Pinned.Numbers.{number, is_digit, more_of, number_of}
use Rattle.line_values.specs.OneText.{Stops}

-- 0 is read by itself: no digit follows it
zero_back : (l : List ℕ) → number_of (48 ∷ l) ≡ number 0 l
unfolding number_of
zero_back l = refl

pub is_digit_lem : (d : ℕ) → d < 10 → is_digit (48 + d) ≡ true
is_digit_lem d h = rw (le-leb 48 (48 + d) (omega arith), le-leb (48 + d) 57 (omega arith))

pub digit_range : (c : ℕ) → is_digit c ≡ true → (48 ≤ c) × (c ≤ 57)
digit_range c h = (leb-true 48 c (and_left (leb 48 c) (leb c 57) h), leb-true c 57 (and_right (leb 48 c) (leb c 57) h))

more_digit : (v d : ℕ) (l : List ℕ) → d < 10 → v < 10 ^ 11 → more_of v ((48 + d) ∷ l) ≡ more_of (v * 10 + d) l
unfolding more_of
more_digit v d l h k = let e : 48 + d - 48 ≡ d = omega arith in rw (is_digit_lem d h, lt-ltb v (10 ^ 11) k, e)

more_stops : (v : ℕ) (l : List ℕ) → Stops l → more_of v l ≡ number v l
unfolding more_of
more_stops v [] h = refl
more_stops v (c ∷ l) h = rw h

-- what was spelled is read, for a number that is not 0
number_spelled : (k n : ℕ) (l : List ℕ) → 0 < n → n < 10 ^ 12 → n < 10 ^ k → number_of (spell k n l) ≡ more_of n l
unfolding spell number_of
number_spelled zero n l p h hk = absurd (omega arith)
number_spelled (suc k) n l p h hk = cases (ltb n 10)
    (λ e. let q = ltb-true n 10 e in let back : 48 + n - 48 ≡ n = omega arith in
    rw (e, ne_eqb (48 + n) 48 (omega arith), is_digit_lem n q, back))
    (λ e. let q = ltb-false n 10 e in let r : n / 10 * 10 + n % 10 ≡ n = omega arith in
    rw e (number_spelled k (n / 10) ((48 + n % 10) ∷ l) (omega arith) (omega arith) (omega arith) ∙
    more_digit (n / 10) (n % 10) l (omega arith) (omega arith) ∙ ap (λ (x : ℕ). more_of x l) r))

pub number_back : (n : ℕ) (l : List ℕ) → n < 10 ^ 12 → Stops l → number_of (decimal n l) ≡ number n l
unfolding spell number_of
number_back zero l h s = zero_back l
number_back (suc n) l h s = number_spelled 20 (suc n) l (omega arith) h (omega arith) ∙ more_stops (suc n) l s

-- the last digit of a number of two or more
decimal_last : (v c : ℕ) (l : List ℕ) → 0 < v → v < 10 ^ 11 → 48 ≤ c → c ≤ 57 →
    decimal (v * 10 + (c - 48)) l ≡ decimal v (c ∷ l)
unfolding spell
decimal_last v c l p h a b = let d : (v * 10 + (c - 48)) / 10 ≡ v = omega arith in
    let m : 48 + (v * 10 + (c - 48)) % 10 ≡ c = omega arith in
    rw (le-ltb (v * 10 + (c - 48)) 10 (omega arith), d, m) (spell_room 19 v (c ∷ l) p (omega arith))

more_only : (v n : ℕ) (l r : List ℕ) → 0 < v → v < 10 ^ 12 → more_of v l ≡ number n r →
    (decimal v l ≡ decimal n r) × (n < 10 ^ 12)
unfolding more_of
more_only v n [] r p h e = let q : v ≡ n = cc in (cc, omega arith)
more_only v n (c ∷ l) r p h e = cases (is_digit c)
    (λ f. cases (ltb v (10 ^ 11))
    (λ g. let q = digit_range c f in let k = ltb-true v (10 ^ 11) g in
    let w = more_only (v * 10 + (c - 48)) n l r (omega arith) (omega arith) (rw (f, g) at e) in
    (sym (decimal_last v c l p k q.0 q.1) ∙ w.0, w.1))
    (λ g. absurd (let z : ◌≡◌ {A = ℕ} 0 1 = cc in omega arith)))
    (λ f. let q : v ≡ n = cc in (cc, omega arith))

pub number_only : (n : ℕ) (l r : List ℕ) → number_of l ≡ number n r → (l ≡ decimal n r) × (n < 10 ^ 12)
unfolding number_of spell
number_only n [] r e = absurd (let z : ◌≡◌ {A = ℕ} 0 1 = cc in omega arith)
number_only n (c ∷ l) r e = cases (eqb c 48)
    (λ f. let k = eqb-true c 48 f in let q : 0 ≡ n = cc in let t : l ≡ r = cc in (rw (← q, ← t, k), omega arith))
    (λ f. cases (is_digit c)
    (λ g. let q = digit_range c g in let k = eqb-false c 48 f in let s : 48 + (c - 48) ≡ c = omega arith in
    let one : decimal (c - 48) l ≡ c ∷ l = rw (lt-ltb (c - 48) 10 (omega arith), s) in
    let w = more_only (c - 48) n l r (omega arith) (omega arith) (rw (f, g) at e) in (sym one ∙ w.0, w.1))
    (λ g. absurd (let z : ◌≡◌ {A = ℕ} 0 1 = cc in omega arith)))
