-- The decimal text of a number, digit by digit: its last digit, its length, and what stands behind it.
use Rattle.basics.proofs.Basics.{◌≡◌, refl, ap, List, [], ◌∷◌, ◌++◌, append_assoc, ◌≤◌, ℕ, ◌+◌, ◌<◌, suc, zero, ◌^◌}
use Rattle.basics.proofs.Basics.{◌/◌, ◌%◌, arith, ltb, length, length-append, lt-ltb, le-ltb, ltb-false, cases, pow-le-pow_right, ◌*◌}
use Rattle.line_text.specs.Decimal.{spell, decimal}

-- room for more digits than a number has changes nothing
pub spell_room : (k n : ℕ) (l : List ℕ) → 0 < n → n < 10 ^ k → spell k n l ≡ spell (suc k) n l
unfolding spell
spell_room zero n l p h = absurd (omega arith)
spell_room (suc k) n l p h = cases (ltb n 10) (λ e. rw e)
    (λ e. let q = ltb-false n 10 e in rw e (spell_room k (n / 10) ((48 + n % 10) ∷ l) (omega arith) (omega arith)))

-- a number of one digit, and a number of more
pub decimal_one : (v : ℕ) (l : List ℕ) → v < 10 → decimal v l ≡ (48 + v) ∷ l
unfolding spell
decimal_one v l h = rw (lt-ltb v 10 h)

pub decimal_step : (v : ℕ) (l : List ℕ) → 10 ≤ v → v < 10 ^ 20 → decimal v l ≡ decimal (v / 10) ((48 + v % 10) ∷ l)
unfolding spell
decimal_step v l h k = rw (le-ltb v 10 h) (spell_room 19 (v / 10) ((48 + v % 10) ∷ l) (omega arith) (omega arith))

-- what stands behind a number does not change its text
pub spell_append : (k n : ℕ) (l : List ℕ) → spell k n l ≡ spell k n [] ++ l
unfolding spell
spell_append zero n l = refl
spell_append (suc k) n l = cases (ltb n 10) (λ e. rw e) (λ e. rw (
  e,
  spell_append k (n / 10) ((48 + n % 10) ∷ l),
  spell_append k (n / 10) ((48 + n % 10) ∷ []),
  append_assoc,
))

pub decimal_append : (n : ℕ) (l : List ℕ) → decimal n l ≡ decimal n [] ++ l
decimal_append n l = spell_append 20 n l

-- how many digits a number has
pub count_one : (v : ℕ) → v < 10 → length (decimal v []) ≡ 1
count_one v h = ap length (decimal_one v [] h)

pub count_step : (v : ℕ) → 10 ≤ v → v < 10 ^ 20 → length (decimal v []) ≡ length (decimal (v / 10) []) + 1
count_step v h k = rw (decimal_step v [] h k, decimal_append (v / 10) ((48 + v % 10) ∷ []), length-append)

pub count_between : (k n : ℕ) → 10 ^ k ≤ n → n < 10 * 10 ^ k → n < 10 ^ 20 → length (decimal n []) ≡ k + 1
count_between zero n h small all = count_one n (omega arith)
count_between (suc k) n h small all = let one : 10 ^ 0 ≤ 10 ^ k = pow-le-pow_right {n = 10} (omega arith) {i = 0} {j = k} (omega arith) in
    let ten : 10 ≤ n = omega arith in
    let rest = count_between k (n / 10) (omega arith) (omega arith) (omega arith) in omega (arith, count_step n ten all)

spell_longer : (k n : ℕ) (l : List ℕ) → length l < length (spell (suc k) n l)
unfolding spell
spell_longer zero n l = cases (ltb n 10) (λ e. rw e (omega arith)) (λ e. rw e (omega arith))
spell_longer (suc k) n l = let more = spell_longer k (n / 10) ((48 + n % 10) ∷ l) in
    cases (ltb n 10) (λ e. rw e (omega arith)) (λ e. rw e (omega arith))

pub count_some : (n : ℕ) → 0 < length (decimal n [])
count_some n = spell_longer 19 n []

-- a number below 10 ^ k has at most k digits
spell_length : (j k n : ℕ) (l : List ℕ) → n < 10 ^ suc k → length (spell j n l) ≤ suc k + length l
unfolding spell
spell_length zero k n l h = omega arith
spell_length (suc j) zero n l h = rw (lt-ltb n 10 (omega arith)) (omega arith)
spell_length (suc j) (suc k) n l h = let rest = spell_length j k (n / 10) ((48 + n % 10) ∷ l) (omega arith) in
    cases (ltb n 10) (λ e. rw e (omega arith)) (λ e. rw e (omega arith))

pub decimal_length : (k n : ℕ) → 0 < k → n < 10 ^ k → length (decimal n []) ≤ k
decimal_length zero n p h = absurd (omega arith)
decimal_length (suc k) n p h = let q = spell_length 20 k n [] h in omega arith
