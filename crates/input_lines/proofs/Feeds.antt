-- Laws of line feeds: where the first one stands, how many there are, and how many bytes have no more than n of them.
use Rattle.basics.proofs.Basics.{◌≡◌, refl, List, [], ◌∷◌, ◌≤◌, ℕ, ◌-◌}
use Rattle.basics.proofs.Basics.{◌<◌, suc, zero, not-suc-le-zero, le_of_suc-le-suc, arith, eqb, length, drop, take}
use Rattle.basics.proofs.Basics.{get_or, drop-cons, ne_eqb, eq-eqb, cases}
use Rattle.basics.proofs.Basics.{ltb, ltb-false}
use Rattle.std.proofs.Math.Numerals.{one-add}
use Rattle.std.specs.Prelude.{position, ◌==◌, Option}
use Rattle.std.specs.List.{position_or_len}
use Rattle.std.specs.Option.{unwrap_or}
use Rattle.std.proofs.lemmas.List.Recursion.{is_position_or_len}
use Rattle.input_lines.specs.Between.Feeds.{until_feed, fitting}
use Rattle.input_lines.specs.Lines.{feeds}

-- ---- the first line feed

pub until_here : (l : List ℕ) (i : ℕ) → i < length l → get_or l i 0 ≡ 10 → until_feed (drop i l) ≡ 0
unfolding until_feed
until_here l i h e = rw (drop-cons l i 0 h, eq-eqb _ _ e)

pub until_later : (l : List ℕ) (i : ℕ) → i < length l → (get_or l i 0 ≡ 10 → ⊥) → until_feed (drop i l) ≡ suc (until_feed (drop (suc i) l))
unfolding until_feed
until_later l i h e = rw (drop-cons l i 0 h, ne_eqb _ _ e)

pub until_le : (l : List ℕ) → until_feed l ≤ length l
unfolding until_feed
until_le [] = omega arith
until_le (b ∷ l) = let rest = until_le l in cases (eqb b 10) (λ e. rw e (omega arith)) (λ e. rw e (omega arith))

-- the place of the first one, or the end
pub until_place : (l : List ℕ) → unwrap_or (position (λ b. b == 10) l) (length l) ≡ until_feed l
unfolding until_feed
until_place l = let e : until_feed l ≡ position_or_len (λ b. b == 10) l =
    is_position_or_len until_feed (λ b. b == 10) refl (λ x xs. rw (one-add (until_feed xs))) l in
    cases (ltb (until_feed l) (length l)) (λ t. rw (← e, t)) (λ f. rw (← e, f) (omega (arith, until_le l, ltb-false (until_feed l) (length l) f)))

-- the same of a slice that is the list
pub until_slice : {l x : List ℕ} {o : Option ℕ} → o ≡ position (λ b. b == 10) x → x ≡ l → unwrap_or o (length x) ≡ until_feed l
until_slice {l} h e = rw (h, e) (until_place l)

-- ---- how many there are

-- behind the first there is one fewer
pub feeds_behind : (l : List ℕ) → until_feed l < length l → feeds l ≡ suc (feeds (drop (suc (until_feed l)) l))
unfolding feeds until_feed
feeds_behind [] h = absurd (not-suc-le-zero h)
feeds_behind (b ∷ l) h = cases (eqb b 10) (λ e. rw e) (λ e. rw e (feeds_behind l (le_of_suc-le-suc (rw e at h))))

-- ---- how many bytes have no more than n of them

pub fitting_feeds : (n : ℕ) (l : List ℕ) → feeds (take (fitting n l) l) ≤ n
unfolding feeds fitting
fitting_feeds n [] = omega arith
fitting_feeds zero (b ∷ l) = cases (eqb b 10) (λ e. rw e (omega arith)) (λ e. rw (e, e) (fitting_feeds zero l))
fitting_feeds (suc n) (b ∷ l) = let i = fitting_feeds n l in cases (eqb b 10) (λ e. rw e (omega arith)) (λ e. rw e (fitting_feeds (suc n) l))

pub fitting_le : (n : ℕ) (l : List ℕ) → fitting n l ≤ length l
unfolding fitting
fitting_le n [] = omega arith
fitting_le zero (b ∷ l) = let i = fitting_le zero l in cases (eqb b 10) (λ e. rw e (omega arith)) (λ e. rw e (omega arith))
fitting_le (suc n) (b ∷ l) = let i = fitting_le n l in let j = fitting_le (suc n) l in
    cases (eqb b 10) (λ e. rw e (omega arith)) (λ e. rw e (omega arith))

-- where there is room for a line of each byte, all are taken
pub fitting_all : (n : ℕ) (l : List ℕ) → length l ≤ n → fitting n l ≡ length l
unfolding fitting
fitting_all n [] h = refl
fitting_all zero (b ∷ l) h = absurd (not-suc-le-zero h)
fitting_all (suc n) (b ∷ l) h = cases (eqb b 10) (λ e. rw (e, fitting_all n l (le_of_suc-le-suc h)))
    (λ e. rw (e, fitting_all (suc n) l (omega arith)))

-- where a line feed is found and none is left, it stops there
pub fitting_over : (l : List ℕ) (i : ℕ) → i < length l → get_or l i 0 ≡ 10 → fitting 0 (drop i l) ≡ 0
unfolding fitting
fitting_over l i h e = rw (drop-cons l i 0 h, eq-eqb _ _ e)

-- any other byte is taken, and a line feed leaves one fewer
pub fitting_feed : (n : ℕ) (l : List ℕ) (i : ℕ) → i < length l → get_or l i 0 ≡ 10 → 0 < n →
    fitting n (drop i l) ≡ suc (fitting (n - 1) (drop (suc i) l))
unfolding fitting
fitting_feed zero l i h e k = absurd (not-suc-le-zero k)
fitting_feed (suc n) l i h e k = let z : suc n - 1 ≡ n = omega arith in rw (drop-cons l i 0 h, eq-eqb _ _ e, z)

pub fitting_other : (n : ℕ) (l : List ℕ) (i : ℕ) → i < length l → (get_or l i 0 ≡ 10 → ⊥) →
    fitting n (drop i l) ≡ suc (fitting n (drop (suc i) l))
unfolding fitting
fitting_other zero l i h e = rw (drop-cons l i 0 h, ne_eqb _ _ e)
fitting_other (suc n) l i h e = rw (drop-cons l i 0 h, ne_eqb _ _ e)

-- with room for one line feed some of the bytes fit
pub fitting_some : (n : ℕ) (l : List ℕ) → 0 < n → 0 < length l → 0 < fitting n l
unfolding fitting
fitting_some n [] h k = absurd (not-suc-le-zero k)
fitting_some zero (b ∷ l) h k = absurd (not-suc-le-zero h)
fitting_some (suc n) (b ∷ l) h k = omega arith
