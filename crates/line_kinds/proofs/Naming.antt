-- Which kind a word names: only a kind with that very word, so only one of its length.
use Rattle.basics.proofs.Basics.{◌≡◌, refl, sym, ◌∙◌, ap, true, false, Bool, cond, List, [], ◌∷◌, ℕ, eqb, length}
use Rattle.basics.proofs.Basics.{ne_eqb, eqb-false, ◌<◌, ◌≤◌, ◌+◌, add-one, get_or, drop, drop-cons, drop_of_length-le}
use Rattle.line_values.specs.Pinned.Words.{are_same}
use Rattle.line_values.proofs.Steps.{other_length, same_words}
use Rattle.line_kinds.specs.declared.{Kind.Kind}
use Rattle.line_kinds.specs.Kinds.{kinds, word}
use Rattle.line_kinds.specs.Pinned.Naming.{of_length, kind_in, kind_named}

-- only the kinds whose word is as long are left
pub kind_of_length : (n : ℕ) (ks : List Kind) (w : List ℕ) → length w ≡ n → kind_in ks w ≡ kind_in (of_length n ks) w
unfolding kind_in
kind_of_length n [] w e = refl
kind_of_length n (k ∷ ks) w e = go (kind_of_length n ks w e) (eqb (length (word k)) n) refl where
  go : kind_in ks w ≡ kind_in (of_length n ks) w → (b : Bool) → eqb (length (word k)) n ≡ b →
      cond (are_same w (word k)) k (kind_in ks w) ≡ kind_in (cond b (k ∷ of_length n ks) (of_length n ks)) w
  go ih true q = ap (cond (are_same w (word k)) k) ih
  go ih false q = let other : are_same w (word k) ≡ false = other_length w (word k) (λ s. eqb-false _ _ q (sym s ∙ e)) in
      rw other ih

-- a word of another length names none
pub kind_of_none : (w : List ℕ) → (length w ≡ 1 → ⊥) → (length w ≡ 2 → ⊥) → (length w ≡ 3 → ⊥) → (length w ≡ 4 → ⊥) →
    (length w ≡ 5 → ⊥) → (length w ≡ 6 → ⊥) → (length w ≡ 8 → ⊥) → kind_named w ≡ Kind.Unknown
unfolding kind_in
kind_of_none w n1 n2 n3 n4 n5 n6 n8 = kind_of_length (length w) kinds w refl ∙
    rw (other 1 n1, other 2 n2, other 3 n3, other 4 n4, other 5 n5, other 6 n6, other 8 n8) where
      other : (n : ℕ) → (length w ≡ n → ⊥) → eqb n (length w) ≡ false
      other n h = ne_eqb n (length w) (λ e. h (sym e))

-- one step through a list of kinds
module _ (ks : List Kind) (w : List ℕ) (i : ℕ) where
  pub kind_here : i < length ks → are_same w (word (get_or ks i Kind.Set)) ≡ true → kind_in (drop i ks) w ≡ get_or ks i Kind.Set
  unfolding kind_in
  kind_here h e = rw (drop-cons ks i Kind.Set h, e)

  pub kind_past : i < length ks → are_same w (word (get_or ks i Kind.Set)) ≡ false → kind_in (drop i ks) w ≡ kind_in (drop (i + 1) ks) w
  unfolding kind_in
  kind_past h e = rw (drop-cons ks i Kind.Set h, e, add-one i)

  pub kind_end : length ks ≤ i → kind_in (drop i ks) w ≡ Kind.Unknown
  unfolding kind_in
  kind_end h = rw (drop_of_length-le ks h)

-- a kind that was found is Unknown, or its word is what was looked for
pub data NamedBy (w : List ℕ) : Kind → Type 0 where
  named : {k : Kind} → w ≡ word k → NamedBy w k
  unnamed : NamedBy w Kind.Unknown

pub found : (ks : List Kind) (w : List ℕ) → NamedBy w (kind_in ks w)
unfolding kind_in
found [] w = unnamed
found (k ∷ ks) w = go (found ks w) (are_same w (word k)) refl where
  go : NamedBy w (kind_in ks w) → (b : Bool) → are_same w (word k) ≡ b → NamedBy w (cond b k (kind_in ks w))
  go ih true e = named (same_words w (word k) e)
  go ih false e = ih
