-- Texts put into a buffer one behind the other, and what a writer's contract says where there is room.
use Rattle.basics.proofs.Basics.{◌≡◌, refl, sym, ◌∙◌, ap, List, [], ◌++◌, append_assoc, ◌≤◌, ℕ, ◌-◌, ◌+◌, ◌<◌, suc}
use Rattle.basics.proofs.Basics.{zero, add-zero, zero-add, add_assoc, arith, leb, length, drop, take, length-append}
use Rattle.basics.proofs.Basics.{replicate, take-append-drop, length-replicate, length-take-le, drop-drop, take_at}
use Rattle.basics.proofs.Basics.{drop_at, paste, take-length, sets, sets-eq, length-sets, le-leb, lt-leb, leb-true}
use Rattle.basics.proofs.Basics.{leb-false, cases}
use Rattle.line_text.specs.Between.Appending.{put, Appended}

-- putting a text is storing its bytes
pub put_sets : (at : ℕ) (t o : List ℕ) → at + length t ≤ length o → sets o at t ≡ put at t o
unfolding put
put_sets at t o h = sets-eq t o at h ∙ append_assoc (take at o) t (drop (at + length t) o)

pub put_length : (at : ℕ) (t o : List ℕ) → at + length t ≤ length o → length (put at t o) ≡ length o
put_length at t o h = sym (ap length (put_sets at t o h)) ∙ length-sets o at t

pub put_none : (at : ℕ) (o : List ℕ) → put at [] o ≡ o
unfolding put
put_none at o = rw (add-zero at) (take-append-drop at o)

module _ (at : ℕ) (t o : List ℕ) (h : at + length t ≤ length o) where
  front_length : length (take at o ++ t) ≡ at + length t
  front_length = rw (length-append, length-take-le at o (omega arith))

  -- what is behind a text, and what is before its end
  pub put_drop : drop (at + length t) (put at t o) ≡ drop (at + length t) o
  unfolding put
  put_drop = rw (← append_assoc (take at o) t (drop (at + length t) o)) (drop_at (take at o ++ t) _ (at + length t) front_length)

  pub put_take : take (at + length t) (put at t o) ≡ take at o ++ t
  unfolding put
  put_take = rw (← append_assoc (take at o) t (drop (at + length t) o)) (take_at (take at o ++ t) _ (at + length t) front_length)

-- two texts, one behind the other, are one
pub put_append : (at : ℕ) (t u o : List ℕ) → at + length t ≤ length o → put (at + length t) u (put at t o) ≡ put at (t ++ u) o
unfolding put
put_append at t u o h = let far : drop (at + length t + length u) (put at t o) ≡ drop (at + length (t ++ u)) o =
    rw (← drop-drop, put_drop at t o h, drop-drop, length-append, add_assoc) in
    rw (put_take at t o h, far, append_assoc, append_assoc)

-- what a contract says where there is room, and where there is none
module _ (at : ℕ) (t o o' : List ℕ) (r : ℕ) (w : Appended at t o o' r) where
  pub room_put : at + length t ≤ length o → (o' ≡ put at t o) × (r ≡ at + length t)
  room_put h = let e = le-leb (at + length t) (length o) h in (rw e at w.bytes, rw e at w.end)

  pub no_room : length o < at + length t → (o' ≡ o) × (r ≡ at)
  no_room h = let e = lt-leb (at + length t) (length o) h in (rw e at w.bytes, rw e at w.end)

-- and the other way round
pub appended : (at : ℕ) (t o o' : List ℕ) (r : ℕ) → at + length t ≤ length o → o' ≡ put at t o → r ≡ at + length t →
    Appended at t o o' r
appended at t o o' r h e f = let q = le-leb (at + length t) (length o) h in record { bytes = rw q e; end = rw q f }

pub not_appended : (at : ℕ) (t o : List ℕ) → length o < at + length t → Appended at t o o at
not_appended at t o h = let q = lt-leb (at + length t) (length o) h in record { bytes = rw q; end = rw q }

-- Of the text t, put at at into o, the part u is still to be put, at at' into o'.
pub record Rest (at : ℕ) (t o : List ℕ) (at' : ℕ) (u o' : List ℕ) : Type 0 where
  pub same : put at' u o' ≡ put at t o
  pub end : at' + length u ≡ at + length t
  pub long : length o' ≡ length o
  pub fits : at + length t ≤ length o

pub rest_start : (at : ℕ) (t o : List ℕ) → at + length t ≤ length o → Rest at t o at t o
rest_start at t o h = record { same = refl; end = refl; long = refl; fits = h }

-- a writer puts the front of it
pub rest_next : (at : ℕ) (t o : List ℕ) (at₁ : ℕ) (u v o₁ : List ℕ) (at₂ : ℕ) (o₂ : List ℕ) →
    Rest at t o at₁ (u ++ v) o₁ → Appended at₁ u o₁ o₂ at₂ → Rest at t o at₂ v o₂
rest_next at t o at₁ u v o₁ at₂ o₂ p w = let sum = length-append u v in
    let room : at₁ + length u ≤ length o₁ = omega (arith, p.end, p.long, p.fits) in
    let q = room_put at₁ u o₁ o₂ at₂ w room in
    record {
      same = rw (q.0, q.1) (put_append at₁ u v o₁ room) ∙ p.same;
      end = omega (arith, q.1, p.end);
      long = ap length q.0 ∙ put_length at₁ u o₁ room ∙ p.long;
      fits = p.fits;
    }

-- a writer puts all that is left
pub rest_done : (at : ℕ) (t o : List ℕ) (at₁ : ℕ) (u o₁ : List ℕ) (at₂ : ℕ) (o₂ : List ℕ) →
    Rest at t o at₁ u o₁ → Appended at₁ u o₁ o₂ at₂ → Appended at t o o₂ at₂
rest_done at t o at₁ u o₁ at₂ o₂ p w =
    let room : at₁ + length u ≤ length o₁ = omega (arith, p.end, p.long, p.fits) in
    let q = room_put at₁ u o₁ o₂ at₂ w room in appended at t o o₂ at₂ p.fits (q.0 ∙ p.same) (q.1 ∙ p.end)

-- nothing is left
pub rest_none : (at : ℕ) (t o : List ℕ) (at₁ : ℕ) (o₁ : List ℕ) → Rest at t o at₁ [] o₁ → Appended at t o o₁ at₁
rest_none at t o at₁ o₁ p = appended at t o o₁ at₁ p.fits (sym (put_none at₁ o₁) ∙ p.same) (omega (arith, p.end))

-- two texts, put one behind the other into zeros
drop_zeros : (n k : ℕ) → drop k (replicate {A = ℕ} n 0) ≡ replicate (n - k) 0
drop_zeros n zero = let e : n - 0 ≡ n = omega arith in rw e
drop_zeros zero (suc k) = let e : 0 - suc k ≡ 0 = omega arith in rw e
drop_zeros (suc n) (suc k) = let e : suc n - suc k ≡ n - k = omega arith in rw e (drop_zeros n k)

put_zeros : (n : ℕ) (t : List ℕ) → put 0 t (replicate n 0) ≡ t ++ replicate (n - length t) 0
unfolding put
put_zeros n t = rw (zero-add (length t), drop_zeros n (length t))

pub zeros_put : (n : ℕ) (t u o₁ o₂ : List ℕ) (a b : ℕ) → length (t ++ u) ≤ n → Appended 0 t (replicate n 0) o₁ a →
    Appended a u o₁ o₂ b → (b ≡ length (t ++ u)) × (o₂ ≡ (t ++ u) ++ replicate (n - length (t ++ u)) 0)
zeros_put n t u o₁ o₂ a b h v w =
    let room : 0 + length (t ++ u) ≤ length (replicate {A = ℕ} n 0) = omega (arith, length-replicate {A = ℕ} n 0) in
    let next = rest_next 0 (t ++ u) _ 0 t u _ a o₁ (rest_start 0 (t ++ u) (replicate n 0) room) v in
    let all = room_put 0 (t ++ u) _ o₂ b (rest_done 0 (t ++ u) _ a u o₁ b o₂ next w) room in
    (all.1 ∙ zero-add (length (t ++ u)), all.0 ∙ put_zeros n (t ++ u))

-- what every writer keeps, and what stands before its next position
module _ (at : ℕ) (t o o' : List ℕ) (r : ℕ) (w : Appended at t o o' r) where
  pub appended_length : length o' ≡ length o
  appended_length = cases (leb (at + length t) (length o))
      (λ e. let h = leb-true _ _ e in rw (room_put at t o o' r w h).0 (put_length at t o h))
      (λ e. rw (no_room at t o o' r w (leb-false _ _ e)).0)

  pub appended_take : at + length t ≤ length o → take r o' ≡ take at o ++ t
  appended_take h = let p = room_put at t o o' r w h in rw (p.0, p.1) (put_take at t o h)

-- a word that was pasted whole
pub word_pasted : (at : ℕ) (w o : List ℕ) (i : ℕ) → i ≡ length w → paste o at w i ≡ put at w o
unfolding put
word_pasted at w o i e = rw (e, take-length w, append_assoc)
