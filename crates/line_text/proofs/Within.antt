-- Texts of a bounded length, put into a buffer one behind the other.
use Rattle.basics.proofs.Basics.{◌≡◌, sym, ◌∙◌, ap, List, [], ◌++◌, ◌≤◌, ℕ, ◌+◌, arith, leb, length, length-append}
use Rattle.basics.proofs.Basics.{leb-true, leb-false, cases}
use Rattle.line_text.specs.Between.Appending.{Appended, AppendedWithin}
use Rattle.line_text.proofs.Appends.{put_append, put_none, put_length, appended, appended_length, room_put, no_room}

-- nothing is put yet
pub within_none : (at : ℕ) (o : List ℕ) → at ≤ length o → AppendedWithin 0 at [] o o at
within_none at o h =
    record { text = appended at [] o o at (omega arith) (sym (put_none at o)) (omega arith); short = omega arith }

module _ {m at : ℕ} {t o o₁ : List ℕ} {e : ℕ} where
  pub within : Appended at t o o₁ e → length t ≤ m → AppendedWithin m at t o o₁ e
  within w h = record { text = w; short = h }

  -- where there is room, the buffer keeps its length, and the text ends within it
  module _ (w : AppendedWithin m at t o o₁ e) (h : at + m ≤ length o) where
    front : at + length t ≤ length o
    front = let short = w.short in omega arith

    pub within_length : length o₁ ≡ length o
    within_length = ap length (room_put at t o o₁ e w.text front).0 ∙ put_length at t o front

    pub within_end : e ≤ at + m
    within_end = let short = w.short in omega (arith, (room_put at t o o₁ e w.text front).1)

-- a wider bound
pub within_wider : {m n at : ℕ} {t o o₁ : List ℕ} {e : ℕ} → AppendedWithin m at t o o₁ e → m ≤ n
    → AppendedWithin n at t o o₁ e
within_wider w h = let s = w.short in record { text = w.text; short = omega arith }

-- what is left of the room
pub room_left : {m at : ℕ} {t o o₁ : List ℕ} {e : ℕ} (k : ℕ) → AppendedWithin m at t o o₁ e → at + (m + k) ≤ length o
    → e + k ≤ length o₁
room_left k w h = omega (arith, within_length w (omega arith), within_end w (omega arith))

-- where there is room for both, one more text is put
pub within_more : (m k : ℕ) {at : ℕ} {t u o o₁ o₂ : List ℕ} {e₁ e₂ : ℕ} → AppendedWithin m at t o o₁ e₁
    → AppendedWithin k e₁ u o₁ o₂ e₂ → at + (m + k) ≤ length o → AppendedWithin (m + k) at (t ++ u) o o₂ e₂
within_more m k {at} {t} {u} {o} {o₁} {o₂} {e₁} {e₂} w v h = let sum = length-append t u in let short = w.short in
    let short₂ = v.short in let front : at + length t ≤ length o = omega arith in
    let p = room_put at t o o₁ e₁ w.text front in
    let len : length o₁ ≡ length o = ap length p.0 ∙ put_length at t o front in
    let q = room_put e₁ u o₁ o₂ e₂ v.text (omega (arith, p.1)) in
    record {
      text = appended at (t ++ u) o o₂ e₂ (omega arith) (q.0 ∙ rw (p.0, p.1) (put_append at t u o front))
          (omega (arith, p.1, q.1));
      short = omega arith;
    }

-- where a text ends, put or not, stands within the buffer
pub appended_within : {at : ℕ} {t o o₁ : List ℕ} {e : ℕ} → Appended at t o o₁ e → at ≤ length o → e ≤ length o₁
appended_within {at} {t} {o} {o₁} {e} w h = let long = appended_length at t o o₁ e w in cases (leb (at + length t) (length o))
    (λ k. let room = leb-true (at + length t) (length o) k in omega (arith, (room_put at t o o₁ e w room).1))
    (λ k. omega (arith, (no_room at t o o₁ e w (leb-false _ _ k)).1))
