-- The pieces of the closing lines, joined, are the whole listing.
use Rattle.basics.proofs.Basics.{◌≡◌, refl, sym, ◌∙◌, ap, List, [], ◌∷◌, ◌++◌, append_assoc, append-nil, ◌≤◌, ℕ, ◌+◌}
use Rattle.basics.proofs.Basics.{◌<◌, suc, zero, add-zero, arith, length, drop, take, drop-drop, drop-length}
use Rattle.rules.specs.declared.{Point.Point, Register.Register}
use Rattle.line_listing.specs.Pinned.Listing.{point_lines, listing_from, listing}
use Rattle.line_listing.specs.Pinned.Pieces.{taken, piece}
use Rattle.line_listing.specs.Pinned.Pieces.{pieces, reached, left, PiecesJoin}

-- a listing is that of its first n points, and behind it that of the others
pub listing_split : (p n : ℕ) (gs : List Point) → listing_from p (take n gs) ++ listing_from (p + n) (drop n gs) ≡
    listing_from p gs
unfolding listing_from
listing_split p zero gs = rw (add-zero p)
listing_split p (suc n) [] = refl
listing_split p (suc n) (g ∷ gs) = let k : p + suc n ≡ p + 1 + n = omega arith in
    rw (k, append_assoc) (ap (λ (l : List ℕ). point_lines p g ++ l) (listing_split (p + 1) n gs))

one : (r : Register) (from room : ℕ) → piece r from room ++ left r (from + taken from room) ≡ left r from
one r from room = let k : from + taken from room + 1 ≡ from + 1 + taken from room = omega arith in
    rw (k, ← (drop-drop (taken from room) from r.points))
    (listing_split (from + 1) (taken from room) (drop from r.points))

goes_on : (from room : ℕ) → from < 32 → 1443 ≤ room → from < from + taken from room
goes_on from room h k = omega arith

in_range : (from room : ℕ) → from ≤ 32 → from + taken from room ≤ 32
in_range from room h = omega arith

-- calls one behind the other, and what they leave
pub pieces_left : (r : Register) (from : ℕ) (rooms : List ℕ) → pieces r from rooms ++ left r (reached from rooms) ≡
    left r from
unfolding pieces reached
pieces_left r from [] = refl
pieces_left r from (room ∷ rooms) =
    rw append_assoc (ap (λ (l : List ℕ). piece r from room ++ l) (pieces_left r (from + taken from room) rooms)) ∙
    one r from room

none_left : (r : Register) (n : ℕ) → length r.points ≡ n → left r n ≡ []
unfolding listing_from
none_left r n h = rw (← h, drop-length r.points)

all : (r : Register) (rooms : List ℕ) → length r.points ≡ 32 → reached 0 rooms ≡ 32 → pieces r 0 rooms ≡ listing r
unfolding listing
all r rooms h k = sym (append-nil (pieces r 0 rooms)) ∙
    ap (λ (l : List ℕ). pieces r 0 rooms ++ l) (sym (none_left r 32 h) ∙ ap (left r) (sym k)) ∙ pieces_left r 0 rooms

pub pieces_join : PiecesJoin
pieces_join = record { one = one; goes_on = goes_on; in_range = in_range; all = all }
