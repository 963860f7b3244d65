-- The lines of points one behind the other, one turn of the loop over them.
use Rattle.basics.proofs.Basics.{◌≡◌, refl, ◌∙◌, ap, List, [], ◌∷◌, ◌++◌, append_assoc, append-nil, ℕ, ◌+◌, suc, zero}
use Rattle.basics.proofs.Basics.{◌*◌, add-zero, add-one, arith, length, drop, take, get_or}
use Rattle.rules.specs.declared.{Point.Point, Register.Register}
use Rattle.rules.specs.Pinned.Register.{no_point}
use Rattle.line_text.specs.Between.Appending.{AppendedWithin}
use Rattle.line_text.proofs.Appends.{room_put}
use Rattle.line_listing.specs.declared.{Listed.Listed}
use Rattle.line_listing.specs.Pinned.Listing.{point_lines, listing_from}
use Rattle.line_listing.specs.Pinned.Pieces.{taken, ListedFrom}

pub listing_none : (p : ℕ) (gs : List Point) → listing_from p (take 0 gs) ≡ []
unfolding listing_from
listing_none p gs = refl

-- where there is no point there are no lines
listing_one : (p n : ℕ) (gs : List Point) →
    listing_from p (take (suc n) gs) ≡ listing_from p (take n gs) ++ point_lines (p + n) (get_or gs n no_point)
unfolding listing_from point_lines
listing_one p zero [] = refl
listing_one p (suc n) [] = refl
listing_one p zero (g ∷ gs) = rw (add-zero p) (append-nil (point_lines p g))
listing_one p (suc n) (g ∷ gs) = let k : p + suc n ≡ p + 1 + n = omega arith in
    rw (k, append_assoc) (ap (λ (l : List ℕ). point_lines p g ++ l) (listing_one (p + 1) n gs))

pub listing_next : (p n : ℕ) (gs : List Point) →
    listing_from p (take (n + 1) gs) ≡ listing_from p (take n gs) ++ point_lines (p + n) (get_or gs n no_point)
listing_next p n gs = rw (add-one n) (listing_one p n gs)

-- what a call answers
abbrev from_to : ℕ → ℕ → Listed
from_to n k = record { next = n; written = k }

pub listed : (r : Register) (from n : ℕ) (o o₁ : List ℕ) (e : ℕ) → n ≡ taken from (length o) →
    AppendedWithin (n * 1443) 0 (listing_from (from + 1) (take n (drop from r.points))) o o₁ e →
    ListedFrom r from o o₁ (from_to (from + n) e)
listed r from n o o₁ e h w = let short = w.short in let p = room_put 0 _ o o₁ e w.text (omega arith) in
    record {
      bytes = rw (← h) p.0;
      answer = rw (← h) (ap (λ (k : ℕ). from_to (from + n) k) (p.1 ∙ omega arith));
    }
