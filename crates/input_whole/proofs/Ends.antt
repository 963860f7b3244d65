-- A last line without its line feed, and the closing lines.
use Rattle.basics.proofs.Basics.{◌≡◌, sym, ap, true, false, List, [], ◌∷◌, ◌≤◌, ℕ, min, not-suc-le-zero, dec_le, arith}
use Rattle.basics.proofs.Basics.{length, take, ne_eqb, eq-eqb}
use Rattle.line_text.proofs.Appends.{put_none}
use Rattle.line_listing.specs.declared.{Listed.Listed}
use Rattle.line_listing.specs.Pinned.Pieces.{ListedFrom}
use Rattle.input_desk.specs.declared.{Desk.Desk}
use Rattle.input_pieces.specs.declared.{Session.Session}
use Rattle.input_pieces.proofs.Within.{put_within}
use Rattle.input_whole.specs.Pinned.Ends.{missing_feed, closing_piece, ClosedFrom}

pub missing_taken : (s : Session) (n : ℕ) → n ≡ min s.part.len 1 → missing_feed s ≡ take n (10 ∷ [])
missing_taken s n e = elim (dec_le 1 s.part.len) [
  | yes h ↦ (let k : n ≡ 1 = omega arith in rw (k, ne_eqb s.part.len 0 (λ z. not-suc-le-zero {n = 0} (omega arith))))
  | no h ↦ (let k : n ≡ 0 = omega arith in rw (k, eq-eqb s.part.len 0 (omega arith)))
]

pub closed_ready : (d : Desk) (from : ℕ) (before after : List ℕ) (x : Listed) → d.ready ≡ true →
    ListedFrom d.register from before after x → ClosedFrom d from before after x
closed_ready d from before after x e h = record { bytes = rw e h.bytes; answer = rw e h.answer }

pub closed_unready : (d : Desk) (from : ℕ) (out : List ℕ) → d.ready ≡ false →
    ClosedFrom d from out out (record { next = 32; written = 0 })
closed_unready d from out e = record { bytes = rw e (sym (put_none 0 out)); answer = rw e }

-- what is written stands within the buffer
pub closed_within : (d : Desk) (from : ℕ) (before after : List ℕ) (x : Listed) → ClosedFrom d from before after x → x.written ≤ length after
closed_within d from before after x h =
    let e : x.written ≡ length (closing_piece d from (length before)) = ap (λ (y : Listed). y.written) h.answer in
    omega (arith, e, put_within (closing_piece d from (length before)) before after h.bytes)
