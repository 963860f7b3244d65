-- `line_answers::put_period` meets its contract: the line is put piece by piece, where there is room for all of it.
use Rattle.basics.proofs.Basics.{◌≡◌, sym, ◌∙◌, leb-true, ap, [], ◌∷◌, List, ℕ, ◌≤◌, ◌+◌, arith, length}
use Rattle.rules.specs.declared.{Period.Period}
use Rattle.line_text.specs.Between.Appending.{Appended}
use Rattle.line_text.specs.Decimal.{decimal}
use Rattle.line_text.specs.Days.{day_text}
use Rattle.line_text.proofs.Appends.{Rest, rest_start, rest_next, rest_done}
use Rattle.line_answers.specs.Answers.{volumes_shown, period_line}
use Rattle.line_answers.proofs.LineTexts.{period_pieces, period_pieces_lem}
use Rattle.line_answers.proofs.put_period.Goals as goal

-- the point, the start and the holder are put, and the volumes are left
module _ (at p : ℕ) (q : Period) (start holder : ℕ) (hs : start ≡ q.start) (hh : holder ≡ q.holder) (o o₁ o₂ o₃ o₄ o₅ : List ℕ) (at₁ at₂ at₃ at₄ at₅ : ℕ)
    (h : at + length (period_line p q) ≤ length o) (w₁ : Appended at (decimal p []) o o₁ at₁)
    (w₂ : Appended at₁ (59 ∷ []) o₁ o₂ at₂) (w₃ : Appended at₂ (day_text start []) o₂ o₃ at₃)
    (w₄ : Appended at₃ (59 ∷ []) o₃ o₄ at₄) (w₅ : Appended at₄ (decimal holder []) o₄ o₅ at₅) where
  volumes_left : Rest at (period_pieces p q) o at₅ (volumes_shown q.volume q.normal) o₅
  volumes_left = let t = period_pieces p q in
      let fits : at + length t ≤ length o = omega (arith, ap length (period_pieces_lem p q)) in
      let s₁ = rest_next at t o _ (decimal p []) _ _ _ _ (rest_start at t o fits) w₁ in
      let s₂ = rest_next at t o _ (59 ∷ []) _ _ _ _ s₁ w₂ in
      let s₃ = rest_next at t o _ (day_text q.start []) _ _ _ _ s₂ (rw hs at w₃) in
      let s₄ = rest_next at t o _ (59 ∷ []) _ _ _ _ s₃ w₄ in
      rest_next at t o _ (decimal q.holder []) _ _ _ _ s₄ (rw hh at w₅)

pub put_volumes-requires : goal.put_volumes-requires
put_volumes-requires c = let a = c.args in
    let fit = leb-true _ _ (sym c.has_room.ensures ∙ c.if-not-has_room.false) in
    let room : a.at + length (period_line a.point a.period) ≤ length a.out.now = omega (arith, c.period_size.ensures) in
    let r = volumes_left a.at a.point a.period _ _ c.from.ensures c.from-holder.ensures a.out.now _ _ _ _ _ _ _ _ _ _ room c.put_number-point_end.ensures
    c.put_byte-start_at.ensures c.put_day-start_end.ensures c.put_byte-holder_at.ensures c.put_number-volumes_at.ensures in
    omega (arith, r.end, r.long, r.fits)

pub returns : goal.returns
returns c = let a = c.args in
    let fit = leb-true _ _ (sym c.has_room.ensures ∙ c.if-not-has_room.false) in
    let room : a.at + length (period_line a.point a.period) ≤ length a.out.now = omega (arith, c.period_size.ensures) in
    let r = volumes_left a.at a.point a.period _ _ c.from.ensures c.from-holder.ensures a.out.now _ _ _ _ _ _ _ _ _ _ room c.put_number-point_end.ensures
    c.put_byte-start_at.ensures c.put_day-start_end.ensures c.put_byte-holder_at.ensures c.put_number-volumes_at.ensures in
    rw (period_pieces_lem a.point a.period)
    (rest_done a.at (period_pieces a.point a.period) a.out.now _ _ _ _ _ r c.put_volumes.ensures)
