-- `line_answers::put_total` meets its contract: the line is put piece by piece, where there is room for all of it.
use Rattle.basics.proofs.Basics.{sym, ◌∙◌, leb-true, ap, [], List, ℕ, ◌≤◌, ◌+◌, arith, length}
use Rattle.rules.specs.declared.{Volume.Volume, NormalVolume.NormalVolume}
use Rattle.line_text.specs.Ascii.{ascii}
use Rattle.line_text.specs.Between.Appending.{Appended}
use Rattle.line_text.specs.Decimal.{decimal}
use Rattle.line_text.proofs.Appends.{Rest, rest_start, rest_next, rest_done}
use Rattle.line_answers.specs.Answers.{volumes_shown, total_line}
use Rattle.line_answers.proofs.LineTexts.{total_pieces, total_pieces_lem}
use Rattle.line_answers.proofs.put_total.Goals as goal

-- the word and the point are put, and the volumes are left
volumes_left : (at p : ℕ) (v : Volume) (n : NormalVolume) (o o₁ o₂ : List ℕ) (at₁ at₂ : ℕ) →
    at + length (total_line p v n) ≤ length o → Appended at (ascii "total;") o o₁ at₁ →
    Appended at₁ (decimal p []) o₁ o₂ at₂ → Rest at (total_pieces p v n) o at₂ (volumes_shown v n) o₂
volumes_left at p v n o o₁ o₂ at₁ at₂ h w d = let t = total_pieces p v n in
    let fits : at + length t ≤ length o = omega (arith, ap length (total_pieces_lem p v n)) in
    let s = rest_next at t o _ (ascii "total;") _ _ _ _ (rest_start at t o fits) w in
    rest_next at t o _ (decimal p []) _ _ _ _ s d

pub put_volumes-requires : goal.put_volumes-requires
put_volumes-requires c = let a = c.args in
    let fit = leb-true _ _ (sym c.has_room.ensures ∙ c.if-not-has_room.false) in
    let room : a.at + length (total_line a.point a.advance a.normal) ≤ length a.out.now = omega (arith, c.total_size.ensures) in
    let r = volumes_left a.at a.point a.advance a.normal a.out.now _ _ _ _ room c.put_word-point_at.ensures c.put_number-volumes_at.ensures in
    omega (arith, r.end, r.long, r.fits)

pub returns : goal.returns
returns c = let a = c.args in
    let fit = leb-true _ _ (sym c.has_room.ensures ∙ c.if-not-has_room.false) in
    let room : a.at + length (total_line a.point a.advance a.normal) ≤ length a.out.now = omega (arith, c.total_size.ensures) in
    let r = volumes_left a.at a.point a.advance a.normal a.out.now _ _ _ _ room c.put_word-point_at.ensures c.put_number-volumes_at.ensures in
    rw (total_pieces_lem a.point a.advance a.normal)
    (rest_done a.at (total_pieces a.point a.advance a.normal) a.out.now _ _ _ _ _ r c.put_volumes.ensures)
