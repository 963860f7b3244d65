-- `line_answers::put_volumes` meets its contract: there is room, and the text is put piece by piece.
use Rattle.basics.proofs.Basics.{ap, [], ◌∷◌, ◌≤◌, ◌+◌, arith, length}
use Rattle.line_text.specs.Decimal.{decimal}
use Rattle.line_text.proofs.Appends.{rest_start, rest_next, rest_done}
use Rattle.line_answers.proofs.LineTexts.{volumes_pieces, volumes_pieces_lem}
use Rattle.line_answers.proofs.put_volumes.Goals as goal

pub returns : goal.returns
returns c = let a = c.args in
    let pieces = volumes_pieces_lem a.volume a.normal in let t = volumes_pieces a.volume a.normal in
    let o = a.out.now in let fits : a.at + length t ≤ length o = omega (arith, ap length pieces, c.requires) in
    let s₀ = rest_start a.at t o fits in
    let s₁ = rest_next a.at t o _ (59 ∷ []) _ _ _ _ s₀ c.put_byte-volume_at.ensures in
    let s₂ = rest_next a.at t o _ (decimal a.volume.0 []) _ _ _ _ s₁ c.put_number-volume_end.ensures in
    let s₃ = rest_next a.at t o _ (59 ∷ []) _ _ _ _ s₂ c.put_byte-normal_at.ensures in
    let s₄ = rest_next a.at t o _ (decimal a.normal.0 []) _ _ _ _ s₃ c.put_number-normal_end.ensures in
    rw pieces (rest_done a.at t o _ _ _ _ _ s₄ c.put_byte.ensures)
