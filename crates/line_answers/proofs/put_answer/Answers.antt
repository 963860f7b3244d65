-- `line_answers::put_answer` meets its contract: the line is put piece by piece, where there is room for all of it.
use Rattle.basics.proofs.Basics.{◌∙◌, ap, List, [], ◌∷◌, ◌≤◌, ℕ, ◌+◌, arith, length, sym, leb-true, leb-false}
use Rattle.rules.specs.Answers.{is_accepted, number, date}
use Rattle.line_text.specs.Decimal.{decimal}
use Rattle.line_text.proofs.Appends.{not_appended, rest_start, rest_next, rest_done}
use Rattle.line_kinds.specs.Kinds.{word}
use Rattle.line_answers.specs.Answers.{shown_kind, verdict, date_shown, answer_line}
use Rattle.line_answers.proofs.LineTexts.{answer_pieces, answer_pieces_lem, answer_size}
use Rattle.line_answers.proofs.put_answer.Goals as goal

pub returns-then-not-has_room : goal.returns-then-not-has_room
returns-then-not-has_room c = let a = c.args in
    let size = answer_size a.kind a.answer _ _ _ c.number_of-n.ensures c.shown_kind-shown.ensures c.answer_size.ensures in
    let none = leb-false _ _ (sym c.has_room.ensures ∙ c.if-not-has_room.true) in
    not_appended a.at (answer_line a.kind a.answer) a.out.now (omega arith)

pub returns : goal.returns
returns c = let n = c.number_of-n in
    let k = c.shown_kind-shown in let a = c.args in
    let pieces = answer_pieces_lem a.kind a.answer in
    let t = answer_pieces a.kind a.answer in
    let o = a.out.now in
    let size = answer_size a.kind a.answer _ _ _ n.ensures k.ensures c.answer_size.ensures in
    let room = leb-true _ _ (sym c.has_room.ensures ∙ c.if-not-has_room.false) in
    let fits : a.at + length t ≤ length o = omega (arith, ap length pieces) in
    let s₀ = rest_start a.at t o fits in let w = word (shown_kind a.kind (number a.answer)) in
    let s₁ = rest_next a.at t o _ w _ _ _ _ s₀ (rw k.ensures at c.put_kind-verdict_at.ensures) in
    let v : List ℕ = 59 ∷ verdict (is_accepted a.answer) ∷ 59 ∷ [] in
    let s₂ = rest_next a.at t o _ v _ _ _ _ s₁ c.put_verdict-number_at.ensures in
    let d = decimal (number a.answer) [] in
    let s₃ = rest_next a.at t o _ d _ _ _ _ s₂ (rw (c.from.ensures ∙ n.ensures) at c.put_number-number_end.ensures) in
    let s₄ = rest_next a.at t o _ (59 ∷ []) _ _ _ _ s₃ c.put_byte-date_at.ensures in
    let day = date_shown (date a.answer) [] in
    let s₅ = rest_next a.at t o _ day _ _ _ _ s₄ c.put_date-date_end.ensures in
    rw pieces (rest_done a.at t o _ _ _ _ _ s₅ c.put_byte.ensures)
