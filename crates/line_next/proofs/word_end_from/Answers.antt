-- `line_next::word_end_from` meets its contract: the first `;` or line feed, or the end.
use Rattle.basics.proofs.Basics.{◌≡◌, ◌∙◌, ap, ◌-◌, ◌+◌, arith, length, drop, take, take_all, length-drop}
use Rattle.line_next.specs.Between.NextLine.{stop_at}
use Rattle.line_next.proofs.NextLines.{stop_place}
use Rattle.line_next.proofs.word_end_from.Goals as goal

pub returns : goal.returns
returns c = let buf = c.args.buf.now in let from = c.args.from in let long = length-drop from buf in
    let rest : take (length buf - from) (drop from buf) ≡ drop from buf = take_all (length buf - from) (drop from buf) (omega arith) in
    let e : c.unwrap_or.result ≡ stop_at (drop from buf) = c.unwrap_or.ensures ∙ rw (c.first_stop.ensures, rest) (stop_place (drop from buf)).0 in
    let le = (stop_place (drop from buf)).1 in (ap (◌+◌ from) e, omega arith)
