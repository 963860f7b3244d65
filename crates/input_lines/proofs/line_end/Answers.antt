use Rattle.basics.proofs.Basics.{◌≡◌, ap, ◌∙◌, ◌-◌, ◌+◌, arith, length, drop, take, take_all, length-drop}
use Rattle.input_lines.proofs.Feeds.{until_le, until_slice}
use Rattle.input_lines.proofs.line_end.Goals as goal

pub returns-then-piece-at : goal.returns-then-piece-at
returns-then-piece-at c = let p = c.args.piece.now in omega (arith, until_le (drop c.args.at p), length-drop c.args.at p)

pub returns : goal.returns
returns c = let p = c.args.piece.now in let at = c.args.at in
    let rest : take (length p - at) (drop at p) ≡ drop at p = take_all (length p - at) (drop at p) (omega (arith, length-drop at p)) in
    ap (◌+◌ at) (c.unwrap_or.ensures ∙ until_slice c.first_feed.ensures rest)
