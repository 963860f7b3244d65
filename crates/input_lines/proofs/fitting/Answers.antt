use Rattle.basics.proofs.Basics.{add-one, arith}
use Rattle.std.proofs.lemmas.Grind.{common_steps}
use Rattle.input_lines.proofs.Feeds.{fitting_feed, fitting_other}
use Rattle.input_lines.proofs.fitting.Goals as goal

pub loop-i-preserved : goal.loop-i-preserved
loop-i-preserved c = let l = c.loop-i in let p = c.args.piece.now in
    let feed = fitting_feed l.left p l.i (omega arith) in let other = fitting_other l.left p l.i (omega arith) in
    rw (add-one l.i) (grind (arith, common_steps, l.invariant, feed, other))
