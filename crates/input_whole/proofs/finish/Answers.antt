use Rattle.basics.proofs.Basics.{sym, [], ◌∷◌, arith, length-take-le}
use Rattle.input_whole.proofs.Ends.{missing_taken}
use Rattle.input_whole.proofs.finish.Goals as goal

pub slice_bounds-feed-end : goal.slice_bounds-feed-end
slice_bounds-feed-end c = sym (length-take-le c.min-n.result (10 ∷ []) (omega (arith, c.min-n.ensures)))

pub returns : goal.returns
returns c = rw (missing_taken c.args.s
    c.min-n.result c.min-n.ensures)
    c.feed.ensures
