-- What is written lies in the buffer, and what is taken in the piece.
use Rattle.basics.proofs.Basics.{sym, arith, rules, length-take-le}
use Rattle.input_pieces.proofs.Within.{fed_within}
use Rattle.vectors.proofs.Within.{taken_of}
use Rattle.vectors.proofs.ways.answered.Goals as goal

pub slice_bounds-then-end : goal.slice_bounds-then-end
slice_bounds-then-end c = fed_within _ _ _ _ _ c.feed-f.ensures

pub slice_bounds-then-end-in-loop-rest : goal.slice_bounds-then-end-in-loop-rest
slice_bounds-then-end-in-loop-rest c = sym (length-take-le _ _ (fed_within _ _ _ _ _ c.feed-f.ensures))

pub overflow_sub-n : goal.overflow_sub-n
overflow_sub-n c = (taken_of _ _ _ _ _ _ c.feed-f.ensures).0

pub slice_bounds-rest-count : goal.slice_bounds-rest-count
slice_bounds-rest-count c = (taken_of _ _ _ _ _ _ c.feed-f.ensures).1

pub slice_bounds-rest-start : goal.slice_bounds-rest-start
slice_bounds-rest-start c = let within = (taken_of _ _ _ _ _ _ c.feed-f.ensures).1 in search rules
