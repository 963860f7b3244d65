-- What a call wrote of the closing lines stands within the buffer.
use Rattle.basics.proofs.Basics.{sym, length-take-le}
use Rattle.input_whole.proofs.Ends.{closed_within}
use Rattle.vectors.proofs.ways.closed.Goals as goal

pub slice_bounds-then-end : goal.slice_bounds-then-end
slice_bounds-then-end c = closed_within _ _ _ _ _ c.close-listed.ensures

pub slice_bounds-then-end-in-loop-from : goal.slice_bounds-then-end-in-loop-from
slice_bounds-then-end-in-loop-from c = sym (length-take-le _ _ (closed_within _ _ _ _ _ c.close-listed.ensures))
