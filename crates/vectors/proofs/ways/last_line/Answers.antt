-- `ways::last_line` is safe: what is written lies in the buffer.
use Rattle.basics.proofs.Basics.{sym, length-take-le}
use Rattle.input_pieces.proofs.Within.{fed_within}
use Rattle.vectors.proofs.ways.last_line.Goals as goal

pub slice_bounds-then-end : goal.slice_bounds-then-end
slice_bounds-then-end c = fed_within _ _ _ _ _ c.finish-f.ensures

pub slice_bounds-then-end-2 : goal.slice_bounds-then-end-2
slice_bounds-then-end-2 c = sym (length-take-le _ _ (fed_within _ _ _ _ _ c.finish-f.ensures))
