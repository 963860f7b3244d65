-- What a call wrote of the closing lines stands within the buffer.
use Rattle.basics.proofs.Basics.{sym, length-take-le}
use Rattle.input_whole.proofs.Ends.{closed_within}
use Rattle.registre.proofs.write_closing.Goals as goal

pub slice_bounds-out-end : goal.slice_bounds-out-end
slice_bounds-out-end g c = closed_within _ _ _ _ _ c.close-listed.ensures

pub slice_bounds-write_out-end : goal.slice_bounds-write_out-end
slice_bounds-write_out-end g c = sym (length-take-le _ _ (closed_within _ _ _ _ _ c.close-listed.ensures))
