-- The last line's answer stands within the buffer, and where all is taken no line is under way.
use Rattle.basics.proofs.Basics.{sym, length-take-le, rules}
use Rattle.input_pieces.proofs.Within.{fed_within}
use Rattle.standard_input.proofs.Leads.{taken_whole}
use Rattle.standard_input.proofs.finished.Goals as goal

pub slice_bounds-out-end : goal.slice_bounds-out-end
slice_bounds-out-end g c = fed_within _ _ _ _ _ c.finish-f.ensures

pub slice_bounds-shown-end : goal.slice_bounds-shown-end
slice_bounds-shown-end g c = sym (length-take-le _ _ (fed_within _ _ _ _ _ c.finish-f.ensures))

pub returns : goal.returns
returns g c = taken_whole _ _ _ _ c.finish-f.ensures (search rules) (search rules)
