-- What is taken stands within what was read, and what is written within its buffer.
use Rattle.basics.proofs.Basics.{sym, arith, length-take-le}
use Rattle.input_pieces.proofs.Within.{fed_within}
use Rattle.input_whole.proofs.Taken.{part_taken}
use Rattle.standard_input.proofs.Leads.{leads_first, leads_on}
use Rattle.standard_input.proofs.read_all.Goals as goal

pub loop-init : goal.loop-init
loop-init g c = record { within = (omega arith, omega arith); leads = leads_first _ c.start-s.ensures }

pub slice_bounds-out-end : goal.slice_bounds-out-end
slice_bounds-out-end g c = fed_within _ _ _ _ _ c.feed-f.ensures

pub slice_bounds-shown-end : goal.slice_bounds-shown-end
slice_bounds-shown-end g c = sym (length-take-le _ _ (fed_within _ _ _ _ _ c.feed-f.ensures))

pub overflow_add-from : goal.overflow_add-from
overflow_add-from g c =
    let taken = part_taken _ c.loop.input c.loop.from c.loop.end _ _ _ c.feed-f.ensures in record { fits = omega arith }

pub loop-preserved : goal.loop-preserved
loop-preserved g c = let taken = part_taken _ c.loop.input c.loop.from c.loop.end _ _ _ c.feed-f.ensures in
    record {
      within = (omega arith, omega arith);
      leads = leads_on _ _ _ _ _ c.loop.invariant.leads c.feed-f.ensures;
    }
