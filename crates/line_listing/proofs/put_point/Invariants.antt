use Rattle.basics.proofs.Basics.{◌*◌}
use Rattle.line_text.specs.Between.Appending.{AppendedWithin}
use Rattle.line_listing.specs.Pinned.Listing.{period_lines}
use Rattle.line_listing.proofs.put_point.Given as goal

abbrev pub invariant-loop-q : goal.invariant-loop-q
invariant-loop-q l = AppendedWithin (58 * l.q-index) l.at (period_lines l.p l.q-index l.fn.g.history.periods) l.initial.out l.out l.end
