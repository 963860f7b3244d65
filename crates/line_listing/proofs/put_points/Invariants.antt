use Rattle.basics.proofs.Basics.{◌+◌, ◌*◌, drop, take}
use Rattle.line_text.specs.Between.Appending.{AppendedWithin}
use Rattle.line_listing.specs.Pinned.Listing.{listing_from}
use Rattle.line_listing.proofs.put_points.Given as goal

abbrev pub invariant-loop-i : goal.invariant-loop-i
invariant-loop-i l =
    AppendedWithin (l.i * 1443) 0 (listing_from (l.from + 1) (take l.i (drop l.from l.points))) l.initial.out l.out l.at
