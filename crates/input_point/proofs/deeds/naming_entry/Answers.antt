-- The newest period gets the holder, or a new one, or none where all slots are taken.
use Rattle.basics.proofs.Basics.{◌≡◌, sym, ◌∙◌, min, arith, lt-ltb, le-ltb}
use Rattle.input_point.specs.Between.Deeds.{naming_deed}
use Rattle.input_point.proofs.deeds.naming_entry.Goals as goal

pub returns-then-starts_on : goal.returns-then-starts_on
unfolding naming_deed
returns-then-starts_on c = rw (sym c.starts_on.ensures ∙ c.if-starts_on.true, c.newest_place.ensures)

pub returns-then-n-lt24 : goal.returns-then-n-lt24
unfolding naming_deed
returns-then-n-lt24 c = let n = c.args.newest.now.count in let k : min n 24 ≡ n = omega arith in
    rw (sym c.starts_on.ensures ∙ c.if-starts_on.false, k, lt-ltb n 24 c.if-n-lt24.true)

pub returns : goal.returns
unfolding naming_deed
returns c = let n = c.args.newest.now.count in
    rw (sym c.starts_on.ensures ∙ c.if-starts_on.false, le-ltb (min n 24) 24 (omega arith))
    c.kept_entry.ensures
