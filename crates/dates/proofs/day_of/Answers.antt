-- `day_of` meets its contract: a date that fails a test is not real, one that passes them all is.
use Rattle.basics.proofs.Basics.{◌≡◌, ◌+◌, ◌-◌, sym, arith, rules}
use Rattle.dates.proofs.Real.{no_date, found}
use Rattle.dates.proofs.day_of.Goals as goal
use Rattle.dates.proofs.day_of.Goals.{then-not-contains-via-then-not-contains, then-not-contains-via-else-not-contains+then-not-contains-2}

pub returns-then-not-contains : goal.returns-then-not-contains
returns-then-not-contains c = sym (no_date _ _ _ (λ r. elim c.then-not-contains.branch [
  | then-not-contains-via-then-not-contains w ↦ grind arith
  | then-not-contains-via-else-not-contains+then-not-contains-2 w ↦ grind arith
]))

pub returns-then-not-contains-3 : goal.returns-then-not-contains-3
returns-then-not-contains-3 c = let back : 2000 + (c.args.year - 2000) ≡ c.args.year = grind arith in
    let long = rw (c.new-m.ensures.0, c.new-m.ensures.1, back) at c.length.ensures.0 in
    sym (no_date _ _ _ (λ r. grind arith))

pub returns : goal.returns
returns c =
    let back : 2000 + (c.args.year - 2000) ≡ c.args.year = grind arith in
    let long = rw (c.new-m.ensures.0, c.new-m.ensures.1, back) at c.length.ensures.0 in
    let a = c.args in
    found _ _ _ _ (search rules) (rw (c.new-m.ensures.0, c.new-m.ensures.1) at c.day_number.ensures.0)
