-- `line_fields::field_at` meets its contract: a `;`, and then what the sort asks for.
use Rattle.basics.proofs.Basics.{sym, drop_of_length-le, ne_eqb, eq-eqb}
use Rattle.line_values.proofs.Steps.{cons_at}
use Rattle.line_fields.specs.Between.With.{field_with}
use Rattle.line_fields.proofs.Handed.{field_step, known_step, found_known, known_number}
use Rattle.line_fields.proofs.field_at.Goals as goal

pub returns-in_err-get : goal.returns-in_err-get
unfolding field_with
returns-in_err-get c = let none = drop_of_length-le c.args.s.now c.in_err-get.ensures.lookup.3 in
    record { found = rw none c.from_residual.ensures; after = rw none }

pub returns-then-branch-ne59 : goal.returns-then-branch-ne59
returns-then-branch-ne59 c = let byte = c.in_ok-get.ensures.lookup.3 in let other = ne_eqb _ 59 c.if-branch-ne59.true in record {
  found = rw (cons_at _ _ byte.0, ← byte.1 0, field_step, other);
  after = rw (cons_at _ _ byte.0, ← byte.1 0, known_step, other);
}

pub returns-in-Date : goal.returns-in-Date
returns-in-Date c = let byte = c.in_ok-get.ensures.lookup.3 in let here = eq-eqb _ 59 c.if-branch-ne59.false in record {
  found = rw (cons_at _ _ byte.0, ← byte.1 0, field_step, here, c.in-Date.is) c.known_date_at.ensures.found;
  after = rw (cons_at _ _ byte.0, ← byte.1 0, known_step, here, c.in-Date.is) c.known_date_at.ensures.after;
}

pub returns-in-Number : goal.returns-in-Number
returns-in-Number c = let byte = c.in_ok-get.ensures.lookup.3 in let here = eq-eqb _ 59 c.if-branch-ne59.false in record {
  found = rw (cons_at _ _ byte.0, ← byte.1 0, field_step, here, c.in-Number.is, found_known) c.number_at.ensures;
  after = rw (cons_at _ _ byte.0, ← byte.1 0, known_step, here, c.in-Number.is) (sym (known_number _ _));
}
