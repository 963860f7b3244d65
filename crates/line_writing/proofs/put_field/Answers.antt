-- `line_writing::put_field` meets its contract: the `;`, and then what the sort asks for.
use Rattle.line_writing.proofs.FieldLoops.{field_put}
use Rattle.line_writing.proofs.put_field.Goals as goal

pub returns-in-Date : goal.returns-in-Date
returns-in-Date c = let told = c.in-Date.is in rw told
    (field_put c.args.at _ c.args.out.now _ _ _ _ (rw told at c.requires) c.put_byte-begin.ensures
    c.put_day.ensures)

pub returns-in-Number : goal.returns-in-Number
returns-in-Number c = let told = c.in-Number.is in rw told
    (field_put c.args.at _ c.args.out.now _ _ _ _ (rw told at c.requires) c.put_byte-begin.ensures
    c.put_number.ensures)
