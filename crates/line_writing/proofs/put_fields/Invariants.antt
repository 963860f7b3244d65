use Rattle.basics.proofs.Basics.{◌≤◌, ◌-◌, length}
use Rattle.line_text.proofs.Appends.{Rest}
use Rattle.line_fields.specs.Fields.{fields_text}
use Rattle.line_fields.specs.Between.Shapes.{fields_from}
use Rattle.line_writing.proofs.put_fields.Given as goal

abbrev pub invariant-loop-i : goal.invariant-loop-i
invariant-loop-i l = (l.shape.count ≤ length l.values) ×
    Rest l.from (fields_text (fields_from l.shape.second 0 l.shape.count l.values)) l.initial.out l.at (fields_text (fields_from l.shape.second l.i (l.shape.count - l.i) l.values)) l.out
