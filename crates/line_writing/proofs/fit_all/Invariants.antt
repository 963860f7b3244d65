use Rattle.basics.proofs.Basics.{◌≡◌, ◌≤◌, ◌-◌, length}
use Rattle.line_fields.specs.Fields.{fit_all}
use Rattle.line_fields.specs.Between.Shapes.{fields_from}
use Rattle.line_writing.proofs.fit_all.Given as goal

abbrev pub invariant-loop-i : goal.invariant-loop-i
invariant-loop-i l = (l.shape.count ≤ length l.values) ×
    (fit_all (fields_from l.shape.second 0 l.shape.count l.values) ≡ fit_all (fields_from l.shape.second l.i (l.shape.count - l.i) l.values))
