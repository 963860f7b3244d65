use Rattle.basics.proofs.Basics.{◌≡◌, [], ◌≤◌, ◌-◌, length, drop, take}
use Rattle.basics.proofs.Basics.{replicate}
use Rattle.line_fields.specs.Between.With.{fields_with}
use Rattle.line_fields.specs.Between.Shapes.{most_fields, sorts_from}
use Rattle.line_fields.proofs.Handed.{handed}
use Rattle.line_fields.proofs.read_fields.Given as goal

abbrev pub invariant-loop-i : goal.invariant-loop-i
invariant-loop-i l =
    ((l.shape.count ≤ most_fields) × (length l.values ≡ most_fields)) × (drop l.i l.values ≡ replicate (most_fields - l.i) 0) ×
    (handed l.line l.from (fields_with l.initial.known (sorts_from l.shape.second 0 l.shape.count) [] (drop l.from l.line)) ≡
    handed l.line l.at (fields_with l.known (sorts_from l.shape.second l.i (l.shape.count - l.i)) (take l.i l.values) (drop l.at l.line)))
