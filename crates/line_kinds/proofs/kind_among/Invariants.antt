use Rattle.basics.proofs.Basics.{◌≡◌, drop}
use Rattle.line_kinds.specs.Pinned.Naming.{kind_in}
use Rattle.line_kinds.proofs.kind_among.Given as goal

abbrev pub invariant-loop-kind : goal.invariant-loop-kind
invariant-loop-kind l = kind_in l.kinds l.w ≡ kind_in (drop l.kind-index l.kinds) l.w
