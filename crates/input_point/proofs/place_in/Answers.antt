-- The place of a point, one before its number.
use Rattle.basics.proofs.Basics.{sym, ◌∙◌, rules}
use Rattle.input_point.proofs.Apart.{not_at}
use Rattle.input_point.proofs.Places.{point_in, point_lt, place_none}
use Rattle.input_point.proofs.place_in.Goals as goal

pub returns-in_default : goal.returns-in_default
returns-in_default c = (not_at _ _ c.args.a c.in_default.not-At, search rules)

pub returns-then-outside : goal.returns-then-outside
returns-then-outside c = (rw c.in-At.is (place_none c.in-At.point (sym c.outside.ensures ∙ c.if-outside.true)), search rules)

pub overflow_sub-result : goal.overflow_sub-result
overflow_sub-result c = (point_in _ (sym c.outside.ensures ∙ c.if-outside.false)).0

pub returns : goal.returns
returns c = (
  rw (c.in-At.is, ← c.outside.ensures, c.if-outside.false),
  point_lt _ (sym c.outside.ensures ∙ c.if-outside.false),
)
