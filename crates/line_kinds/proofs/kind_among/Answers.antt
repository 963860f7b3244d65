-- `line_kinds::kind_among` meets its contract: the kinds that are left say which one it is.
use Rattle.basics.proofs.Basics.{sym, ◌∙◌, ap}
use Rattle.line_values.specs.Pinned.Words.{are_same}
use Rattle.line_values.proofs.Steps.{pointwise_is}
use Rattle.line_kinds.proofs.Naming.{kind_here, kind_past, kind_end}
use Rattle.line_kinds.proofs.kind_among.Goals as goal

pub returns-then-eq : goal.returns-then-eq
returns-then-eq c = let w = c.args.w.now in
    let same = ap (are_same w) (sym c.row_of.ensures.word) ∙ sym (pointwise_is w c.row_of.result.word.now) ∙ sym c.eq.ensures ∙ c.if-eq.true in
    sym (c.loop-kind.invariant ∙ kind_here c.args.kinds.now w c.loop-kind.kind-index c.loop-kind-test.true same)

pub loop-kind-preserved : goal.loop-kind-preserved
loop-kind-preserved c = let w = c.args.w.now in
    let other = ap (are_same w) (sym c.row_of.ensures.word) ∙ sym (pointwise_is w c.row_of.result.word.now) ∙ sym c.eq.ensures ∙ c.if-eq.false in
    c.loop-kind.invariant ∙ kind_past c.args.kinds.now w c.loop-kind.kind-index c.loop-kind-test.true other

pub returns : goal.returns
returns c = sym (c.loop-kind.invariant ∙ kind_end c.args.kinds.now c.args.w.now c.loop-kind.kind-index c.loop-kind-test.false)
