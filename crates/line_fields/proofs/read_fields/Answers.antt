-- `line_fields::read_fields` meets its contract: the values so far, and what is read from here on, are what is read in all.
use Rattle.basics.proofs.Basics.{◌≡◌, refl, sym, ◌∙◌, ap, true, false, ◌-◌, ◌<◌, arith, length, length-set}
use Rattle.basics.proofs.Basics.{replicate}
use Rattle.line_fields.specs.declared.{KnownDate.KnownDate}
use Rattle.line_fields.specs.Between.With.{fields_with, place_of}
use Rattle.line_fields.specs.Between.Shapes.{most_fields}
use Rattle.line_fields.proofs.FieldSteps.{sorts_next, sorts_none, one_more, zeros_left, fields_in_is, too_many}
use Rattle.line_fields.proofs.Handed.{fields_step, handed_here, reads, known_kept}
use Rattle.line_fields.proofs.read_fields.Goals as goal

pub returns-then-shape-gt-MOST_FIELDS : goal.returns-then-shape-gt-MOST_FIELDS
returns-then-shape-gt-MOST_FIELDS c = let a = c.args in reads a.known.now a.shape a.from a.line.now _ _ _
    (rw (too_many a.known.now a.shape _ c.if-shape-gt-MOST_FIELDS.true)
    (handed_here a.line.now a.from 0 (replicate most_fields 0) false a.known.now (omega arith) refl refl))

pub loop-i-init : goal.loop-i-init
loop-i-init c = let n = c.args.shape.count in let all : n - 0 ≡ n = omega arith in
    ((omega arith, refl), refl, rw all)

pub returns-in_default : goal.returns-in_default
returns-in_default c = let l = c.loop-i in let a = c.args in
    let kept = c.field_at.ensures.after ∙ known_kept l.at _ l.known _ (sym c.field_at.ensures.found ∙ c.in_default.is) in
    reads a.known.now a.shape a.from a.line.now _ _ _
    (rw (fields_in_is a.known.now a.shape _ (omega arith), l.invariant.2, sorts_next _ _ _ c.loop-i-test.true, fields_step, ← c.sort_at-sort.ensures)
    (rw (← c.field_at.ensures.found, c.in_default.is)
    (handed_here a.line.now l.at l.i l.values false l.known (omega arith) (omega arith) l.invariant.1 ∙
    ap (λ (k : KnownDate). (place_of false l.at, k, l.values)) (sym kept))))

pub loop-i-preserved : goal.loop-i-preserved
loop-i-preserved c = let l = c.loop-i in
    let v = c.in-Some.v in let here : l.i < length l.values = omega arith in (
      (omega arith, rw length-set (omega arith)),
      zeros_left l.values l.i v here (omega arith) l.invariant.1,
      rw (one_more l.values l.i v here, l.invariant.2, sorts_next _ _ _ c.loop-i-test.true, fields_step, ← c.sort_at-sort.ensures)
          (rw (← c.field_at.ensures.found, ← c.field_at.ensures.after, c.in-Some.is)),
    )

pub returns : goal.returns
returns c = let a = c.args in let l = c.loop-i in
    reads a.known.now a.shape a.from a.line.now _ _ _
    (unfold fields_with in rw (fields_in_is a.known.now a.shape _ (omega arith), l.invariant.2, sorts_none _ _ _ c.loop-i-test.false)
    (handed_here a.line.now l.at l.i l.values true l.known (omega arith) (omega arith) l.invariant.1))
