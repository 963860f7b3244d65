-- `line_writing::fit_all` meets its contract: whether the fields left fit says whether all do.
use Rattle.basics.proofs.Basics.{◌≡◌, sym, ◌∙◌, ap, ◌-◌, arith, length, rules}
use Rattle.line_fields.specs.Fields.{fit_all}
use Rattle.line_fields.specs.Between.Shapes.{most_fields}
use Rattle.line_writing.proofs.FieldLoops.{fields_next, fields_none}
use Rattle.line_writing.proofs.fit_all.Goals as goal

pub loop-i-init : goal.loop-i-init
loop-i-init c = let n = c.args.shape.count in let all : n - 0 ≡ n = omega arith in
    let long : length c.args.values ≡ most_fields = search rules in (omega arith, rw all)

pub returns-then-not-fits : goal.returns-then-not-fits
unfolding fit_all
returns-then-not-fits c = let a = c.args in
    let l = c.loop-i in
    let one = sym c.fits.ensures ∙ c.if-not-fits.true in
    let next = fields_next a.shape.second a.shape.count l.i a.values (omega arith) in
    sym (l.invariant.1 ∙ ap fit_all next ∙ rw (← c.sort_at.ensures, one))

pub loop-i-preserved : goal.loop-i-preserved
unfolding fit_all
loop-i-preserved c = let a = c.args in
    let l = c.loop-i in
    let one = sym c.fits.ensures ∙ c.if-not-fits.false in
    let next = fields_next a.shape.second a.shape.count l.i a.values (omega arith) in
    (c.loop-i.invariant.0, l.invariant.1 ∙ ap fit_all next ∙ rw (← c.sort_at.ensures, one))

pub returns : goal.returns
unfolding fit_all
returns c = let a = c.args in let l = c.loop-i in
    sym (l.invariant.1 ∙ rw (fields_none a.shape.second a.shape.count l.i a.values (omega arith)))
