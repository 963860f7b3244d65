-- `line_writing::put_fields` meets its contract: of the text, that of the fields left is still to be put.
use Rattle.basics.proofs.Basics.{◌≡◌, ◌∙◌, ap, [], ◌-◌, arith, length, get_or, length-append, rules}
use Rattle.line_text.proofs.Appends.{rest_start, rest_next, rest_none}
use Rattle.line_fields.specs.Fields.{field_text}
use Rattle.line_fields.specs.Between.Shapes.{most_fields, sort_at}
use Rattle.line_writing.proofs.FieldLoops.{text_next, fields_none}
use Rattle.line_writing.proofs.put_fields.Goals as goal

pub loop-i-init : goal.loop-i-init
loop-i-init c = let a = c.args in let n = a.shape.count in let all : n - 0 ≡ n = omega arith in
    let long : length a.values ≡ most_fields = search rules in
    (omega arith, rw all (rest_start a.from _ a.out.now c.requires.values_in_bounds))

pub put_field-at-requires : goal.put_field-at-requires
put_field-at-requires c = let a = c.args in
    let l = c.loop-i in
    let text = text_next a.shape.second a.shape.count l.i a.values (omega arith) in
    let long = ap length text ∙ length-append (field_text (sort_at a.shape.second l.i) (get_or a.values l.i 0) []) _ in
    let r = l.invariant.1 in rw c.sort_at.ensures (omega (arith, r.end, r.long, r.fits))

pub loop-i-preserved : goal.loop-i-preserved
loop-i-preserved c = let a = c.args in
    let l = c.loop-i in
    let text = text_next a.shape.second a.shape.count l.i a.values (omega arith) in
    let put = rw c.sort_at.ensures at c.put_field-at.ensures in
    (c.loop-i.invariant.0, rest_next a.from _ a.out.now l.at _ _ l.out _ _ (rw text at l.invariant.1) put)

pub shape_of-out : goal.shape_of-out
shape_of-out c = c.loop-i.invariant.1.long

pub returns : goal.returns
returns c = let a = c.args in let l = c.loop-i in
    let none = fields_none a.shape.second a.shape.count l.i a.values (omega arith) in
    rest_none a.from _ a.out.now l.at l.out (rw none at l.invariant.1)
