-- `line_kinds::kind_named` meets its contract: only the kinds whose word is as long are left to compare.
use Rattle.basics.proofs.Basics.{sym, ◌∙◌}
use Rattle.line_kinds.specs.Kinds.{kinds}
use Rattle.line_kinds.proofs.Naming.{kind_of_length, kind_of_none}
use Rattle.line_kinds.proofs.kind_named.Goals as goal

pub returns-in-1 : goal.returns-in-1
returns-in-1 c = c.kind_among.ensures ∙ sym (kind_of_length 1 kinds _ c.in-1.is)

pub returns-in-2 : goal.returns-in-2
returns-in-2 c = c.kind_among-in-2.ensures ∙ sym (kind_of_length 2 kinds _ c.in-2.is)

pub returns-in-3 : goal.returns-in-3
returns-in-3 c = c.kind_among-in-3.ensures ∙ sym (kind_of_length 3 kinds _ c.in-3.is)

pub returns-in-4 : goal.returns-in-4
returns-in-4 c = c.kind_among-in-4.ensures ∙ sym (kind_of_length 4 kinds _ c.in-4.is)

pub returns-in-5 : goal.returns-in-5
returns-in-5 c = c.kind_among-in-5.ensures ∙ sym (kind_of_length 5 kinds _ c.in-5.is)

pub returns-in-6 : goal.returns-in-6
returns-in-6 c = c.kind_among-in-6.ensures ∙ sym (kind_of_length 6 kinds _ c.in-6.is)

pub returns-in-8 : goal.returns-in-8
returns-in-8 c = c.kind_among-in-8.ensures ∙ sym (kind_of_length 8 kinds _ c.in-8.is)

pub returns-in_default : goal.returns-in_default
returns-in_default c = let r = c.in_default.in_default-own.rest in
    sym (kind_of_none _ r.0.0.0.0.0.0.1 r.0.0.0.0.0.1 r.0.0.0.0.1 r.0.0.0.1 r.0.0.1 r.0.1 r.1)
