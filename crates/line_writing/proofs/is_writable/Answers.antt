-- `line_writing::is_writable` meets its contract: the fields fit.
use Rattle.basics.proofs.Basics.{sym, ◌∙◌, ap}
use Rattle.line_fields.specs.Fields.{fit_all}
use Rattle.line_messages.specs.Writing.{is_writable}
use Rattle.line_messages.proofs.OneLine.{writable_is}
use Rattle.line_writing.proofs.WrittenLines.{few_values, values_are}
use Rattle.line_writing.proofs.is_writable.Goals as goal

pub returns-in-Unreadable : goal.returns-in-Unreadable
returns-in-Unreadable c = unfold is_writable in rw c.in-Unreadable.is

pub fit_all-requires : goal.fit_all-requires
fit_all-requires c = few_values c.args.m _ _ c.values_of-v.ensures c.row_of.ensures.shape

pub returns : goal.returns
returns c = let m = c.args.m in
    c.fit_all.ensures ∙ ap fit_all (values_are m _ _ c.values_of-v.ensures c.row_of.ensures.shape) ∙
    sym (writable_is m c.in_default.not-Unreadable)
