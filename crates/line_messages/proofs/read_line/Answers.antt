-- `line_messages::read_line` meets its contract, step by step.
use Rattle.basics.proofs.Basics.{sym, ◌∙◌, arith, length, length-take-le, lt-leb}
use Rattle.line_text.specs.Longest.{longest_line}
use Rattle.line_fields.proofs.KnownStays.{first_is_known}
use Rattle.line_messages.specs.Pinned.Reading.{read_line}
use Rattle.line_messages.proofs.LineTexts.{line_bad, line_more, line_all}
use Rattle.line_messages.proofs.read_line.Goals as goal

pub returns-then-line-gt-LONGEST_LINE : goal.returns-then-line-gt-LONGEST_LINE
unfolding read_line
returns-then-line-gt-LONGEST_LINE c = let l = c.args.line.now in
    c.unreadable.ensures ∙ rw (lt-leb (length l) longest_line (omega (arith, c.if-line-gt-LONGEST_LINE.true)))

pub slice_bounds-kind_named-end : goal.slice_bounds-kind_named-end
slice_bounds-kind_named-end c = sym (length-take-le _ _ c.word_end-end.ensures.1)

pub returns-in_default : goal.returns-in_default
returns-in_default c = c.unreadable-in_default.ensures ∙ line_bad c.args.line.now _ _ _ _ _ _ _ (omega (arith, c.if-line-gt-LONGEST_LINE.false))
    c.word_end-end.ensures.0 c.kind_named-kind.ensures c.row_of.ensures.shape c.read_fields.ensures
    (first_is_known _ c.first_known-known.ensures)
    _ c.in_default.is

pub returns-then-end-line : goal.returns-then-end-line
returns-then-end-line c = c.unreadable-then-end-line.ensures ∙ line_more c.args.line.now _ _ _ _ _ _ _ (omega (arith, c.if-line-gt-LONGEST_LINE.false))
    c.word_end-end.ensures.0 c.kind_named-kind.ensures c.row_of.ensures.shape c.read_fields.ensures
    (first_is_known _ c.first_known-known.ensures)
    _ c.in-Ok.is c.if-end-line.true

pub returns : goal.returns
returns c = line_all c.args.line.now _ _ _ _ _ _ _ (omega (arith, c.if-line-gt-LONGEST_LINE.false))
    c.word_end-end.ensures.0 c.kind_named-kind.ensures c.row_of.ensures.shape c.read_fields.ensures
    (first_is_known _ c.first_known-known.ensures)
    _ c.in-Ok.is c.if-end-line.false _ c.message_of-message.ensures
