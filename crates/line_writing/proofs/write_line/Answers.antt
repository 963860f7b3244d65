-- `line_writing::write_line` meets its contract: the word, and then the fields, in front of zeros.
use Rattle.basics.proofs.Basics.{sym, ◌∙◌}
use Rattle.line_messages.specs.Writing.{text_of}
use Rattle.line_writing.specs.Between.Written.{written_line}
use Rattle.line_writing.proofs.WrittenLines.{fields_room, line_written}
use Rattle.line_writing.proofs.write_line.Goals as goal

pub returns-then-not-is_writable : goal.returns-then-not-is_writable
returns-then-not-is_writable c = unfold written_line text_of in rw (sym c.is_writable.ensures ∙ c.if-not-is_writable.true)

pub put_fields-len-requires : goal.put_fields-len-requires
put_fields-len-requires c = let fit = sym c.is_writable.ensures ∙ c.if-not-is_writable.false in
    let room = fields_room c.args.m _ _ c.values_of-v.ensures c.row_of.ensures.shape fit _ _ c.put_kind-at.ensures in
    record { count_le_most_fields = room.0; values_in_bounds = room.1 }

pub returns : goal.returns
returns c = let fit = sym c.is_writable.ensures ∙ c.if-not-is_writable.false in
    line_written c.args.m _ _ c.values_of-v.ensures c.row_of.ensures.shape fit _ _ c.put_kind-at.ensures _ _
    c.put_fields-len.ensures
