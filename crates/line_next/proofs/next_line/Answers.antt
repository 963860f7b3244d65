-- `line_next::next_line` meets its contract: by its fields where they end at a line feed, else by its end.
use Rattle.basics.proofs.Basics.{◌≡◌, sym, ◌∙◌, false, ◌&&◌, arith, drop, length-drop}
use Rattle.line_next.specs.Between.NextLine.{feed_first, first_fields}
use Rattle.line_next.proofs.Handed.{next_off, next_by_end, next_by_fields, no_feed, no_fields}
use Rattle.input_lines.proofs.Feeds.{until_le}
use Rattle.line_next.proofs.next_line.Goals as goal

pub returns-then-buf-from : goal.returns-then-buf-from
returns-then-buf-from c = let a = c.args in next_off a.last a.buf.now a.from c.if-buf-from.true

pub slice_bounds-read_line-end : goal.slice_bounds-read_line-end
slice_bounds-read_line-end c = let a = c.args in let until = until_le (drop a.from a.buf.now) in
    omega (arith, c.line_end-end.ensures, c.if-buf-from.false, until, length-drop a.from a.buf.now)

pub returns-then-is_feed : goal.returns-then-is_feed
returns-then-is_feed c = let a = c.args in let feed = sym c.is_feed.ensures ∙ c.if-is_feed.true in
    next_by_fields a.last a.buf.now a.from _ _ _ _ _ _ c.word_end_from-word_end.ensures.0
    c.word_end_from-word_end.ensures.1 c.kind_named-kind.ensures c.row_of.ensures.shape c.read_fields.ensures
    _ c.in-Ok.is feed _ c.message_of-message.ensures

pub returns : goal.returns
returns c = let a = c.args in let v = c.read_fields.new.values in let r = c.read_fields.result in
    let x = first_fields a.last (drop a.from a.buf.now) in
    let other : (x.ok && feed_first x.rest) ≡ false = elim c.match-read_fields.branch [
      | goal.in-Ok+else-is_feed w ↦ no_feed a.last a.buf.now a.from _ _ _ _ v r c.word_end_from-word_end.ensures.0
          c.word_end_from-word_end.ensures.1 c.kind_named-kind.ensures c.row_of.ensures.shape c.read_fields.ensures
          _ w.in-Ok.is (sym w.is_feed.ensures ∙ w.if-is_feed.false)
      | goal.in_default w ↦ no_fields a.last a.buf.now a.from _ _ _ _ v r c.word_end_from-word_end.ensures.0
          c.word_end_from-word_end.ensures.1 c.kind_named-kind.ensures c.row_of.ensures.shape c.read_fields.ensures
          _ w.in_default.is
    ] in
    next_by_end a.last a.buf.now a.from _ _ _ _ v r c.word_end_from-word_end.ensures.0
    c.word_end_from-word_end.ensures.1 c.kind_named-kind.ensures c.row_of.ensures.shape c.read_fields.ensures other
    _ _ c.line_end-end.ensures c.read_line-read.ensures
