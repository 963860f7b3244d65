-- `line_messages::word_end` meets its contract: the first `;`, or the end.
use Rattle.basics.proofs.Basics.{◌≡◌, ◌∙◌, arith}
use Rattle.line_messages.specs.Pinned.Reading.{word_end}
use Rattle.line_messages.proofs.WordEnds.{word_le, word_place}
use Rattle.line_messages.proofs.word_end.Goals as goal

pub returns : goal.returns
returns c = let l = c.args.line.now in
    let e : c.unwrap_or.result ≡ word_end l = c.unwrap_or.ensures ∙ rw c.first_separator.ensures (word_place l) in
    (e, omega (arith, e, word_le l))
