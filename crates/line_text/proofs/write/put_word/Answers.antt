-- `line_text::write::put_word` meets its contract: the word is copied to its place, or nothing is.
use Rattle.std.proofs.lemmas.Slice.{put_mid-paste}
use Rattle.basics.proofs.Basics.{refl, sym, ◌∙◌, ◌+◌, arith, length, leb-true}
use Rattle.line_text.proofs.Appends.{appended, word_pasted}
use Rattle.line_text.proofs.write.put_word.Goals as goal

pub returns : goal.returns
returns c = let a = c.args in let n = length a.word.now in
    let room = leb-true (a.at + n) (length a.out.now) (sym c.has_room.ensures ∙ c.if-not-has_room.false) in
    appended a.at a.word.now a.out.now _ _ room
    (put_mid-paste a.at _ a.out.now _ a.word.now n c.copy_from_slice.ensures.after (omega arith) refl ∙
    word_pasted a.at a.word.now a.out.now n refl) refl
