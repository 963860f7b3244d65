-- The first bytes of a line, as many as are kept, say what the line says: one that is longer than 128 bytes is unreadable.
use Rattle.basics.proofs.Basics.{◌≡◌, sym, ◌∙◌, ap, List, ◌++◌, ℕ, ◌<◌, dec_le, arith, length, take, length-take}
use Rattle.basics.proofs.Basics.{take_all, lt-leb}
use Rattle.line_text.specs.Longest.{longest_line}
use Rattle.line_messages.specs.declared.{Message.Message, LineMessage.LineMessage}
use Rattle.line_messages.specs.Between.Values.{line_message}
use Rattle.line_messages.specs.Pinned.Reading.{read_line}
use Rattle.input_lines.specs.declared.{Begun.Begun}
use Rattle.input_lines.specs.Between.Begun.{kept_bytes, capped, kept, begun_of}
use Rattle.input_lines.proofs.KeptBytes.{capped_le, kept_begun}

too_long : (l : List ℕ) → longest_line < length l → read_line l ≡ Message.Unreadable
unfolding read_line
too_long l h = rw (lt-leb (length l) longest_line h)

pub read_capped : (l : List ℕ) → read_line (capped l) ≡ read_line l
unfolding capped
read_capped l = elim (dec_le (length l) longest_line) [
  | yes h ↦ ap read_line (take_all kept_bytes l (omega arith))
  | no h ↦ too_long (take kept_bytes l) (omega (arith, length-take kept_bytes l)) ∙ sym (too_long l (omega arith))
]

pub read_whole : (p : Begun) (l : List ℕ) (m : LineMessage) → p.len ≡ 0 → m ≡ line_message (read_line l) →
    m ≡ line_message (read_line (capped (kept p ++ l)))
read_whole p l m e h = h ∙ ap line_message (sym (read_capped l)) ∙ rw e

pub read_joined : (p : Begun) (l : List ℕ) (w : Begun) (m : LineMessage) → w ≡ begun_of (capped (kept p ++ l)) →
    m ≡ line_message (read_line (kept w)) → m ≡ line_message (read_line (capped (kept p ++ l)))
read_joined p l w m e h = h ∙ ap (λ (x : Begun). line_message (read_line (kept x))) e ∙
    ap (λ (x : List ℕ). line_message (read_line x)) (kept_begun (capped (kept p ++ l)) (capped_le (kept p ++ l)))
