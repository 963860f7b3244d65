-- 01, Message lines: what it means that each call and each opening has one line, and each line at most one meaning.
-- Definitions only: `one_line` of proofs/ proves it.
use Rattle.std.specs.Prelude.{ℕ, ◌≤◌, ◌≡◌, true, List, length}
use Rattle.line_messages.specs.declared.{Message.Message}
use Rattle.line_messages.specs.Lines.{line_of}
use Rattle.line_messages.specs.Pinned.Reading.{read_line}
use Rattle.line_messages.specs.Writing.{is_writable, text_of}

pub record OneLine : Type 0 where
  -- what is written for a writable message is its line
  pub written : (m : Message) → is_writable m ≡ true → text_of m ≡ line_of m
  -- and it reads back as that message
  pub reads_back : (m : Message) → is_writable m ≡ true → read_line (text_of m) ≡ m
  -- what reads as a message is byte for byte what is written for it, and the message is writable
  pub was_written : (l : List ℕ) (m : Message) → read_line l ≡ m → (m ≡ Message.Unreadable → ⊥) → (l ≡ text_of m) ×
      (is_writable m ≡ true)
  -- so every other line is unreadable
  pub others_unreadable : (l : List ℕ) → ((m : Message) → is_writable m ≡ true → l ≡ text_of m → ⊥) → read_line l ≡
      Message.Unreadable
  -- two lines that say the same are one line, and two writable messages with the same line are one message
  pub one_text : (l₁ l₂ : List ℕ) (m : Message) → read_line l₁ ≡ m → read_line l₂ ≡ m → (m ≡ Message.Unreadable → ⊥) →
      l₁ ≡ l₂
  pub one_message : (m₁ m₂ : Message) → is_writable m₁ ≡ true → is_writable m₂ ≡ true → text_of m₁ ≡ text_of m₂ → m₁ ≡ m₂
  -- no line is longer than 116 bytes
  pub short : (m : Message) → length (text_of m) ≤ 116
