-- What a line holds, and how pieces are put one behind the other.
use Rattle.basics.proofs.Basics.{◌≡◌, refl, List, ◌≤◌, ℕ, arith, length, replicate}
use Rattle.line_text.proofs.Appends.{appended_take}
use Rattle.line_text.proofs.Within.{appended_within}
use Rattle.ask_lines.specs.declared.{Line.Line}
use Rattle.ask_lines.specs.Between.{written, Holds}

pub room : length (replicate {A = ℕ} 75 0) ≡ 75
room = refl

module _ {t : List ℕ} {l : Line} (h : Holds t l) where
  pub holds_room : l.len ≤ length l.text
  holds_room = appended_within h.text (omega arith)

  pub holds_is : written l ≡ t
  holds_is = let short = h.short in appended_take 0 _ _ _ _ h.text (omega (arith, room))
