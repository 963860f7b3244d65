-- How a list with its answers is proved: the register gives them, and the day book gives the same.
use Rattle.basics.proofs.Basics.{◌≡◌, ◌∙◌, List}
use Rattle.rules.specs.declared.{Opening.Opening}
use Rattle.rules.specs.Pinned.Register
use Rattle.rules.specs.DayBook
use Rattle.rules.specs.Scenes.{Line, calls, said, Plays}

abbrev pub BothAlike : Opening → List Line → Type 0
BothAlike o ls = DayBook.answers (DayBook.opened o) (calls ls) ≡ Register.answers (Register.opened o) (calls ls)

pub plays : {o : Opening} {ls : List Line} → Register.answers (Register.opened o) (calls ls) ≡ said ls
    → BothAlike o ls → Plays o ls
plays r b = record { by_register = r; by_book = b ∙ r }
