-- 01, Message lines: the words of the kinds, one by one, and words beside them that name none.
-- Definitions only: `kind_examples` of proofs/ proves them.
use Rattle.std.specs.Prelude.{ℕ, ◌≡◌, List, []}
use Rattle.line_text.specs.Ascii.{ascii}
use Rattle.line_kinds.specs.declared.{Kind.Kind}
use Rattle.line_kinds.specs.Kinds.{word}
use Rattle.line_kinds.specs.Pinned.Naming.{kind_named}

abbrev pub Names : List ℕ → Kind → Type 0
Names w k = kind_named w ≡ k

abbrev pub NamesNone : List ℕ → Type 0
NamesNone w = kind_named w ≡ Kind.Unknown

pub record KindExamples : Type 0 where
  -- 01: "`ctr`, `def`, `enr` .. `sus`, `jour`; `set` opens"
  pub set_opens : Names (ascii "set") Kind.Set
  pub ctr : Names (ascii "ctr") Kind.Ctr
  pub def : Names (ascii "def") Kind.Def
  pub enr : Names (ascii "enr") Kind.Enr
  pub demmespc : Names (ascii "demmespc") Kind.Demmespc
  pub i : Names (ascii "i") Kind.I
  pub demcf : Names (ascii "demcf") Kind.Demcf
  pub adc : Names (ascii "adc") Kind.Adc
  pub ri : Names (ascii "ri") Kind.Ri
  pub cdt : Names (ascii "cdt") Kind.Cdt
  pub demmhs : Names (ascii "demmhs") Kind.Demmhs
  pub sus : Names (ascii "sus") Kind.Sus
  pub jour : Names (ascii "jour") Kind.Jour
  -- 01: "Number 31 prints `?` as its kind."
  pub question_mark : word Kind.Unknown ≡ ascii "?"
  -- a beginning, a longer word, upper case, no word
  pub beginning : NamesNone (ascii "jou")
  pub longer : NamesNone (ascii "ctrr")
  pub upper_case : NamesNone (ascii "Ctr")
  pub space : NamesNone (ascii "ri ")
  pub no_word : NamesNone []
