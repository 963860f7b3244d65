-- Whole inputs and what is written for them, by the register's desk and by the day book alone. 01, "Input:" and
-- "Output:"; and the openings: a line before `set`, a refused `set` and a good one behind it, a later `set`.
-- Definitions only: `transcript_examples` of proofs/ proves them.
use Rattle.std.specs.Prelude.{◌≡◌, List, [], ◌∷◌, ◌++◌, ℕ}
use Prim.Native.String.{String}
use Rattle.line_text.specs.Ascii.{ascii}
use Rattle.input_lines.specs.Pinned.Machine.{transcript}
use Rattle.input_pieces.specs.Pinned.Session.{next_desk, say_line}
use Rattle.input_whole.specs.Pinned.Ends.{start_desk, closing}
use Rattle.input_whole.specs.Transcript.{book_output}

-- Lines as text, each with its line feed.
abbrev pub text : List String → List ℕ
text [] = []
text (l ∷ ls) = ascii l ++ (10 ∷ text ls)

pub record Writes (input output : List String) : Type 0 where
  pub by_desk : transcript next_desk say_line closing start_desk (text input) ≡ text output
  pub by_book : book_output (text input) ≡ text output

pub record TranscriptExamples : Type 0 where
  -- 01, "Input:" and "Output:"; 02, F-4: "in document 01's case `enr` ends `;2;0` and each volume stands twice"
  pub of_document_01 : Writes
      ("set;20210101;2;30;40;1;2" ∷ "ctr;20210101;5" ∷ "enr;20210101;1;3;0;990;2;0" ∷
      "demmespc;20210104;1;5;77" ∷ "i;20210104;1;77" ∷
      "ri;20210114;1;20210114;10;1" ∷ [])
      ("set;1;0;00000000" ∷ "ctr;1;0;00000000" ∷ "enr;1;0;00000000" ∷ "demmespc;1;0;00000000" ∷ "i;0;24;00000000" ∷
      "ri;1;0;00000000" ∷ "1;20210101;0;4000;4000" ∷ "1;20210104;5;16000;16000" ∷ "total;1;20000;20000" ∷ [])
  -- an m³ meter with the factor 9,500: 7 units in 10 days, and a new holder at k = 3; and a factor that is none
  pub cubic_metres : Writes
      ("set;20211126;2;30;40;1;2" ∷ "ctr;20211126;5" ∷ "enr;20211126;1;4;3;100;1;9500" ∷
      "enr;20211126;2;4;3;100;1;0" ∷ "demmespc;20211129;1;5;77" ∷ "ri;20211206;1;20211206;107;0" ∷ [])
      ("set;1;0;00000000" ∷ "ctr;1;0;00000000" ∷ "enr;1;0;00000000" ∷ "enr;0;40;00000000" ∷ "demmespc;1;0;00000000" ∷
      "ri;1;0;00000000" ∷ "1;20211126;0;2;1" ∷ "1;20211129;5;5;5" ∷ "total;1;7;6" ∷ [])
  -- "Until a `set` is accepted every other line gives 31"
  pub line_before_set : Writes
      ("jour;20000101" ∷ "set;20000101;2;30;40;1;2" ∷ "jour;20000101" ∷ [])
      ("?;0;31;00000000" ∷ "set;1;0;00000000" ∷ "jour;1;0;00000000" ∷ [])
  -- a refused `set` opens nothing, and another may follow
  pub set_refused_then_accepted : Writes
      ("set;20000101;11;30;40;1;2" ∷ "jour;20000101" ∷ "set;20000101;10;30;40;1;2" ∷ "jour;20000101" ∷ [])
      ("set;0;22;00000000" ∷ "?;0;31;00000000" ∷ "set;1;0;00000000" ∷ "jour;1;0;00000000" ∷ [])
  -- "and so does a later `set`": the first stays, here with its W of 0
  pub later_set : Writes
      ("set;20000101;0;30;40;1;2" ∷ "set;20000102;10;1;1;3;4" ∷ "enr;20000101;1;3;0;0;2;0" ∷ [])
      ("set;1;0;00000000" ∷ "?;0;31;00000000" ∷ "enr;1;0;00000000" ∷ "1;20000101;0;0;0" ∷ "total;1;0;0" ∷ [])
  -- no `set`, no closing lines; an empty input gives nothing
  pub no_set : Writes ("enr;20000101;1;3;0;0;2;0" ∷ "" ∷ []) ("?;0;31;00000000" ∷ "?;0;31;00000000" ∷ [])
  pub nothing : Writes [] []
