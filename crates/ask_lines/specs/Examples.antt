-- Answers as lines. Definitions only: `lines_examples` of proofs/ proves them.
use Rattle.std.specs.Prelude.{ℕ, ◌≡◌, List, [], ◌∷◌, ◌++◌, Some, None, Ok, Err}
use Rattle.rules.specs.Pinned.Register.{period as register_period}
use Rattle.questions.specs.Pinned.Questions.{held, refused_holder, advances}
use Rattle.questions_supplier.specs.declared.{ViewRefusal.ViewRefusal}
use Rattle.questions_supplier.specs.ByBook.{own_period}
use Rattle.line_text.specs.Ascii.{ascii}
use Rattle.ask_lines.specs.Lines.{holder_reply, period_reply, advance_reply, view_reply, working_reply}

abbrev pub ended : List ℕ → List ℕ
ended l = l ++ (10 ∷ [])

pub record LinesExamples : Type 0 where
  pub holder_5 : holder_reply (held 5 1) ≡ ended (ascii "ok;5;1")
  pub holder_0_of_the_oldest : holder_reply (held 0 24) ≡ ended (ascii "ok;0;24")
  pub holder_refused : holder_reply refused_holder ≡ ended (ascii "refused;22;0")
  -- 02, F-4: "in document 01's case .. each volume stands twice"
  pub period_of_16000 : period_reply (Some (register_period 7674 5 16000 16000)) ≡
      ended (ascii "ok;20210104;5;16000;16000")
  -- the wheels' volume stands first
  pub period_of_9500 : period_reply (Some (register_period 7674 5 10000 9500)) ≡
      ended (ascii "ok;20210104;5;10000;9500")
  -- a day off the calendar, on which no period that calls make starts
  pub period_off_the_calendar : period_reply (Some (register_period 73049 0 0 0)) ≡
      ended (ascii "ok;00000000;0;0;0")
  pub period_refused : period_reply None ≡ ended (ascii "refused;22")
  pub advance_20000 : advance_reply (Some (advances 20000 20000)) ≡ ended (ascii "ok;20000;20000")
  pub advance_7_and_6 : advance_reply (Some (advances 7 6)) ≡ ended (ascii "ok;7;6")
  pub advance_refused : advance_reply None ≡ ended (ascii "refused;22")
  -- 02, F-6: an end is a date, and an open period has none
  pub view_ended : view_reply (Ok (own_period 7674 (Some 7684) 10000 9500)) ≡
      ended (ascii "ok;20210104;20210114;10000;9500")
  pub view_open : view_reply (Ok (own_period 7674 None 16000 16000)) ≡
      ended (ascii "ok;20210104;-;16000;16000")
  pub view_off_range : view_reply (Err ViewRefusal.OffRange) ≡ ended (ascii "refused;22")
  pub view_out_of_perimeter : view_reply (Err ViewRefusal.OutOfPerimeter) ≡ ended (ascii "refused;41")
  pub working_2 : working_reply (Some 2) ≡ ended (ascii "ok;2")
  pub working_0 : working_reply (Some 0) ≡ ended (ascii "ok;0")
  pub working_50455 : working_reply (Some 50455) ≡ ended (ascii "ok;50455")
  pub working_refused : working_reply None ≡ ended (ascii "refused;22")
