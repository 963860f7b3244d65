-- What is proved, on one page: the end statements, each in the words of its own file. `demands` of proofs/ proves
-- them all. The contracts of the code, one equation for each public function, stand with the code. Definitions only.
use Rattle.std.specs.Prelude.{ℕ, List}
use Rattle.dates.specs.OneToOne.{OneToOne}
use Rattle.year_words.specs.Bits.{YearsAsBits}
use Rattle.year_words.specs.Examples.{WordExamples}
use Rattle.working_count.specs.Walk.{SameAsWalk}
use Rattle.working_count.specs.Examples.{WorkingExamples}
use Rattle.rules.specs.Examples.{PExamples}
use Rattle.rules.specs.RowExamples.{RowExamples}
use Rattle.agreement.specs.Demand3.{DayBookAgrees}
use Rattle.agreement.specs.Sound.{SoundRegisters}
use Rattle.agreement.specs.Parts.{PartsAddUp}
use Rattle.questions.specs.Asking.{Asking}
use Rattle.questions.specs.Examples.{QuestionExamples}
use Rattle.questions_supplier.specs.Asking.{OwnAsking}
use Rattle.questions_supplier.specs.Apart.{HalvesApart}
use Rattle.questions_supplier.specs.Examples.{OwnExamples}
use Rattle.line_values.specs.OneText.{OneText}
use Rattle.line_messages.specs.OneLine.{OneLine}
use Rattle.input_lines.specs.Laws.{LinesAre}
use Rattle.input_desk.specs.Table.{EveryAnswerTabled}
use Rattle.line_listing.specs.ByBook.{ListingByBook}
use Rattle.input_whole.specs.Transcript.{TranscriptServed, EveryFeedGoesOn, EveryInput, EveryOutput, EveryDesk}
use Rattle.input_whole.specs.Examples.{TranscriptExamples}

pub record Demands : Type 0 where
  -- The calendar: days and dates, one to one; a year of working days as bits; and what is counted by them is what a walk
  -- day by day counts.
  pub days_and_dates : OneToOne
  pub years_as_bits : YearsAsBits
  pub same_as_walk : SameAsWalk
  -- The rules beside document 01: its dated examples, and those of working days between two days and of their bits; for
  -- each number a case where it is given and one just beside; the questions; a supplier's view.
  pub dated_examples : PExamples
  pub working_examples : WorkingExamples
  pub word_examples : WordExamples
  pub row_examples : RowExamples
  pub question_examples : QuestionExamples
  pub own_examples : OwnExamples
  -- Demand 1: every answer is accepted or one number of the table, number 8 with its day.
  pub answers_tabled : EveryAnswerTabled
  -- Demand 2: numbers and dates have one text each; each call and each opening has exactly one line, which reads as
  -- it, and every other line is refused.
  pub one_text : OneText
  pub one_line : OneLine
  -- Demand 3: for every list of the calls from a newly opened register the register is what the day book says.
  pub day_book_agrees : DayBookAgrees
  -- What it rests on, of the register alone: starts rise, all that is due lies ahead and has room, no volume wraps.
  pub sound_registers : SoundRegisters
  -- The parts of a reading add up to its total, in either volume and by whatever factor.
  pub parts_add_up : PartsAddUp
  -- And so are its questions, what each supplier may see of its own, and its closing lines.
  pub questions : Asking
  pub suppliers : OwnAsking
  pub closing_lines : ListingByBook
  -- Neither supplier sees the other's half.
  pub halves_apart : HalvesApart
  -- The programs: the lines of an input; what is handed on for them however the input is cut, which is the day
  -- book's; the desk that `ask` asks; and that handing in the rest again and again takes all of it.
  pub lines : (input : List ℕ) → LinesAre input
  pub transcript : TranscriptServed
  pub every_input : EveryInput
  pub every_output : EveryOutput
  pub every_desk : EveryDesk
  pub feeds_go_on : EveryFeedGoesOn
  pub whole_inputs : TranscriptExamples
