-- The end statements, each by its theorem.
use Rattle.dates.proofs.OneToOne.{one_to_one}
use Rattle.year_words.proofs.Laws.{years_as_bits}
use Rattle.year_words.proofs.Examples.{word_examples}
use Rattle.working_count.proofs.Walk.{same_as_walk}
use Rattle.working_count.proofs.Examples.{working_examples}
use Rattle.rules.proofs.Examples.{p_examples}
use Rattle.rules.proofs.RowExamples.{row_examples}
use Rattle.agreement.proofs.Theorem.{day_book_agrees}
use Rattle.agreement.proofs.Sound.{sound_registers}
use Rattle.agreement.proofs.Parts.{parts_add_up}
use Rattle.questions.proofs.Asking.{asking}
use Rattle.questions.proofs.Examples.{question_examples}
use Rattle.questions_supplier.proofs.Asking.{own_asking}
use Rattle.questions_supplier.proofs.Apart.{halves_apart}
use Rattle.questions_supplier.proofs.Examples.{own_examples}
use Rattle.line_values.proofs.OneText.{one_text}
use Rattle.line_messages.proofs.OneLine.{one_line}
use Rattle.input_lines.proofs.LineLaws.{lines_are}
use Rattle.input_desk.proofs.Tabled.{every_answer_tabled}
use Rattle.line_listing.proofs.ByBook.{listing_by_book}
use Rattle.input_whole.proofs.Served.{transcript_served, every_feed_goes_on}
use Rattle.input_whole.proofs.Told.{every_input, every_output, every_desk}
use Rattle.input_whole.proofs.Examples.{transcript_examples}
use Rattle.demands.specs.Demands.{Demands}

pub demands : Demands
demands =
    record {
      days_and_dates = one_to_one;
      years_as_bits = years_as_bits;
      same_as_walk = same_as_walk;
      dated_examples = p_examples;
      working_examples = working_examples;
      word_examples = word_examples;
      row_examples = row_examples;
      answers_tabled = every_answer_tabled;
      one_text = one_text;
      one_line = one_line;
      day_book_agrees = day_book_agrees;
      sound_registers = sound_registers;
      parts_add_up = parts_add_up;
      questions = asking;
      question_examples = question_examples;
      own_examples = own_examples;
      suppliers = own_asking;
      halves_apart = halves_apart;
      closing_lines = listing_by_book;
      lines = lines_are;
      transcript = transcript_served;
      every_input = every_input;
      every_output = every_output;
      every_desk = every_desk;
      feeds_go_on = every_feed_goes_on;
      whole_inputs = transcript_examples;
    }
