-- The examples of whole inputs, each by computing.
use Rattle.basics.proofs.Basics.{refl}
use Rattle.dates.specs.Dates.{leap_row, month_length, next, date_of}
use Rattle.dates.specs.Numbers.{month_start, year_start, day_number, is_real, day_answer, date_answer}
use Rattle.rules.proofs.Computes.{machines}
use Rattle.questions.specs.Pinned.Questions.{sum_of}
use Rattle.questions.specs.ByBook.{periods_in, book_periods, book_advance}
use Rattle.line_text.specs.Decimal.{spell, fixed}
use Rattle.line_values.specs.Pinned.Words.{are_same}
use Rattle.line_values.specs.Pinned.Numbers.{more_of, number_of, fixed_of}
use Rattle.line_values.specs.Pinned.Days.{day_in}
use Rattle.line_fields.specs.Pinned.Reading.{field_of, fields_of}
use Rattle.line_fields.specs.Between.Shapes.{sorts_from}
use Rattle.line_kinds.specs.Pinned.Naming.{kind_in}
use Rattle.line_messages.specs.Pinned.Reading.{word_end, read_line}
use Rattle.line_answers.specs.Answers.{answer_line, period_line, total_line}
use Rattle.line_listing.specs.Pinned.Listing.{period_lines, point_lines, listing_from, listing}
use Rattle.line_listing.specs.ByBook.{lines_of_periods, rising, book_listing}
use Rattle.input_lines.specs.Pinned.Lines.{lines_from, lines_of}
use Rattle.input_lines.specs.Between.Begun.{begun_of}
use Rattle.input_lines.specs.Pinned.Machine.{said, after_lines, transcript}
use Rattle.register.specs.Pinned.Opens.{no_register}
use Rattle.input_desk.specs.Pinned.Desk.{answer_of, desk_after}
use Rattle.input_whole.specs.Pinned.Ends.{start_desk}
use Rattle.input_whole.specs.Transcript.{calls_in, story_of, book_output}
use Rattle.input_whole.specs.Examples.{TranscriptExamples}

pub transcript_examples : TranscriptExamples
unfolding leap_row month_length next date_of month_start year_start day_number is_real day_answer date_answer machines sum_of periods_in
    book_periods book_advance spell fixed are_same more_of number_of fixed_of day_in field_of fields_of sorts_from kind_in word_end read_line answer_line period_line
    total_line period_lines point_lines listing_from listing lines_of_periods rising book_listing lines_from lines_of begun_of said after_lines transcript
    no_register answer_of desk_after start_desk calls_in story_of book_output
transcript_examples =
    record {
      of_document_01 = record { by_desk = refl; by_book = refl };
      cubic_metres = record { by_desk = refl; by_book = refl };
      line_before_set = record { by_desk = refl; by_book = refl };
      set_refused_then_accepted = record { by_desk = refl; by_book = refl };
      later_set = record { by_desk = refl; by_book = refl };
      no_set = record { by_desk = refl; by_book = refl };
      nothing = record { by_desk = refl; by_book = refl };
    }
