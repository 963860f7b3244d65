-- The examples of answer and closing lines, each by computing.
use Rattle.basics.proofs.Basics.{refl}
use Rattle.dates.specs.Dates.{leap_row, month_length, next, date_of}
use Rattle.dates.specs.Numbers.{date_answer}
use Rattle.line_text.specs.Decimal.{spell, fixed}
use Rattle.line_answers.specs.Answers.{answer_line, period_line, total_line}
use Rattle.line_answers.proofs.StatedExamples.{AnswerExamples}

pub answer_examples : AnswerExamples
unfolding leap_row month_length next date_of date_answer spell fixed answer_line period_line total_line
answer_examples =
    record {
      set_accepted = refl;
      i_already_served = refl;
      request_accepted = refl;
      last_resort_under_way = refl;
      unreadable_line = refl;
      number_30 = refl;
      off_the_calendar = refl;
      first_period = refl;
      second_period = refl;
      total_of_1 = refl;
      cubic_period = refl;
      cubic_total = refl;
      largest_volume = refl;
    }
