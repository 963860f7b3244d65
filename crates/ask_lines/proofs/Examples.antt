-- The examples, each by computing.
use Rattle.basics.proofs.Basics.{refl}
use Rattle.dates.specs.Dates.{leap_row, month_length, next, date_of}
use Rattle.dates.specs.Numbers.{date_answer}
use Rattle.line_text.specs.Decimal.{spell, fixed}
use Rattle.ask_lines.specs.Lines.{holder_reply, period_reply, advance_reply, view_reply, working_reply}
use Rattle.ask_lines.specs.Examples.{LinesExamples}

pub lines_examples : LinesExamples
unfolding leap_row month_length next date_of date_answer spell fixed holder_reply period_reply advance_reply view_reply working_reply
lines_examples =
    record {
      holder_5 = refl;
      holder_0_of_the_oldest = refl;
      holder_refused = refl;
      period_of_16000 = refl;
      period_of_9500 = refl;
      period_off_the_calendar = refl;
      period_refused = refl;
      advance_20000 = refl;
      advance_7_and_6 = refl;
      advance_refused = refl;
      view_ended = refl;
      view_open = refl;
      view_off_range = refl;
      view_out_of_perimeter = refl;
      working_2 = refl;
      working_0 = refl;
      working_50455 = refl;
      working_refused = refl;
    }
