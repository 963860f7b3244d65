-- The examples, each by computing.
use Rattle.basics.proofs.Basics.{refl}
use Rattle.dates.specs.Dates.{leap_row, month_length}
use Rattle.dates.specs.Numbers.{month_start, year_start, day_number, is_real, day_answer}
use Rattle.line_values.specs.Pinned.Words.{are_same}
use Rattle.line_values.specs.Pinned.Numbers.{number_of, more_of, fixed_of}
use Rattle.line_values.specs.Pinned.Days.{day_in}
use Rattle.ask_words.specs.Asked.{number_value, date_value, any_date_value, by_one, by_two, by_three, by_four, asked_by, usage}
use Rattle.ask_words.specs.Examples.{WordsExamples}

pub words_examples : WordsExamples
unfolding leap_row month_length month_start year_start day_number is_real day_answer are_same number_of more_of fixed_of
    day_in number_value date_value any_date_value by_one by_two by_three by_four asked_by usage
words_examples =
    record {
      holder_on_4_january = refl;
      holder_on_29_february = refl;
      holder_without_a_date = refl;
      period_2 = refl;
      period_with_a_leading_zero = refl;
      period_with_more_behind_it = refl;
      advance_of_0 = refl;
      twelve_digits = refl;
      thirteen_digits = refl;
      advance_of_nothing = refl;
      working_in_may = refl;
      working_out_of_order = refl;
      working_to_the_last_day = refl;
      working_to_2200 = refl;
      working_from_1999 = refl;
      working_from_29_february = refl;
      working_to_seven_digits = refl;
      working_to_nine_digits = refl;
      working_to_a_leading_zero = refl;
      working_from_no_number = refl;
      working_of_one_date = refl;
      view_of_5 = refl;
      view_of_zeros = refl;
      view_of_twelve_digits = refl;
      view_of_thirteen_digits = refl;
      view_with_a_leading_zero = refl;
      view_of_no_point = refl;
      view_without_a_number = refl;
      all_questions = refl;
      all_and_more = refl;
      a_prefix = refl;
      no_word = refl;
      four_words = refl;
      five_words = refl;
      usage_line = refl;
    }
