-- The examples of lines, each by computing.
use Rattle.basics.proofs.Basics.{refl}
use Rattle.dates.specs.Dates.{leap_row, month_length}
use Rattle.dates.specs.Numbers.{month_start, year_start, day_number, is_real, day_answer}
use Rattle.line_values.specs.Pinned.Words.{are_same}
use Rattle.line_values.specs.Pinned.Numbers.{more_of, number_of, fixed_of}
use Rattle.line_values.specs.Pinned.Days.{day_in}
use Rattle.line_fields.specs.Pinned.Reading.{field_of, fields_of}
use Rattle.line_fields.specs.Between.Shapes.{sorts_from}
use Rattle.line_kinds.specs.Pinned.Naming.{kind_in}
use Rattle.line_messages.specs.Pinned.Reading.{word_end, read_line}
use Rattle.line_messages.specs.Examples.{LineExamples}

pub line_examples : LineExamples
unfolding leap_row month_length month_start year_start day_number is_real day_answer are_same more_of number_of fixed_of day_in field_of fields_of sorts_from word_end kind_in
    read_line
line_examples =
    record {
      set_2021 = refl;
      ctr_5 = refl;
      def_5 = refl;
      enr_1 = refl;
      enr_cubic = refl;
      demmespc_1 = refl;
      i_1 = refl;
      demcf_1 = refl;
      adc_1 = refl;
      ri_1 = refl;
      cdt_1 = refl;
      cdt_cubic = refl;
      demmhs_1 = refl;
      sus_1 = refl;
      jour_2021 = refl;
      zero_itself = refl;
      twelve_digits = refl;
      first_day = refl;
      the_last_day = refl;
      leap_day_2020 = refl;
      set_missing = refl;
      ctr_missing = refl;
      def_missing = refl;
      enr_missing = refl;
      enr_no_code = refl;
      demmespc_missing = refl;
      i_missing = refl;
      demcf_missing = refl;
      adc_missing = refl;
      ri_missing = refl;
      cdt_missing = refl;
      cdt_no_code = refl;
      demmhs_missing = refl;
      sus_missing = refl;
      jour_missing = refl;
      set_extra = refl;
      ctr_extra = refl;
      def_extra = refl;
      enr_extra = refl;
      demmespc_extra = refl;
      i_extra = refl;
      demcf_extra = refl;
      adc_extra = refl;
      ri_extra = refl;
      cdt_extra = refl;
      demmhs_extra = refl;
      sus_extra = refl;
      jour_extra = refl;
      leading_zero = refl;
      two_zeros = refl;
      thirteen_digits = refl;
      leap_day_2100 = refl;
      leap_day_2021 = refl;
      month_13 = refl;
      month_0 = refl;
      day_0 = refl;
      day_31_april = refl;
      before_the_calendar = refl;
      past_the_calendar = refl;
      date_of_7_digits = refl;
      date_of_9_digits = refl;
      trailing_semicolon = refl;
      empty_field = refl;
      no_date = refl;
      sign = refl;
      letter = refl;
      decimal_point = refl;
      space_behind = refl;
      space_before = refl;
      space_inside = refl;
      comma = refl;
      unknown_kind = refl;
      no_kind = refl;
      shorter_kind = refl;
      longer_kind = refl;
      upper_case = refl;
      question_mark = refl;
      kind_alone = refl;
      empty_line = refl;
      carriage_return = refl;
      line_feed_inside = refl;
      bytes_116 = refl;
      longest_read = refl;
      bytes_117 = refl;
      bytes_128 = refl;
      bytes_129 = refl;
    }
