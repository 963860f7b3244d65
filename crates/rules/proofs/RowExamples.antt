-- The row examples: each holds by computation; the calendar's facts on its last days are rewritten with.
use Rattle.basics.proofs.Basics.{refl}
use Rattle.rules.specs.RowExamples.Answers.{AnswerExamples, NumberExamples}
use Rattle.rules.specs.RowExamples.Openings.{OpeningExamples}
use Rattle.rules.specs.RowExamples.Order.{OrderExamples}
use Rattle.rules.specs.RowExamples.Contracts.{ContractExamples}
use Rattle.rules.specs.RowExamples.Services.{ServiceExamples}
use Rattle.rules.specs.RowExamples.Requests.{RequestExamples}
use Rattle.rules.specs.RowExamples.LastDays.{LastDayExamples}
use Rattle.rules.specs.RowExamples.Readings.{ReadingExamples}
use Rattle.rules.specs.RowExamples.Meters.{MeterExamples}
use Rattle.rules.specs.RowExamples.Full.{FullExamples}
use Rattle.rules.specs.RowExamples.Events.{EventExamples}
use Rattle.rules.specs.RowExamples.Varied.{VariedExamples}
use Rattle.rules.specs.RowExamples.{RowExamples}
use Rattle.rules.proofs.Computes.{machines, computes}
use Rattle.rules.proofs.Scenes.{plays}
use Rattle.rules.proofs.DatesOn.{three_months_after_september_30_2199, three_months_after_october_1_2199}
use Rattle.rules.proofs.DatesOn.{three_months_after_december_10_2199, three_months_after_december_11_2199}

number_examples : NumberExamples
number_examples =
    record {
      no_transport_contract = refl;
      false_idpc = refl;
      date_incompatible = refl;
      name_differs = refl;
      other_request = refl;
      no_perimeter = refl;
      access_suspended = refl;
      last_resort_under_way = refl;
      off_the_calendar = refl;
      day_runs_back = refl;
      field_out_of_range = refl;
      already_enrolled = refl;
      already_served = refl;
      nothing_pending = refl;
      too_late = refl;
      reading_out_of_time = refl;
      index_disagrees = refl;
      protected_supplier = refl;
      periods_full = refl;
      unreadable_line = refl;
      factor_out_of_range = refl;
      number_by_itself = refl;
    }

answer_examples : AnswerExamples
unfolding computes
answer_examples =
    record {
      numbers = number_examples;
      accepted_number = refl;
      accepted_date = refl;
      request_accepted_number = refl;
      request_accepted_date = refl;
      refused_number = refl;
      refused_date = refl;
      number_refused = refl;
      number_without_a_date = refl;
      last_resort_number = refl;
      last_resort_date = refl;
    }

opening_examples : OpeningExamples
unfolding computes
opening_examples =
    record {
      least = refl;
      largest = refl;
      last_resort_1_and_99 = refl;
      default_1_last_resort_99 = refl;
      w_11 = refl;
      a_0 = refl;
      a_401 = refl;
      b_0 = refl;
      b_401 = refl;
      default_0 = refl;
      default_100 = refl;
      last_resort_0 = refl;
      last_resort_100 = refl;
      one_supplier_for_both = refl;
      first_day_73049 = refl;
      first_contracts = record { by_register = refl; by_book = refl };
    }

order_examples : OrderExamples
unfolding computes
order_examples =
    record {
      today_73049 = record { by_register = refl; by_book = refl };
      today_9 = record { by_register = refl; by_book = refl };
      today_11 = record { by_register = refl; by_book = refl };
      out_of_range = record { by_register = refl; by_book = refl };
      out_of_range_before_20 = record { by_register = refl; by_book = refl };
      out_of_range_before_21 = record { by_register = refl; by_book = refl };
      out_of_range_before_2 = record { by_register = refl; by_book = refl };
      in_range = record { by_register = refl; by_book = refl };
      sums_off_the_calendar = record { by_register = refl; by_book = refl };
      off_the_calendar_before_21 = record { by_register = refl; by_book = refl };
      refused_moves_no_day = record { by_register = refl; by_book = refl };
      refused_moves_no_day_after = record { by_register = refl; by_book = refl };
    }

contract_examples : ContractExamples
unfolding computes
contract_examples =
    record {
      not_under_contract = record { by_register = refl; by_book = refl };
      failed_loses_contract = record { by_register = refl; by_book = refl };
      protected_suppliers = record { by_register = refl; by_book = refl };
      own_request_dropped = record { by_register = refl; by_book = refl };
      own_request_dropped_periods =
          record { periods = refl; advance = (refl, refl); starts = refl; holders = refl; volumes = (refl, refl); total = (refl, refl) };
      held_point_gets_last_resort = record { by_register = refl; by_book = refl };
      other_request_stays = record { by_register = refl; by_book = refl };
      other_request_takes_effect =
          record { periods = refl; advance = (refl, refl); starts = refl; holders = refl; volumes = (refl, refl); total = (refl, refl) };
      last_resort_ends =
          record { periods = refl; advance = (refl, refl); starts = refl; holders = refl; volumes = (refl, refl); total = (refl, refl) };
      own_request_at_own_point = record { by_register = refl; by_book = refl };
      failure_on_effective_day =
          record { periods = refl; advance = (refl, refl); starts = refl; holders = refl; volumes = (refl, refl); total = (refl, refl) };
    }

service_examples : ServiceExamples
unfolding computes
service_examples =
    record {
      enrol_point = record { by_register = refl; by_book = refl };
      enrol_index = record { by_register = refl; by_book = refl };
      into_service = record { by_register = refl; by_book = refl };
      default_supply = record { by_register = refl; by_book = refl };
      out_of_service = record { by_register = refl; by_book = refl };
      suspend = record { by_register = refl; by_book = refl };
      enrolled = record { by_register = refl; by_book = refl };
      enrolled_period =
          record { periods = refl; advance = (refl, refl); starts = refl; holders = refl; volumes = (refl, refl); total = (refl, refl) };
      in_service = record { by_register = refl; by_book = refl };
      in_service_period =
          record { periods = refl; advance = (refl, refl); starts = refl; holders = refl; volumes = (refl, refl); total = (refl, refl) };
      defaulted = record { by_register = refl; by_book = refl };
      defaulted_period =
          record { periods = refl; advance = (refl, refl); starts = refl; holders = refl; volumes = (refl, refl); total = (refl, refl) };
      out = record { by_register = refl; by_book = refl };
      out_periods =
          record { periods = refl; advance = (refl, refl); starts = refl; holders = refl; volumes = (refl, refl); total = (refl, refl) };
      out_of_default =
          record { periods = refl; advance = (refl, refl); starts = refl; holders = refl; volumes = (refl, refl); total = (refl, refl) };
      suspended = record { by_register = refl; by_book = refl };
      suspended_still = record { by_register = refl; by_book = refl };
      suspended_no_more = record { by_register = refl; by_book = refl };
      suspended_periods =
          record { periods = refl; advance = (refl, refl); starts = refl; holders = refl; volumes = (refl, refl); total = (refl, refl) };
      other_point = record { by_register = refl; by_book = refl };
    }

request_examples : RequestExamples
unfolding computes
request_examples =
    record {
      day_asked_for = record { by_register = refl; by_book = refl };
      point_key_pending = record { by_register = refl; by_book = refl };
      holder_0_and_suspended = record { by_register = refl; by_book = refl };
      default_near_its_end = record { by_register = refl; by_book = refl };
      default_on_its_last_day = record { by_register = refl; by_book = refl };
      not_under_last_resort = record { by_register = refl; by_book = refl };
      lowest_number = record { by_register = refl; by_book = refl };
      asked = record { by_register = refl; by_book = refl };
      asked_periods =
          record { periods = refl; advance = (refl, refl); starts = refl; holders = refl; volumes = (refl, refl); total = (refl, refl) };
      cancel_whose = record { by_register = refl; by_book = refl };
      cancelled = record { by_register = refl; by_book = refl };
      cancelled_periods =
          record { periods = refl; advance = (refl, refl); starts = refl; holders = refl; volumes = (refl, refl); total = (refl, refl) };
      cancel_when = record { by_register = refl; by_book = refl };
      cancel_without_wait = record { by_register = refl; by_book = refl };
      cancel_with_ten_days = record { by_register = refl; by_book = refl };
    }

last_day_examples : LastDayExamples
unfolding machines
last_day_examples =
    record {
      september_30 = three_months_after_september_30_2199;
      october_1 = three_months_after_october_1_2199;
      request_on_september_30_for_73047 = plays (rw three_months_after_september_30_2199) refl;
      request_on_september_30_for_73048 = plays (rw three_months_after_september_30_2199) refl;
      request_on_october_1_for_73048 = plays (rw three_months_after_october_1_2199) refl;
      december_10 = three_months_after_december_10_2199;
      december_11 = three_months_after_december_11_2199;
      request_on_december_10 = plays (rw three_months_after_december_10_2199) refl;
      request_on_december_11 = plays (rw three_months_after_december_11_2199) refl;
    }

reading_examples : ReadingExamples
unfolding computes
reading_examples =
    record {
      reading_day = record { by_register = refl; by_book = refl };
      reading_index = record { by_register = refl; by_book = refl };
      reading_lowest_number = record { by_register = refl; by_book = refl };
      change_day = record { by_register = refl; by_book = refl };
      change_on_day_0 = record { by_register = refl; by_book = refl };
      change_index = record { by_register = refl; by_book = refl };
      read = record { by_register = refl; by_book = refl };
      changed = record { by_register = refl; by_book = refl };
      read_suspended = record { by_register = refl; by_book = refl };
      past_zero =
          record { periods = refl; advance = (refl, refl); starts = refl; holders = refl; volumes = (refl, refl); total = (refl, refl) };
      no_advance =
          record { periods = refl; advance = (refl, refl); starts = refl; holders = refl; volumes = (refl, refl); total = (refl, refl) };
      unit_100 = record { periods = refl; advance = (refl, refl); starts = refl; holders = refl; volumes = (refl, refl); total = (refl, refl) };
      unit_10 = record { periods = refl; advance = (refl, refl); starts = refl; holders = refl; volumes = (refl, refl); total = (refl, refl) };
      unit_1 = record { periods = refl; advance = (refl, refl); starts = refl; holders = refl; volumes = (refl, refl); total = (refl, refl) };
      unit_of_the_meter_read =
          record { periods = refl; advance = (refl, refl); starts = refl; holders = refl; volumes = (refl, refl); total = (refl, refl) };
      change_past_zero =
          record { periods = refl; advance = (refl, refl); starts = refl; holders = refl; volumes = (refl, refl); total = (refl, refl) };
      late_reading =
          record { periods = refl; advance = (refl, refl); starts = refl; holders = refl; volumes = (refl, refl); total = (refl, refl) };
      own_day_not_booked =
          record { periods = refl; advance = (refl, refl); starts = refl; holders = refl; volumes = (refl, refl); total = (refl, refl) };
      reading_before_the_newest_period =
          record { periods = refl; advance = (refl, refl); starts = refl; holders = refl; volumes = (refl, refl); total = (refl, refl) };
      other_point_not_booked =
          record { periods = refl; advance = (refl, refl); starts = refl; holders = refl; volumes = (refl, refl); total = (refl, refl) };
      two_readings =
          record { periods = refl; advance = (refl, refl); starts = refl; holders = refl; volumes = (refl, refl); total = (refl, refl) };
      one_unit_in_three_days =
          record { periods = refl; advance = (refl, refl); starts = refl; holders = refl; volumes = (refl, refl); total = (refl, refl) };
    }

meter_examples : MeterExamples
unfolding computes
meter_examples =
    record {
      code_22 = record { by_register = refl; by_book = refl };
      factor_40 = record { by_register = refl; by_book = refl };
      factors = record { by_register = refl; by_book = refl };
      after_22 = record { by_register = refl; by_book = refl };
      before_20 = record { by_register = refl; by_book = refl };
      before_21 = record { by_register = refl; by_book = refl };
      then_20_and_21 = record { by_register = refl; by_book = refl };
      before_2_23_27_28 = record { by_register = refl; by_book = refl };
      change_before_27_28 = record { by_register = refl; by_book = refl };
      enrolled_cubic = record { by_register = refl; by_book = refl };
      enrolled_normal = record { by_register = refl; by_book = refl };
      changed_to_cubic = record { by_register = refl; by_book = refl };
      in_thousandths =
          record { periods = refl; advance = (refl, refl); starts = refl; holders = refl; volumes = (refl, refl); total = (refl, refl) };
      by_seven_in_ten =
          record { periods = refl; advance = (refl, refl); starts = refl; holders = refl; volumes = (refl, refl); total = (refl, refl) };
      seven_in_ten_half =
          record { periods = refl; advance = (refl, refl); starts = refl; holders = refl; volumes = (refl, refl); total = (refl, refl) };
      seven_in_ten_most =
          record { periods = refl; advance = (refl, refl); starts = refl; holders = refl; volumes = (refl, refl); total = (refl, refl) };
      seven_in_ten_least =
          record { periods = refl; advance = (refl, refl); starts = refl; holders = refl; volumes = (refl, refl); total = (refl, refl) };
      split_by_a_switch =
          record { periods = refl; advance = (refl, refl); starts = refl; holders = refl; volumes = (refl, refl); total = (refl, refl) };
      split_by_two_deadlines =
          record { periods = refl; advance = (refl, refl); starts = refl; holders = refl; volumes = (refl, refl); total = (refl, refl) };
      seven_in_ten_normal =
          record { periods = refl; advance = (refl, refl); starts = refl; holders = refl; volumes = (refl, refl); total = (refl, refl) };
      seven_in_ten_as_normal =
          record { periods = refl; advance = (refl, refl); starts = refl; holders = refl; volumes = (refl, refl); total = (refl, refl) };
      no_carry =
          record { periods = refl; advance = (refl, refl); starts = refl; holders = refl; volumes = (refl, refl); total = (refl, refl) };
      a_whole_one_each =
          record { periods = refl; advance = (refl, refl); starts = refl; holders = refl; volumes = (refl, refl); total = (refl, refl) };
      nearly_two_each =
          record { periods = refl; advance = (refl, refl); starts = refl; holders = refl; volumes = (refl, refl); total = (refl, refl) };
      cubic_then_normal =
          record { periods = refl; advance = (refl, refl); starts = refl; holders = refl; volumes = (refl, refl); total = (refl, refl) };
      normal_then_cubic =
          record { periods = refl; advance = (refl, refl); starts = refl; holders = refl; volumes = (refl, refl); total = (refl, refl) };
      old_factor_at_a_change =
          record { periods = refl; advance = (refl, refl); starts = refl; holders = refl; volumes = (refl, refl); total = (refl, refl) };
      cubic_past_zero =
          record { periods = refl; advance = (refl, refl); starts = refl; holders = refl; volumes = (refl, refl); total = (refl, refl) };
      largest =
          record { periods = refl; advance = (refl, refl); starts = refl; holders = refl; volumes = (refl, refl); total = (refl, refl) };
    }

full_examples : FullExamples
unfolding computes
full_examples =
    record {
      into_and_out_of_service = record { by_register = refl; by_book = refl };
      default_on_21_marks = record { by_register = refl; by_book = refl };
      default_on_22_marks = record { by_register = refl; by_book = refl };
      request_on_23_marks = record { by_register = refl; by_book = refl };
      request_on_24_marks = record { by_register = refl; by_book = refl };
      request_under_default_21_marks = record { by_register = refl; by_book = refl };
      request_under_default_22_marks = record { by_register = refl; by_book = refl };
      failure_on_22_marks = record { by_register = refl; by_book = refl };
      failure_on_23_marks = record { by_register = refl; by_book = refl };
      request_under_last_resort_22_marks = record { by_register = refl; by_book = refl };
      request_under_last_resort_23_marks = record { by_register = refl; by_book = refl };
      failure_at_point_32 = record { by_register = refl; by_book = refl };
      failure_with_own_request = record { by_register = refl; by_book = refl };
      failure_with_other_request = record { by_register = refl; by_book = refl };
      out_of_service_with_request = record { by_register = refl; by_book = refl };
      events_are_marks = record { by_register = refl; by_book = refl };
      other_calls = record { by_register = refl; by_book = refl };
      cancel_when_full = record { by_register = refl; by_book = refl };
      lower_numbers_first = record { by_register = refl; by_book = refl };
      five_before_thirty = record { by_register = refl; by_book = refl };
      eight_before_thirty = record { by_register = refl; by_book = refl };
      protected_before_thirty = record { by_register = refl; by_book = refl };
    }

event_examples : EventExamples
unfolding computes
event_examples =
    record {
      day_before_effect = record { by_register = refl; by_book = refl };
      effect = record { by_register = refl; by_book = refl };
      effect_periods =
          record { periods = refl; advance = (refl, refl); starts = refl; holders = refl; volumes = (refl, refl); total = (refl, refl) };
      day_before_deadline = record { by_register = refl; by_book = refl };
      deadline = record { by_register = refl; by_book = refl };
      day_before_the_end = record { by_register = refl; by_book = refl };
      the_end = record { by_register = refl; by_book = refl };
      the_end_periods =
          record { periods = refl; advance = (refl, refl); starts = refl; holders = refl; volumes = (refl, refl); total = (refl, refl) };
      request_on_default_deadline =
          record { periods = refl; advance = (refl, refl); starts = refl; holders = refl; volumes = (refl, refl); total = (refl, refl) };
      request_on_last_resort_deadline =
          record { periods = refl; advance = (refl, refl); starts = refl; holders = refl; volumes = (refl, refl); total = (refl, refl) };
      request_before_default_deadline =
          record { periods = refl; advance = (refl, refl); starts = refl; holders = refl; volumes = (refl, refl); total = (refl, refl) };
      request_survives_default = record { by_register = refl; by_book = refl };
      request_after_default_deadline =
          record { periods = refl; advance = (refl, refl); starts = refl; holders = refl; volumes = (refl, refl); total = (refl, refl) };
      request_day_by_day =
          record { periods = refl; advance = (refl, refl); starts = refl; holders = refl; volumes = (refl, refl); total = (refl, refl) };
      request_past_last_resort = record { by_register = refl; by_book = refl };
      request_past_last_resort_periods =
          record { periods = refl; advance = (refl, refl); starts = refl; holders = refl; volumes = (refl, refl); total = (refl, refl) };
      present_holder_named =
          record { periods = refl; advance = (refl, refl); starts = refl; holders = refl; volumes = (refl, refl); total = (refl, refl) };
      call_replaces_event =
          record { periods = refl; advance = (refl, refl); starts = refl; holders = refl; volumes = (refl, refl); total = (refl, refl) };
      suspended_after_request =
          record { periods = refl; advance = (refl, refl); starts = refl; holders = refl; volumes = (refl, refl); total = (refl, refl) };
      checks_look_at_today = record { by_register = refl; by_book = refl };
    }

varied_examples : VariedExamples
unfolding computes
varied_examples =
    record {
      default_to_37 = record { by_register = refl; by_book = refl };
      default_on_36 = record { by_register = refl; by_book = refl };
      last_resort_on_37 = record { by_register = refl; by_book = refl };
      last_resort_on_96 = record { by_register = refl; by_book = refl };
      none_on_97 = record { by_register = refl; by_book = refl };
      starts_12_37_97 =
          record { periods = refl; advance = (refl, refl); starts = refl; holders = refl; volumes = (refl, refl); total = (refl, refl) };
      request_near_37 = record { by_register = refl; by_book = refl };
      cancel_with_three_days = record { by_register = refl; by_book = refl };
      failure_to_71 = record { by_register = refl; by_book = refl };
      starts_11_71 =
          record { periods = refl; advance = (refl, refl); starts = refl; holders = refl; volumes = (refl, refl); total = (refl, refl) };
      protected_9_and_4 = record { by_register = refl; by_book = refl };
      sums_off_the_calendar = record { by_register = refl; by_book = refl };
      holder_5_beside_6 = record { by_register = refl; by_book = refl };
      holder_7_beside_6 = record { by_register = refl; by_book = refl };
      request_of_5_beside_6 = record { by_register = refl; by_book = refl };
      request_of_7_beside_6 = record { by_register = refl; by_book = refl };
      cancel_beside_6 = record { by_register = refl; by_book = refl };
      supplier_99 = record { by_register = refl; by_book = refl };
      enrolled_below_10000 = record { by_register = refl; by_book = refl };
      read_below_10000 = record { by_register = refl; by_book = refl };
      past_zero_with_one_behind =
          record { periods = refl; advance = (refl, refl); starts = refl; holders = refl; volumes = (refl, refl); total = (refl, refl) };
      fresh_below_10000 = record { by_register = refl; by_book = refl };
      past_zero_of_the_new_meter =
          record { periods = refl; advance = (refl, refl); starts = refl; holders = refl; volumes = (refl, refl); total = (refl, refl) };
      changed_past_zero =
          record { periods = refl; advance = (refl, refl); starts = refl; holders = refl; volumes = (refl, refl); total = (refl, refl) };
      other_reading_not_booked =
          record { periods = refl; advance = (refl, refl); starts = refl; holders = refl; volumes = (refl, refl); total = (refl, refl) };
      other_reading_not_booked_either =
          record { periods = refl; advance = (refl, refl); starts = refl; holders = refl; volumes = (refl, refl); total = (refl, refl) };
    }

pub row_examples : RowExamples
row_examples =
    record {
      answers = answer_examples;
      openings = opening_examples;
      order = order_examples;
      contracts = contract_examples;
      services = service_examples;
      requests = request_examples;
      last_days = last_day_examples;
      readings = reading_examples;
      meters = meter_examples;
      full = full_examples;
      events = event_examples;
      varied = varied_examples;
    }
