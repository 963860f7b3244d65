-- The proved table of document 01's dated examples: each field holds by computation. The calendar's facts at days that
-- lie far from the first are computed once, and the lists of calls are rewritten with them.
use Rattle.rules.specs.declared.{Rejection.Rejection}
use Rattle.basics.proofs.Basics.{◌≡◌, refl, ap, true, false, ℕ, ltb}
use Rattle.dates.specs.Dates.{date_of}
use Rattle.rules.specs.declared.{Pending.Pending, Answer.Answer}
use Rattle.rules.specs.Opening.{settings_of}
use Rattle.rules.specs.Rejections.{too_late}
use Rattle.rules.specs.Examples.{opens, cancelled_on, PExamples}
use Rattle.rules.proofs.Computes.{machines, calendar, computes}
use Rattle.rules.proofs.Scenes.{BothAlike, plays}
use Rattle.rules.proofs.DatesOn.{three_months_after_may_3, three_months_after_june_1}
use Rattle.rules.proofs.DatesOn.{three_months_after_november_30, three_months_after_8008}
use Rattle.rules.proofs.DatesOn.{three_months_after_8009, working_days_after_19_may, working_days_after_20_may}
use Rattle.rules.proofs.DatesOn.{after_april_19, on_may_9, across_may_9, beside_may_9}

-- The working days decide whether a cancel comes too late.
in_time_on_19_may : too_late (settings_of (opens 7792)) 7809 (Pending.Request 6 7815) ≡ false
in_time_on_19_may = ap (λ (n : ℕ). ltb n 2) working_days_after_19_may

too_late_on_20_may : too_late (settings_of (opens 7792)) 7810 (Pending.Request 6 7815) ≡ true
too_late_on_20_may = ap (λ (n : ℕ). ltb n 2) working_days_after_20_may

-- The day book's answers to a request and the cancel are the register's.
alike_on_19_may : BothAlike (opens 7792) (cancelled_on 7809 Answer.Accepted)
unfolding machines calendar date_of
alike_on_19_may = refl

alike_on_20_may : BothAlike (opens 7792) (cancelled_on 7810 (Answer.Refused Rejection.TooLate))
unfolding machines calendar date_of
alike_on_20_may = refl

pub p_examples : PExamples
unfolding machines
p_examples =
    record {
      february_29_2020 = unfold computes in refl;
      day_7364 = unfold computes in refl;
      no_february_29_2100 = unfold computes in refl;
      february_28_2100 = unfold computes in refl;
      march_1_2100 = unfold computes in refl;
      easter_2021 = unfold computes in refl;
      easter_2021_day = unfold computes in refl;
      easter_2008_day = unfold computes in refl;
      ascension_2008 = unfold computes in refl;
      ascension_2008_after_easter = unfold computes in refl;
      may_1_2008_fixed = unfold computes in refl;
      may_1_2008_not_working = unfold computes in refl;
      may_2_2008_working = unfold computes in refl;
      june_1_2021 = unfold computes in refl;
      request_for_7843 = plays (rw three_months_after_june_1) refl;
      request_for_7842 = plays (rw three_months_after_june_1) refl;
      request_for_7844 = plays (rw three_months_after_june_1) refl;
      september_1_2021 = unfold computes in refl;
      three_months_after_june_1 = three_months_after_june_1;
      request_for_7914 = plays (rw three_months_after_june_1) refl;
      request_for_7915 = plays (rw three_months_after_june_1) refl;
      november_30_2021 = unfold computes in refl;
      three_months_after_november_30 = three_months_after_november_30;
      february_28_2022 = unfold computes in refl;
      may_25_2021 = unfold computes in refl;
      whit_monday_2021 = unfold computes in refl;
      working_days_after_19_may = working_days_after_19_may;
      working_days_after_20_may = working_days_after_20_may;
      in_time_on_19_may = in_time_on_19_may;
      too_late_on_20_may = too_late_on_20_may;
      cancel_on_19_may_accepted = plays (rw (three_months_after_may_3, working_days_after_19_may)) alike_on_19_may;
      cancel_on_20_may_too_late = plays (rw (three_months_after_may_3, working_days_after_20_may)) alike_on_20_may;
      may_9_2016 = unfold computes in refl;
      may_9_2016_working = on_may_9.1;
      cancel_across_may_9_2016_accepted = plays (rw (after_april_19.1, across_may_9.1)) (rw after_april_19.1);
      too_late_on_may_9_2016 = ap (λ (n : ℕ). ltb n 1) beside_may_9.0;
      may_9_2018 = unfold computes in refl;
      may_9_2018_working = on_may_9.2;
      cancel_across_may_9_2018_accepted = plays (rw (after_april_19.2, across_may_9.2)) (rw after_april_19.2);
      may_9_2019 = unfold computes in refl;
      may_9_2019_not_working = on_may_9.3;
      cancel_across_may_9_2019_too_late = plays (rw (after_april_19.3, across_may_9.3)) (rw after_april_19.3);
      in_time_on_may_7_2019 = ap (λ (n : ℕ). ltb n 1) beside_may_9.1;
      may_9_2013 = unfold computes in refl;
      may_9_2013_not_working = on_may_9.0;
      cancel_across_may_9_2013_too_late = plays (rw (after_april_19.0, across_may_9.0)) (rw after_april_19.0);
      by_seven_in_ten = record { by_register = refl; by_book = refl };
      seven_in_ten_booked =
          record { periods = refl; advance = (refl, refl); starts = refl; holders = refl; volumes = (refl, refl); total = (refl, refl) };
      first_three_shares = refl;
      last_seven_shares = refl;
      default_on_8000 = record { by_register = refl; by_book = refl };
      starts_8000_8030_8070 =
          record { periods = refl; advance = (refl, refl); starts = refl; holders = refl; volumes = (refl, refl); total = (refl, refl) };
      request_on_8008 = plays (rw three_months_after_8008) refl;
      request_on_8009 = plays (rw three_months_after_8009) refl;
      january_1_2021 = unfold computes in refl;
      january_4_2021 = unfold computes in refl;
      january_14_2021 = unfold computes in refl;
      sample_opening = refl;
      sample_answers = record { by_register = refl; by_book = refl };
      sample_periods =
          record { periods = refl; advance = (refl, refl); starts = refl; holders = refl; volumes = (refl, refl); total = (refl, refl) };
      both_events_by_8070 =
          record { periods = refl; advance = (refl, refl); starts = refl; holders = refl; volumes = (refl, refl); total = (refl, refl) };
      one_event_by_8069 =
          record { periods = refl; advance = (refl, refl); starts = refl; holders = refl; volumes = (refl, refl); total = (refl, refl) };
      june_22_2021 = unfold computes in refl;
      two_holders_on_one_day =
          record { periods = refl; advance = (refl, refl); starts = refl; holders = refl; volumes = (refl, refl); total = (refl, refl) };
    }
