-- The questions' examples: each holds by computation.
use Rattle.basics.proofs.Basics.{refl}
use Rattle.rules.proofs.Computes.{computes}
use Rattle.questions.specs.Pinned.Questions.{holder_among, holder_answer, period_answer, sum_of, advance_answer}
use Rattle.questions.specs.Examples.{QuestionExamples}

pub question_examples : QuestionExamples
unfolding computes holder_among holder_answer period_answer sum_of advance_answer
question_examples =
    record {
      newest_on_registers_day = refl;
      newest_on_its_start = refl;
      second_on_its_last_day = refl;
      second_on_its_start = refl;
      oldest_on_its_last_day = refl;
      oldest_on_its_start = refl;
      day_before_enrolment = refl;
      day_after_the_registers = refl;
      another_point = refl;
      starts_that_fall = refl;
      holder_before_enrolment = refl;
      before_enrolment_no_look = refl;
      holder_on_enrolment = refl;
      holder_on_14 = refl;
      holder_on_15 = refl;
      holder_on_registers_day = refl;
      holder_after_registers_day = refl;
      period_0 = refl;
      period_1 = refl;
      period_2 = refl;
      period_3 = refl;
      advance = refl;
      advance_not_read = refl;
      cubic_period_1 = refl;
      cubic_period_2 = refl;
      cubic_advance = refl;
      cubic_advance_of_two = refl;
      holder_of_0 = refl;
      holder_of_33 = refl;
      holder_not_enrolled = refl;
      period_of_0 = refl;
      period_of_33 = refl;
      period_not_enrolled = refl;
      advance_of_0 = refl;
      advance_of_33 = refl;
      advance_not_enrolled = refl;
    }
