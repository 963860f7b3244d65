-- The view's examples: each holds by computation.
use Rattle.basics.proofs.Basics.{refl}
use Rattle.rules.proofs.Computes.{computes}
use Rattle.questions.specs.Pinned.Questions.{asked_history, period_answer}
use Rattle.questions_supplier.specs.Pinned.Own.{own_in, own_periods, nth_own, own_answer}
use Rattle.questions_supplier.specs.ByBook.{own_marked, book_own}
use Rattle.questions_supplier.specs.Examples.{OwnExamples}

pub own_examples : OwnExamples
unfolding computes asked_history period_answer own_in own_periods nth_own own_answer own_marked book_own
own_examples =
    record {
      five_1 = refl;
      five_2 = refl;
      five_3 = refl;
      five_4 = refl;
      six_1 = refl;
      six_2 = refl;
      five_all = refl;
      five_by_book = refl;
      six_by_book = refl;
      seven_by_book = refl;
      pending_no_end = refl;
      ended_by_own = refl;
      supplier_0 = refl;
      supplier_100 = refl;
      supplier_1 = refl;
      supplier_99 = refl;
      first_22 = refl;
      then_41 = refl;
      else_0 = refl;
      point_0 = refl;
      point_33 = refl;
      not_enrolled = refl;
      never_held = refl;
      number_0 = refl;
      largest_number = refl;
      replaced_none = refl;
      failed_past = refl;
      failed_to = refl;
      default_open = refl;
      resort_not_yet = refl;
      default_ended = refl;
      resort_open = refl;
      resort_ended = refl;
      varied_ended = refl;
      varied_resort = refl;
      varied_resort_ended = refl;
      other_holder = (refl, refl, refl);
      other_views = (refl, refl);
      two_others = (refl, refl);
      other_volumes = (refl, refl);
      key = (refl, refl);
      mark = (refl, refl);
      pending = (refl, refl);
      contract = (refl, refl);
      settings = (refl, refl);
      day = (refl, refl);
      other_point = (refl, refl);
      many_at_once = refl;
    }
