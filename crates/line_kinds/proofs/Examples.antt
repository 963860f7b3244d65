-- The examples of kinds, each by computing.
use Rattle.basics.proofs.Basics.{refl}
use Rattle.line_values.specs.Pinned.Words.{are_same}
use Rattle.line_kinds.specs.Pinned.Naming.{kind_in}
use Rattle.line_kinds.specs.Examples.{KindExamples}

pub kind_examples : KindExamples
unfolding are_same kind_in
kind_examples =
    record {
      set_opens = refl;
      ctr = refl;
      def = refl;
      enr = refl;
      demmespc = refl;
      i = refl;
      demcf = refl;
      adc = refl;
      ri = refl;
      cdt = refl;
      demmhs = refl;
      sus = refl;
      jour = refl;
      question_mark = refl;
      beginning = refl;
      longer = refl;
      upper_case = refl;
      space = refl;
      no_word = refl;
    }
