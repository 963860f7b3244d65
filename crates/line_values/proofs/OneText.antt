-- Numbers and dates have one text each: the statement `OneText`, proved.
use Rattle.line_values.specs.OneText.{OneText}
use Rattle.line_values.proofs.Numbers.{number_back, number_only}
use Rattle.line_values.proofs.Days.{day_back, day_only}

pub one_text : OneText
one_text =
    record { number_back = number_back; number_only = number_only; day_back = day_back; day_only = day_only }
