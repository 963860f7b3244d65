-- The examples of closing lines, each by computing.
use Rattle.basics.proofs.Basics.{refl}
use Rattle.dates.specs.Dates.{leap_row, month_length, next, date_of}
use Rattle.dates.specs.Numbers.{date_answer}
use Rattle.questions.specs.Pinned.Questions.{sum_of}
use Rattle.line_text.specs.Decimal.{spell, fixed}
use Rattle.line_answers.specs.Answers.{period_line, total_line}
use Rattle.line_listing.specs.Pinned.Listing.{period_lines, point_lines, listing_from, listing}
use Rattle.line_listing.specs.Examples.{ListingExamples}

pub listing_examples : ListingExamples
unfolding leap_row month_length next date_of date_answer sum_of spell fixed period_line total_line period_lines point_lines
    listing_from listing
listing_examples = record { of_document_01 = refl; first_and_third = refl; none_enrolled = refl }
