-- Words and what they ask for; refused ones beside accepted ones. Definitions only: `words_examples` of proofs/
-- proves them.
use Rattle.std.specs.Prelude.{◌≡◌, [], ◌∷◌, ◌++◌, Some, None}
use Rattle.line_text.specs.Ascii.{ascii}
use Rattle.ask_words.specs.declared.{Question.Question, Asked.Asked}
use Rattle.ask_words.specs.Asked.{asked_by, usage}

pub record WordsExamples : Type 0 where
  pub holder_on_4_january : asked_by 3 (ascii "holder") (ascii "1") (ascii "20210104") [] ≡
      Some (Asked.One (Question.Holder 1 7674))
  pub holder_on_29_february : asked_by 3 (ascii "holder") (ascii "1") (ascii "20210229") [] ≡ None
  pub holder_without_a_date : asked_by 2 (ascii "holder") (ascii "1") [] [] ≡ None
  pub period_2 : asked_by 3 (ascii "period") (ascii "32") (ascii "2") [] ≡ Some (Asked.One (Question.Period 32 2))
  pub period_with_a_leading_zero : asked_by 3 (ascii "period") (ascii "32") (ascii "02") [] ≡ None
  pub period_with_more_behind_it : asked_by 3 (ascii "period") (ascii "32") (ascii "2;") [] ≡ None
  pub advance_of_0 : asked_by 2 (ascii "advance") (ascii "0") [] [] ≡ Some (Asked.One (Question.Advance 0))
  pub twelve_digits : asked_by 2 (ascii "advance") (ascii "999999999999") [] [] ≡ Some (Asked.One (Question.Advance 999999999999))
  pub thirteen_digits : asked_by 2 (ascii "advance") (ascii "1000000000000") [] [] ≡ None
  pub advance_of_nothing : asked_by 2 (ascii "advance") [] [] [] ≡ None
  -- 02, F-5: two dates; those off the calendar, of eight digits, are the day after its last
  pub working_in_may : asked_by 3 (ascii "working") (ascii "20210519") (ascii "20210525") [] ≡ Some (Asked.Working 7809 7815)
  pub working_out_of_order : asked_by 3 (ascii "working") (ascii "20210525") (ascii "20210519") [] ≡
      Some (Asked.Working 7815 7809)
  pub working_to_the_last_day : asked_by 3 (ascii "working") (ascii "20210519") (ascii "21991231") [] ≡
      Some (Asked.Working 7809 73048)
  pub working_to_2200 : asked_by 3 (ascii "working") (ascii "20210519") (ascii "22000101") [] ≡ Some (Asked.Working 7809 73049)
  pub working_from_1999 : asked_by 3 (ascii "working") (ascii "19991231") (ascii "20210519") [] ≡
      Some (Asked.Working 73049 7809)
  pub working_from_29_february : asked_by 3 (ascii "working") (ascii "20210229") (ascii "20210519") [] ≡
      Some (Asked.Working 73049 7809)
  pub working_to_seven_digits : asked_by 3 (ascii "working") (ascii "20210519") (ascii "2021052") [] ≡ None
  pub working_to_nine_digits : asked_by 3 (ascii "working") (ascii "20210519") (ascii "202105250") [] ≡ None
  pub working_to_a_leading_zero : asked_by 3 (ascii "working") (ascii "20210519") (ascii "02021052") [] ≡ None
  pub working_from_no_number : asked_by 3 (ascii "working") (ascii "2021051x") (ascii "20210525") [] ≡ None
  pub working_of_one_date : asked_by 2 (ascii "working") (ascii "20210519") [] [] ≡ None
  -- 02, F-6: a supplier, a point and a number
  pub view_of_5 : asked_by 4 (ascii "view") (ascii "5") (ascii "1") (ascii "2") ≡ Some (Asked.One (Question.View 5 1 2))
  pub view_of_zeros : asked_by 4 (ascii "view") (ascii "0") (ascii "0") (ascii "0") ≡ Some (Asked.One (Question.View 0 0 0))
  pub view_of_twelve_digits :
      asked_by 4 (ascii "view") (ascii "999999999999") (ascii "33") (ascii "1") ≡
      Some (Asked.One (Question.View 999999999999 33 1))
  pub view_of_thirteen_digits :
      asked_by 4 (ascii "view") (ascii "5") (ascii "1") (ascii "1000000000000") ≡ None
  pub view_with_a_leading_zero : asked_by 4 (ascii "view") (ascii "05") (ascii "1") (ascii "2") ≡ None
  pub view_of_no_point : asked_by 4 (ascii "view") (ascii "5") (ascii "x") (ascii "2") ≡ None
  pub view_without_a_number : asked_by 3 (ascii "view") (ascii "5") (ascii "1") [] ≡ None
  pub all_questions : asked_by 1 (ascii "all") [] [] [] ≡ Some Asked.All
  pub all_and_more : asked_by 2 (ascii "all") (ascii "1") [] [] ≡ None
  pub a_prefix : asked_by 1 (ascii "al") [] [] [] ≡ None
  pub no_word : asked_by 0 [] [] [] [] ≡ None
  pub four_words : asked_by 4 (ascii "holder") (ascii "1") (ascii "20210104") (ascii "1") ≡ None
  pub five_words : asked_by 5 (ascii "view") (ascii "5") (ascii "1") (ascii "2") ≡ None
  pub usage_line : usage ≡
      ascii "usage: ask holder P DATE | ask period P N | ask advance P | ask view S P N | ask working DATE DATE | ask all"
      ++ (10 ∷ [])
