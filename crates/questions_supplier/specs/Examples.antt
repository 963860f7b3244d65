-- 02, F-6: worked numbers, both sides of each boundary, and for each thing that a supplier may not see a register in
-- which it differs. Definitions only: `own_examples` of proofs/ proves them.
use Rattle.std.specs.Prelude.{◌≡◌, true, false, List, [], ◌∷◌, ◌++◌, ℕ, get_or, Some, None, Ok, Err}
use Rattle.rules.specs.declared.{Register.Register, Opening.Opening, Call.Call, Action.Action, PointAction.PointAction}
use Rattle.rules.specs.declared.{Pending.Pending}
use Rattle.rules.specs.Pinned.Register.{period, on}
use Rattle.rules.specs.Periods.{register}
use Rattle.rules.specs.Scenes.{opening, enrol}
use Rattle.questions.specs.Pinned.Questions.{period_answer}
use Rattle.questions_supplier.specs.declared.{OwnPeriod.OwnPeriod, ViewRefusal.ViewRefusal}
use Rattle.questions_supplier.specs.Pinned.Own.{own_periods, own_answer, own_number}
use Rattle.questions_supplier.specs.ByBook.{own_period, book_own}
use Rattle.questions_supplier.specs.Apart.{fields_at}

abbrev at_1 : ℕ → PointAction → Call
at_1 d a = on d (Action.At 1 a)

abbrev opens : Opening
opens = opening 8000 2 30 40 1 2

-- Suppliers 5, 6 and 7 are under contract. Point 1 has a meter of cubic metres, in thousandths, factor 9,500. 5 holds it
-- from 8,003 on, and it is read once, over ten days.
abbrev begun : List Call
begun =
    on 8000 (Action.Contract 5) ∷ on 8000 (Action.Contract 6) ∷ on 8000 (Action.Contract 7)
    ∷ at_1 8000 (enrol 1 3 0 1 9500) ∷ at_1 8003 (PointAction.IntoService 5 77)
    ∷ at_1 8010 (PointAction.Reading 8010 7 0) ∷ []

-- Another supplier's stay: from day d on supplier s, by key k; to 8,014.
abbrev comes : ℕ → ℕ → ℕ → List Call
comes d s k = at_1 d PointAction.OutOfService ∷ at_1 d (PointAction.IntoService s k) ∷ []

abbrev goes : List Call
goes = at_1 8014 PointAction.OutOfService ∷ []

-- 5 holds it again from 8,015 on, by key k, and asks for it once more, from 8,040 on; calls after that.
abbrev again : ℕ → List Call → List Call
again k l = at_1 8015 (PointAction.IntoService 5 k) ∷ at_1 8015 (PointAction.Request 5 k 8040) ∷ l

-- With 6 in between, by key 78, up to day d.
abbrev up_to : ℕ → List Call
up_to d = begun ++ comes 8012 6 78 ++ goes ++ again 77 (on d Action.Day ∷ [])

abbrev r : Register
r = register opens (up_to 8050)

-- The same, but for one thing each.
abbrev between : List Call → Register
between l = register opens (begun ++ l ++ goes ++ again 77 (on 8050 Action.Day ∷ []))

abbrev ending : List Call → Register
ending l = register opens (begun ++ comes 8012 6 78 ++ goes ++ again 77 l)

abbrev with_7 : Register
with_7 = between (comes 8012 7 99)

abbrev with_6_and_7 : Register
with_6_and_7 = between (comes 8012 6 78 ++ comes 8013 7 99)

abbrev with_6_read : Register
with_6_read =
    between
    (at_1 8012 (PointAction.Reading 8012 7 0) ∷ comes 8012 6 78 ++ at_1 8014 (PointAction.Reading 8014 107 0) ∷ [])

abbrev by_key_99 : Register
by_key_99 = register opens (begun ++ comes 8012 6 78 ++ goes ++ again 99 (on 8050 Action.Day ∷ []))

abbrev suspended : Register
suspended = ending (at_1 8050 (PointAction.Suspend 1) ∷ [])

abbrev asked_by_6 : Register
asked_by_6 = ending (at_1 8050 (PointAction.Request 6 77 8080) ∷ [])

abbrev without_6 : Register
without_6 = ending (on 8050 (Action.Failure 6) ∷ [])

abbrev set_otherwise : Register
set_otherwise = register (opening 8000 3 31 41 3 4) (up_to 8050)

abbrev with_point_2 : Register
with_point_2 =
    ending
    (on 8050 (Action.At 2 (enrol 3 0 990 2 0)) ∷ on 8050 (Action.At 2 (PointAction.IntoService 5 78)) ∷ [])

-- Another in between by another key, a second point, a request under way.
abbrev with_all : Register
with_all =
    register opens
    (begun ++ comes 8012 7 99 ++ goes ++ again 77
    (on 8050 (Action.At 2 (enrol 3 0 990 2 0)) ∷ at_1 8050 (PointAction.Request 1 77 8080) ∷ []))

-- What 5 may see of it.
abbrev five : List OwnPeriod
five =
    own_period 8003 (Some 8012) 5 5 ∷ own_period 8015 (Some 8040) 0 0
    ∷ own_period 8040 None 0 0 ∷ []

-- 5 into service and out again on 8,001; 6 into service on 8,001, and fails on the next day.
abbrev replaced : Register
replaced =
    register opens
    (on 8000 (Action.Contract 5) ∷ at_1 8000 (enrol 3 0 990 2 0) ∷ at_1 8001 (PointAction.IntoService 5 77)
    ∷ at_1 8001 PointAction.OutOfService ∷ on 8005 Action.Day ∷ [])

abbrev failed : Register
failed =
    register opens
    (on 8000 (Action.Contract 6) ∷ at_1 8000 (enrol 3 0 990 2 0) ∷ at_1 8001 (PointAction.IntoService 6 77)
    ∷ on 8002 (Action.Failure 6) ∷ [])

-- Default supply from 8,000 on, by 1; its deadline is 8,030, that of last resort, by 2, is 8,070.
abbrev defaulted : ℕ → Register
defaulted d =
    register opens
    (at_1 8000 (enrol 3 0 990 2 0) ∷ at_1 8000 (PointAction.DefaultSupply 77) ∷ on d Action.Day ∷ [])

-- Other settings, point 32, supplier 99, a meter of normal cubic metres past zero: 5 units in ten days, two of them
-- before 99 holds it. 99 fails on 7,690; last resort, by 97, lasts to 7,710.
abbrev varied : ℕ → Register
varied d =
    register (opening 7671 0 10 20 98 97)
    (on 7671 (Action.Contract 99) ∷ on 7671 (Action.At 32 (enrol 2 0 98 2 0))
    ∷ on 7673 (Action.At 32 (PointAction.IntoService 99 999999999))
    ∷ on 7681 (Action.At 32 (PointAction.Reading 7681 3 1)) ∷ on 7690 (Action.Failure 99) ∷ on d Action.Day ∷ [])

pub record OwnExamples : Type 0 where
  -- "its n-th period there, oldest first: start, end if any (the next period's start), volumes"
  pub five_1 : own_answer r 5 1 1 ≡ Ok (own_period 8003 (Some 8012) 5 5)
  -- two periods of 5 one after the other stay two
  pub five_2 : own_answer r 5 1 2 ≡ Ok (own_period 8015 (Some 8040) 0 0)
  pub five_3 : own_answer r 5 1 3 ≡ Ok (own_period 8040 None 0 0)
  pub five_4 : own_answer r 5 1 4 ≡ Err ViewRefusal.OutOfPerimeter
  pub six_1 : own_answer r 6 1 1 ≡ Ok (own_period 8012 (Some 8014) 0 0)
  pub six_2 : own_answer r 6 1 2 ≡ Err ViewRefusal.OutOfPerimeter
  -- the whole of it, by the register and by the day book
  pub five_all : own_periods r 5 1 ≡ five
  pub five_by_book : book_own opens (up_to 8050) 5 1 ≡ five
  pub six_by_book : book_own opens (up_to 8050) 6 1 ≡ own_period 8012 (Some 8014) 0 0 ∷ []
  pub seven_by_book : book_own opens (up_to 8050) 7 1 ≡ []
  -- a pending request is no end; on its effective day it is
  pub pending_no_end : own_answer (register opens (up_to 8039)) 5 1 2 ≡
      Ok (own_period 8015 None 0 0)
  pub ended_by_own : own_answer (register opens (up_to 8040)) 5 1 2 ≡
      Ok (own_period 8015 (Some 8040) 0 0)
  -- "A supplier off 1 to 99 gives 22", the operator's account too, and before 41
  pub supplier_0 : own_answer r 0 1 1 ≡ Err ViewRefusal.OffRange
  pub supplier_100 : own_answer r 100 1 1 ≡ Err ViewRefusal.OffRange
  pub supplier_1 : own_answer r 1 1 1 ≡ Err ViewRefusal.OutOfPerimeter
  pub supplier_99 : own_answer r 99 1 1 ≡ Err ViewRefusal.OutOfPerimeter
  pub first_22 : own_number (own_answer r 0 33 0) ≡ 22
  pub then_41 : own_number (own_answer r 5 33 1) ≡ 41
  pub else_0 : own_number (own_answer r 5 1 1) ≡ 0
  -- "A point off 1 to 32, not enrolled or never held, and an n off their count, give 41"
  pub point_0 : own_answer r 5 0 1 ≡ Err ViewRefusal.OutOfPerimeter
  pub point_33 : own_answer r 5 33 1 ≡ Err ViewRefusal.OutOfPerimeter
  pub not_enrolled : own_answer r 5 2 1 ≡ Err ViewRefusal.OutOfPerimeter
  pub never_held : own_answer r 7 1 1 ≡ Err ViewRefusal.OutOfPerimeter
  pub number_0 : own_answer r 5 1 0 ≡ Err ViewRefusal.OutOfPerimeter
  pub largest_number : own_answer r 5 1 18446744073709551615 ≡ Err ViewRefusal.OutOfPerimeter
  -- a holder replaced on its own day has no period; one without a contract has its past
  pub replaced_none : own_answer replaced 5 1 1 ≡ Err ViewRefusal.OutOfPerimeter
  pub failed_past : own_answer failed 6 1 1 ≡ Ok (own_period 8001 (Some 8002) 0 0)
  pub failed_to : own_answer failed 2 1 1 ≡ Ok (own_period 8002 None 0 0)
  -- as it stands on the register's day: a deadline ahead is no end
  pub default_open : own_answer (defaulted 8029) 1 1 1 ≡ Ok (own_period 8000 None 0 0)
  pub resort_not_yet : own_answer (defaulted 8029) 2 1 1 ≡ Err ViewRefusal.OutOfPerimeter
  pub default_ended : own_answer (defaulted 8030) 1 1 1 ≡ Ok (own_period 8000 (Some 8030) 0 0)
  pub resort_open : own_answer (defaulted 8030) 2 1 1 ≡ Ok (own_period 8030 None 0 0)
  pub resort_ended : own_answer (defaulted 8070) 2 1 1 ≡ Ok (own_period 8030 (Some 8070) 0 0)
  pub varied_ended : own_answer (varied 7700) 99 32 1 ≡ Ok (own_period 7673 (Some 7690) 4000 4000)
  pub varied_resort : own_answer (varied 7709) 97 32 1 ≡ Ok (own_period 7690 None 0 0)
  pub varied_resort_ended : own_answer (varied 7710) 97 32 1 ≡
      Ok (own_period 7690 (Some 7710) 0 0)
  -- "whoever else's periods, keys or pending requests differ": 5 may see the same, and this is what differs
  pub other_holder : (own_periods with_7 5 1 ≡ five)
      × (period_answer with_7 1 3 ≡ Some (period 8012 7 0 0))
      × (period_answer r 1 3 ≡ Some (period 8012 6 0 0))
  -- the others' own views are others then
  pub other_views : (own_periods with_7 6 1 ≡ [])
      × (own_periods with_7 7 1 ≡ own_period 8012 (Some 8014) 0 0 ∷ [])
  pub two_others : (own_periods with_6_and_7 5 1 ≡ five)
      × (period_answer with_6_and_7 1 4 ≡ Some (period 8013 7 0 0))
  pub other_volumes : (own_periods with_6_read 5 1 ≡ five)
      × (period_answer with_6_read 1 3 ≡ Some (period 8012 6 100 95))
  pub key : (own_periods by_key_99 5 1 ≡ five) × ((fields_at 1 by_key_99).key ≡ 99)
  pub mark : (own_periods suspended 5 1 ≡ five) × ((fields_at 1 suspended).mark ≡ 1)
  pub pending : (own_periods asked_by_6 5 1 ≡ five)
      × ((fields_at 1 asked_by_6).supply.pending ≡ Pending.Request 6 8080)
  pub contract : (own_periods without_6 5 1 ≡ five) × (get_or without_6.contracts 6 true ≡ false)
  pub settings : (own_periods set_otherwise 5 1 ≡ five) × (set_otherwise.settings.default ≡ 3)
  pub day : (own_periods (register opens (up_to 8051)) 5 1 ≡ five) × ((register opens (up_to 8051)).day ≡ 8051)
  pub other_point : (own_periods with_point_2 5 1 ≡ five)
      × (own_periods with_point_2 5 2 ≡ own_period 8050 None 0 0 ∷ [])
  pub many_at_once : own_periods with_all 5 1 ≡ five
