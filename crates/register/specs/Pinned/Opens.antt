-- 01, "What the register holds": the answer to an opening, and the register after it. Definitions only.
use Rattle.std.specs.Prelude.{false, cond, ◌≤◌, replicate}
use Rattle.dates.specs.Dates.{last_day}
use Rattle.rules.specs.declared.{Register.Register, Opening.Opening, Outcome.Outcome}
use Rattle.rules.specs.Answers.{is_accepted}
use Rattle.rules.specs.Rejections.{opening_answer}
use Rattle.rules.specs.Pinned.Register.{blank_point, register, outcome, opened}

-- "A refused opening opens no register": the register stays as it came.
unfoldable pub opened_over : Register → Opening → Outcome
opened_over r o = outcome (opening_answer o) (cond (is_accepted (opening_answer o)) (opened o) r)

-- What stands where no register is open: nobody is under contract, no point is enrolled, and nothing looks at it.
unfoldable pub no_register : Register
no_register =
    register (record { w = 0; a = 0; b = 0; default = 0; resort = 0 }) 0 (replicate 100 false)
    (replicate 32 blank_point)

-- The numbers of an opening fit the fields that keep them.
pub record InRange (o : Opening) : Type 0 where
  pub w : o.w ≤ 10
  pub a : o.a ≤ 400
  pub b : o.b ≤ 400
  pub default : o.default ≤ 99
  pub resort : o.resort ≤ 99
  pub day : o.day ≤ last_day
