-- A call that is accepted has a day of the calendar, and the checks have seen to its numbers.
use Rattle.basics.proofs.Basics.{◌≡◌, refl, true, Bool, arith}
use Rattle.rules.specs.declared.{Answer.Answer}
use Rattle.rules.specs.Answers.{is_accepted}
use Rattle.rules.proofs.Views.{passed_at}
use Rattle.point_answers.specs.Between.{answer_at}
use Rattle.point_effects.proofs.ruling_at.Goals as goal

passed : {a b : Answer} {x : Bool} → a ≡ b → x ≡ is_accepted a → x ≡ true → is_accepted b ≡ true
passed e k ok = rw (← e, ← k) ok

pub overflow_cast-x : goal.overflow_cast-x
unfolding answer_at
overflow_cast-x c = let x = c.args.x in omega (
  arith,
  (passed_at x.settings x.day _ x.today x.point c.args.a x.view _ (passed c.answer_at-answer.ensures c.is_accepted.ensures c.if-is_accepted.true)).0,
)

pub effect_of-requires : goal.effect_of-requires
effect_of-requires c = let x = c.args.x in
    record {
      day = x.day;
      contracts = _;
      point = x.point;
      view = x.view;
      same = refl;
      ok = passed c.answer_at-answer.ensures c.is_accepted.ensures c.if-is_accepted.true;
    }
