-- Only a reading, on the register's own day, before anything falls due.
use Rattle.basics.proofs.Basics.{◌≡◌, ◌<◌, arith, lt-ltb, le-ltb, ne_eqb, eq-eqb, refl}
use Rattle.std.specs.Prelude.{None}
use Rattle.input_point.specs.Between.Daily.{daily_of, daily_at}
use Rattle.input_point.proofs.Apart.{not_ask, not_at, neither}
use Rattle.input_point.proofs.DailyRules.{is_reading, is_other, which}
use Rattle.input_point.proofs.daily.daily_of.Goals as goal

pub returns-in_default : goal.returns-in_default
unfolding daily_of
returns-in_default c = let s = c.args in
    not_ask None (λ m. daily_of s.ready s.day s.quiet m s.newest.now.count s.f s.newest.now.period) (λ o. refl) refl s.m c.in_default.not-Ask

pub returns-in_default-action : goal.returns-in_default-action
unfolding daily_of
returns-in_default-action c = rw c.in-Ask.is (neither _ (not_at _ _ c.in-Ask.c.action c.in_default-action.not-At))

pub returns-in_default-act : goal.returns-in_default-act
unfolding daily_of
returns-in_default-act c = let s = c.args in
    let other : None ≡ daily_at s.day c.in-At.point c.in-At.act s.newest.now.count s.f s.newest.now.period = elim (which c.in-At.act) [
      | is_reading d x z e ↦ absurd (c.in_default-act.not-Reading d x z e)
      | is_other k ↦ k _ _ _ _ _
    ] in rw (c.in-Ask.is, c.in-At.is) (neither _ other)

pub returns-then-not-ready : goal.returns-then-not-ready
returns-then-not-ready c = unfold daily_of in rw (c.in-Ask.is, c.if-not-ready.true)

pub returns-then-c-from : goal.returns-then-c-from
unfolding daily_of
returns-then-c-from c = rw (c.in-Ask.is, c.if-not-ready.false, ne_eqb _ _ (rw c.from.ensures at c.if-c-from.true))

pub returns-then-quiet-day : goal.returns-then-quiet-day
unfolding daily_of
returns-then-quiet-day c = let s = c.args in
    rw (
      c.in-Ask.is,
      c.if-not-ready.false,
      eq-eqb _ _ (rw c.from.ensures at c.if-c-from.false),
      le-ltb s.day s.quiet (omega (arith, c.if-quiet-day.true)),
    )

pub returns : goal.returns
unfolding daily_of daily_at
returns c = let s = c.args in let early : s.day < s.quiet = omega (arith, c.if-quiet-day.false) in
    rw (
      c.in-Ask.is,
      c.if-not-ready.false,
      eq-eqb _ _ (rw c.from.ensures at c.if-c-from.false),
      lt-ltb _ _ early,
      c.in-At.is,
      c.in-Reading.is,
    ) c.daily_read.ensures
