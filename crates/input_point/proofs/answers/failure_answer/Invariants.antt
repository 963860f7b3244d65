use Rattle.basics.proofs.Basics.{◌≡◌, Bool, ◌&&◌, List, ℕ, ◌-◌, ◌+◌}
use Rattle.rules.specs.declared.{Fields.Fields, Period.Period, Settings.Settings}
use Rattle.rules.specs.Effects.{failed}
use Rattle.rules.specs.Rejections.{any_point, shown, touches, is_full}
use Rattle.input_point.specs.Between.Answers.{shows}
use Rattle.input_point.proofs.answers.failure_answer.Given as goal

abbrev filled : Settings → ℕ → ℕ → ℕ → List Fields → List ℕ → List Period → ℕ → Bool
filled S day t s fs ns ss p = touches s (shown (shows S day t fs ns ss) p).fields
    && is_full (shown (shows S day t fs ns ss) p) (failed S t s (shown (shows S day t fs ns ss) p).fields)

abbrev pub invariant-loop-i : goal.invariant-loop-i
invariant-loop-i l = let t = l.tables in
    any_point 1 32 (filled l.set l.day l.today l.s t.fields t.counts t.slots) ≡
    any_point (l.i + 1) (32 - l.i) (filled l.set l.day l.today l.s t.fields t.counts t.slots)
