-- The numbers of an accepted opening are in range.
use Rattle.basics.proofs.Basics.{◌≡◌, true, ltb-false}
use Rattle.dates.specs.Dates.{last_day}
use Rattle.rules.specs.declared.{Opening.Opening}
use Rattle.rules.specs.Answers.{is_accepted}
use Rattle.rules.specs.Rejections.{opening_answer}
use Rattle.rules.proofs.Accept.{pass}
use Rattle.rules.proofs.Meters.{within}
use Rattle.register.specs.Pinned.Opens.{InRange}

pub opening_in_range : (o : Opening) → is_accepted (opening_answer o) ≡ true → InRange o
unfolding opening_answer
opening_in_range o ok = let w = pass _ _ _ _ ok in let a = pass _ _ _ _ w.1 in let b = pass _ _ _ _ a.1 in
    let s = pass _ _ _ _ b.1 in let l = pass _ _ _ _ s.1 in let d = pass _ _ _ _ (pass _ _ _ _ l.1).1 in
    record {
      w = (within 0 10 o.w w.0).1;
      a = (within 1 400 o.a a.0).1;
      b = (within 1 400 o.b b.0).1;
      default = (within 1 99 o.default s.0).1;
      resort = (within 1 99 o.resort l.0).1;
      day = ltb-false last_day o.day d.0;
    }
