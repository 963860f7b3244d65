-- The test of a fair reading, and what it says.
use Rattle.basics.proofs.Basics.{◌≡◌, refl, true, false, Bool, ◌&&◌, false≢true, ◌*◌, ltb, leb, ltb-true, leb-true}
use Rattle.dates.specs.Dates.{last_day}
use Rattle.rules.specs.declared.{Span.Span}
use Rattle.point_volumes.specs.Between.{Fair, is_fair, most_volume}

both : (a b : Bool) → (a && b) ≡ true → (a ≡ true) × (b ≡ true)
both true b h = (refl, h)
both false b h = absurd (false≢true h)

pub fair : (s : Span) → is_fair s ≡ true → Fair s
fair s h = let a = both _ (leb (s.advance * s.unit) most_volume) h in
    let b = both _ (leb s.advance most_volume) a.0 in let k = both _ (leb s.factor 99999) b.0 in
    let c = both _ (leb s.unit 1000) k.0 in
    let d = both (ltb s.from s.to) (leb s.to last_day) c.0 in
    record {
      forward = ltb-true _ _ d.0;
      within = leb-true _ _ d.1;
      unit = leb-true _ _ c.1;
      factor = leb-true _ _ k.1;
      small = leb-true _ _ b.1;
      volume = leb-true _ _ a.1;
    }
