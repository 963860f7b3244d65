-- The lines of the points passed so far stand at the start of the buffer.
use Rattle.basics.proofs.Basics.{◌≡◌, ◌+◌, ◌*◌, arith, drop, get_or-drop}
use Rattle.rules.specs.Pinned.Register.{no_point}
use Rattle.line_text.proofs.Within.{within_none, within_more, within_length, within_end}
use Rattle.line_listing.proofs.Rising.{listing_none, listing_next}
use Rattle.line_listing.proofs.put_points.Goals as goal

pub loop-i-init : goal.loop-i-init
loop-i-init c = rw (listing_none (c.args.from + 1) (drop c.args.from c.args.points)) (within_none 0 c.args.out.now (omega arith))

pub put_point-at-requires : goal.put_point-at-requires
put_point-at-requires c = let a = c.args in
    let l = c.loop-i in let len = within_length l.invariant (omega arith) in
    let end = within_end l.invariant (omega arith) in (omega arith, omega arith)

pub loop-i-preserved : goal.loop-i-preserved
loop-i-preserved c = let a = c.args in let l = c.loop-i in
    let k : (l.i + 1) * 1443 ≡ l.i * 1443 + 1443 = omega arith in
    let p : a.from + 1 + l.i ≡ a.from + l.i + 1 = omega arith in
    rw (k, listing_next (a.from + 1) l.i (drop a.from a.points), get_or-drop a.from a.points l.i no_point, p)
    (within_more (l.i * 1443) 1443 l.invariant c.put_point-at.ensures (omega arith))

pub shape_of-out : goal.shape_of-out
shape_of-out c = let l = c.loop-i in within_length l.invariant (omega arith)

pub returns : goal.returns
returns c = let z : c.loop-i.i ≡ c.args.n = omega arith in
    rw (← z) c.loop-i.invariant
