-- The lines of one point: none, or its periods and then its total. The lines of the periods passed so far stand behind
-- the position.
use Rattle.basics.proofs.Basics.{◌≡◌, ◌∙◌, ap, ◌≤◌, ◌-◌, ◌+◌, ◌*◌, arith, rules, length, length-take-le}
use Rattle.std.proofs.lemmas.List.{get_or-take}
use Rattle.rules.specs.Pinned.Register.{no_period, used}
use Rattle.line_text.proofs.Within.{within, within_none, within_more, within_wider}
use Rattle.line_answers.proofs.LineTexts.{total_short}
use Rattle.line_listing.specs.Pinned.Listing.{point_lines}
use Rattle.line_listing.proofs.Growing.{lines_next, lines_none}
use Rattle.line_listing.proofs.put_point.Goals as goal

pub returns-then-not-g : goal.returns-then-not-g
unfolding point_lines
returns-then-not-g c = let a = c.args in
    rw c.if-not-g.true (within_wider (within_none a.at a.out.now (omega arith)) (omega arith))

pub loop-q-init : goal.loop-q-init
loop-q-init c = rw (lines_none c.args.p c.args.g.history.periods) (within_none c.args.at c.args.out.now (omega arith))

pub loop-q-preserved : goal.loop-q-preserved
loop-q-preserved c = let ps = c.args.g.history.periods in let i = c.loop-q.q-index in let n = used c.args.g.history in
    let k : 58 * (i + 1) ≡ 58 * i + 58 = omega arith in
    let full : length ps ≡ 24 = search rules in let all : n ≤ length ps = omega arith in
    let long = length-take-le n ps all in
    let items = c.periods_in_use-q-items.ensures in
    let many : length c.periods_in_use-q-items.result.now ≡ n = ap length items ∙ long in
    let q = get_or-take n ps i no_period (omega (arith, many, c.loop-q-test.true)) in
    rw (k, lines_next c.args.p i ps, ← q, ← items)
    (within_more (58 * i) 58 c.loop-q.invariant c.put_line-end.ensures (omega arith))

pub returns : goal.returns
unfolding point_lines
returns c = let a = c.args in let ps = a.g.history.periods in let n = used a.g.history in
    let full : length ps ≡ 24 = search rules in let fit : n ≤ length ps = omega arith in
    let long = length-take-le n ps fit in let items = c.periods_in_use-q-items.ensures in
    let many : length c.periods_in_use-q-items.result.now ≡ n = ap length items ∙ long in
    let z : c.loop-q.q-index ≡ n = omega (arith, many, c.loop-q-test.false) in
    let v = c.advance_in-total.result.volume in let m = c.advance_in-total.result.normal in
    let ok = c.advance_in-total.type_inv in let total = total_short a.p v m 2 (omega arith) (omega arith) (omega (arith, ok)) (omega (arith, ok)) in
    let periods = rw z at c.loop-q.invariant in
    let all = within_more (58 * n) (1443 - 58 * n) periods (within c.put_total.ensures (omega arith)) (omega arith) in
    let k : 58 * n + (1443 - 58 * n) ≡ 1443 = omega arith in
    rw c.if-not-g.false (rw (k, c.advance_in-total.ensures) at all)
