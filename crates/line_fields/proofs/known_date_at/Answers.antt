-- `line_fields::known_date_at` meets its contract: the known date where the bytes are its own, else the one that is read.
use Rattle.basics.proofs.Basics.{sym, ◌∙◌, ◌<◌, ◌^◌, arith, drop, take, length, length-drop}
use Rattle.line_values.proofs.Steps.{few_left}
use Rattle.line_fields.specs.Between.Known.{packed}
use Rattle.line_fields.proofs.KnownDates.{date_short, date_same, date_other, eight_at, eight_bytes}
use Rattle.line_fields.proofs.Handed.{found_known, known_none, known_some}
use Rattle.line_fields.proofs.known_date_at.Goals as goal

pub returns-in_err-get : goal.returns-in_err-get
returns-in_err-get c = let a = c.args in
    let e = date_short a.known.now (drop a.at a.s.now) (few_left a.s.now a.at 8 c.in_err-get.ensures.lookup.0 (omega arith)) in
    record { found = rw e c.from_residual.ensures; after = rw e }

pub returns-in_err-text : goal.returns-in_err-text
returns-in_err-text c = let a = c.args in let long = length-drop a.at a.s.now in
    let few : length (drop a.at a.s.now) < 8 = omega (arith, c.in_ok-get.ensures.lookup.0, c.in_err-text.ensures.cases) in
    let e = date_short a.known.now (drop a.at a.s.now) few in
    record { found = rw e c.from_residual-in_err-text.ensures; after = rw e }

pub returns-then-bytes-known : goal.returns-then-bytes-known
returns-then-bytes-known c = let a = c.args in let chunk = c.in_ok-text.ensures.cases in
    let b = eight_at a.s.now _ _ a.at _ c.in_ok-get.ensures.lookup.0.2 chunk.enough chunk.same c.from_le_bytes-bytes.ensures in
    let same = date_same a.known.now (drop a.at a.s.now) a.at b.0 (eight_bytes a.s.now a.at (λ i. omega (arith, c.type_inv.s i))) (sym b.1 ∙ c.if-bytes-known.true) in
    record { found = sym same.0; after = sym same.1 }

pub returns-in_err-day : goal.returns-in_err-day
returns-in_err-day c = let a = c.args in let l = drop a.at a.s.now in let chunk = c.in_ok-text.ensures.cases in
    let b = eight_at a.s.now _ _ a.at _ c.in_ok-get.ensures.lookup.0.2 chunk.enough chunk.same c.from_le_bytes-bytes.ensures in
    let small : a.known.now.bytes < 256 ^ 8 = omega (arith, c.fits-known) in
    let other = date_other a.known.now l small (λ e. c.if-bytes-known.false (b.1 ∙ e)) in
    record {
      found = rw (other, found_known, ← c.date_at.ensures, c.in_err-day.was) c.from_residual-in_err-day.ensures;
      after = rw other (sym (known_none a.at l (λ n. record { bytes = packed (take 8 l); day = n }) a.known.now _ (sym c.date_at.ensures ∙ c.in_err-day.was)));
    }

pub returns : goal.returns
returns c = let a = c.args in let l = drop a.at a.s.now in let chunk = c.in_ok-text.ensures.cases in
    let b = eight_at a.s.now _ _ a.at _ c.in_ok-get.ensures.lookup.0.2 chunk.enough chunk.same c.from_le_bytes-bytes.ensures in
    let small : a.known.now.bytes < 256 ^ 8 = omega (arith, c.fits-known) in
    let other = date_other a.known.now l small (λ e. c.if-bytes-known.false (b.1 ∙ e)) in
    record {
      found = rw (other, found_known, ← c.date_at.ensures, c.in_ok-day.was);
      after = rw (other, b.1)
          (sym (known_some a.at l (λ n. record { bytes = packed (take 8 l); day = n }) a.known.now _ _ _ (sym c.date_at.ensures ∙ c.in_ok-day.was)));
    }
