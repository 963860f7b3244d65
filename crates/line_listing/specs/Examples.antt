-- Closing lines: document 01's own, and those of a register with points that are not enrolled between others.
-- Definitions only: `listing_examples` of proofs/ proves them.
use Rattle.std.specs.Prelude.{ℕ, ◌≡◌, true, List, [], ◌∷◌, ◌++◌, replicate}
use Rattle.rules.specs.declared.{Period.Period, Fields.Fields, Point.Point, Register.Register}
use Rattle.rules.specs.Fields.{fields, blank}
use Rattle.rules.specs.Pinned.Register.{period, history, no_period, blank_point, register}
use Rattle.line_text.specs.Ascii.{ascii}
use Rattle.line_listing.specs.Pinned.Listing.{listing}

abbrev pub enrolled : Fields
enrolled = fields true blank.supply blank.key blank.mark blank.meter blank.reading

-- A point with n periods in the first of its slots.
abbrev pub point_with : Fields → ℕ → List Period → Point
point_with f n ps = record { fields = f; history = history n (ps ++ replicate 22 no_period) }

-- A register with these points, and blank ones behind them; its settings, day and contracts are not seen.
abbrev pub register_of : List Point → Register
register_of gs = register (record { w = 2; a = 30; b = 40; default = 1; resort = 2 }) 7684 [] gs

abbrev pub line : List ℕ → List ℕ → List ℕ
line t l = t ++ (10 ∷ l)

abbrev pub first : Point
first = point_with enrolled 2 (period 7671 0 4000 4000 ∷ period 7674 5 16000 16000 ∷ [])

-- One period in use, whose two volumes differ, and another one in a slot beyond the count.
abbrev pub third : Point
third = point_with enrolled 1 (period 7680 0 7 6 ∷ period 7681 9 9 9 ∷ [])

-- Not enrolled, whatever its slots hold.
abbrev pub second : Point
second = point_with blank 2 (period 7671 0 4000 4000 ∷ period 7674 5 16000 16000 ∷ [])

pub record ListingExamples : Type 0 where
  -- 01, "Output": the last three lines; 02, F-4: "in document 01's case .. each volume stands twice"
  pub of_document_01 : listing (register_of (first ∷ replicate 31 blank_point)) ≡
      line (ascii "1;20210101;0;4000;4000") (line (ascii "1;20210104;5;16000;16000")
      (line (ascii "total;1;20000;20000") []))
  -- "per enrolled point, rising"
  pub first_and_third : listing (register_of (first ∷ second ∷ third ∷ replicate 29 blank_point)) ≡
      line (ascii "1;20210101;0;4000;4000") (line (ascii "1;20210104;5;16000;16000") (line (ascii "total;1;20000;20000")
      (line (ascii "3;20210110;0;7;6") (line (ascii "total;3;7;6") []))))
  pub none_enrolled : listing (register_of (replicate 32 blank_point)) ≡ []
