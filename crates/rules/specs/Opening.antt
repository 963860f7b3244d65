-- Document 01, "What the register holds": what an accepted opening sets up, in the register and in the day book.
-- Definitions only.
use Rattle.std.specs.Prelude.{Bool, true, false, List, set, replicate}
use Rattle.rules.specs.declared.{Opening.Opening, Settings.Settings}

abbrev pub settings_of : Opening → Settings
settings_of o = record { w = o.w; a = o.a; b = o.b; default = o.default; resort = o.resort }

-- "the default and last-resort suppliers .. under contract from the start"
unfoldable pub first_contracts : Settings → List Bool
first_contracts S = set (set (replicate 100 false) S.default true) S.resort true
