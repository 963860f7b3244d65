-- When something next falls due; and what the checks see of a point brought up to a day, told without its periods.
-- Definitions only: proofs/Seen has it that this is the view of the point brought up.
use Rattle.std.specs.Prelude.{cond, ◌&&◌, List, [], ◌∷◌, ℕ, ◌+◌, min, eqb, ltb}
use Rattle.rules.specs.declared.{Fields.Fields, Settings.Settings, Supply.Supply, SupplyKind.SupplyKind}
use Rattle.rules.specs.declared.{Pending.Pending}
use Rattle.rules.specs.declared.{Due.Due, View.View}
use Rattle.rules.specs.Fields.{with_supply}
use Rattle.point_effects.specs.Between.{due_in}
use Rattle.input_quiet.specs.declared.{seen.Seen.Seen}

-- The first day past the calendar: nothing falls due on it.
abbrev pub never : ℕ
never = 73049

abbrev pub kind_ends : SupplyKind → ℕ
kind_ends SupplyKind.None = never
kind_ends SupplyKind.Contract = never
kind_ends (SupplyKind.Default d) = d
kind_ends (SupplyKind.LastResort d) = d

abbrev pub request_falls : Pending → ℕ
request_falls Pending.Nothing = never
request_falls (Pending.Request s e) = e

-- The first day on which something falls due at a point.
unfoldable pub due_day : Supply → ℕ
due_day s = min (kind_ends s.kind) (request_falls s.pending)

-- The same over points.
unfoldable pub first_due : List Fields → ℕ
first_due [] = never
first_due (f ∷ fs) = min (due_day f.supply) (first_due fs)

-- A point as the checks see it, with the start of its newest period.
abbrev pub seen : Fields → ℕ → ℕ → Seen
seen f n d = record { fields = f; marks = n; start = d }

-- A holder is named on day d: f are the fields after it.
unfoldable pub named_seen : ℕ → Fields → Seen → Seen
named_seen d f x =
    cond (ltb 0 x.marks && eqb x.start d) (seen f x.marks x.start)
    (cond (ltb x.marks 24) (seen f (x.marks + 1) d) (seen f x.marks x.start))

unfoldable pub happened_seen : Due → Seen → Seen
happened_seen Due.Nothing x = x
happened_seen (Due.Naming d s) x = named_seen d (with_supply x.fields s) x

unfoldable pub next_seen : Settings → ℕ → Seen → Seen
next_seen S t x = happened_seen (due_in S t x.fields.supply.kind x.fields.supply.pending) x

abbrev pub view_in : ℕ → Seen → View
view_in t x = record { fields = x.fields; marks = x.marks; marked = ltb 0 x.marks && eqb x.start t }

-- On the register's own day nothing is brought up.
unfoldable pub view_on : Settings → ℕ → ℕ → Seen → View
view_on S day t x = view_in t (cond (eqb day t) x (next_seen S t (next_seen S t x)))
