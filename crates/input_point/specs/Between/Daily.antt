-- A daily reading: which messages are one, and what it stores. Definitions only: proofs/DailyRules has it that this is
-- what `said_by` and `deed_of` say.
use Rattle.std.specs.Prelude.{Option, Some, None, Bool, false, cond, ◌&&◌, [], ℕ, eqb, ltb}
use Rattle.rules.specs.declared.{Answer.Answer, Fields.Fields, NormalVolume.NormalVolume, Period.Period, PointAction.PointAction}
use Rattle.rules.specs.declared.{Reading.Reading, Volume.Volume}
use Rattle.rules.specs.Answers.{is_accepted}
use Rattle.rules.specs.Effects.{at_point}
use Rattle.rules.specs.Fields.{reading}
use Rattle.rules.specs.Volumes.{span_to}
use Rattle.point_volumes.specs.Between.{booked_newest}
use Rattle.point_answers.specs.Between.{answer_at}
use Rattle.line_messages.specs.declared.{Message.Message}
use Rattle.input_point.specs.declared.{daily.DailyReading.DailyReading}
use Rattle.input_point.specs.Between.Deeds.{lies_in}

-- The answer to a reading of the register's own day, at a point with the fields f. Its rows look at no settings, no
-- contracts and no periods.
abbrev pub reading_said : ℕ → ℕ → ℕ → ℕ → ℕ → Fields → Answer
reading_said day p d x z f =
    answer_at (record { w = 0; a = 0; b = 0; default = 0; resort = 0 }) day [] day p (PointAction.Reading d x z)
    (record { fields = f; marks = 0; marked = false })

-- What it stores.
abbrev pub stored : ℕ → Reading → Volume → NormalVolume → DailyReading
stored t now v w = record { today = t; reading = now; volume = v; normal = w }

unfoldable pub daily_read : ℕ → ℕ → ℕ → ℕ → ℕ → ℕ → Fields → Period → Option DailyReading
daily_read day p d x z n f q =
    cond (is_accepted (reading_said day p d x z f) && lies_in n q.start f.reading.day)
    (Some (stored day (reading d x) (booked_newest (span_to f d x z) q).volume (booked_newest (span_to f d x z) q).normal))
    None

unfoldable pub daily_at : ℕ → ℕ → PointAction → ℕ → Fields → Period → Option DailyReading
daily_at day p (PointAction.Reading d x z) n f q = daily_read day p d x z n f q
daily_at day p (PointAction.Enrol m) n f q = None
daily_at day p (PointAction.IntoService s k) n f q = None
daily_at day p (PointAction.DefaultSupply k) n f q = None
daily_at day p (PointAction.Request s k r) n f q = None
daily_at day p (PointAction.Cancel s) n f q = None
daily_at day p (PointAction.MeterChange x z m) n f q = None
daily_at day p PointAction.OutOfService n f q = None
daily_at day p (PointAction.Suspend m) n f q = None

-- The register is open, the call is of its day, and nothing falls due before the day quiet.
unfoldable pub daily_of : Bool → ℕ → ℕ → Message → ℕ → Fields → Period → Option DailyReading
daily_of ready day quiet (Message.Open o) n f q = None
daily_of ready day quiet (Message.Ask c) n f q =
    cond (ready && (eqb c.today day && ltb day quiet))
    (at_point None (λ p a. daily_at day p a n f q) c.action) None
daily_of ready day quiet Message.Unreadable n f q = None
