-- Between crates: a reading as a value of the code's types, and which readings are booked: those that the checks let
-- through. Definitions only.
use Rattle.std.specs.Prelude.{ℕ, ◌*◌, ◌<◌, ◌≤◌, Bool, cond, ◌&&◌, nat_le, nat_lt}
use Rattle.dates.specs.Dates.{last_day}
use Rattle.rules.specs.declared.{History.History, Meter.Meter, Period.Period, Reading.Reading, Span.Span}
use Rattle.rules.specs.Volumes.{turn_of, unit_of, factor_of, advance_of}
use Rattle.rules.specs.Pinned.Register.{booked_period, booked}

-- V, of any numbers: an index that the wheels do not have advances nothing.
abbrev pub advance_read : ℕ → ℕ → ℕ → ℕ → ℕ
advance_read last x z turn = cond (nat_lt x turn && nat_le z 1) (advance_of last x z turn) 0

-- `span_to`, by the meter read and the last reading.
unfoldable pub span_read : Meter → Reading → ℕ → ℕ → ℕ → Span
span_read m last d x z =
    record {
      from = last.day;
      to = d;
      advance = advance_read last.index x z (turn_of m);
      unit = unit_of m;
      factor = factor_of m.code;
    }

-- A reading goes forward to a day of the calendar, its advance times its unit is at most two full turns of the largest
-- meter, and its factor is at most the largest: what it gives is then computed without overflow.
abbrev pub most_volume : ℕ
most_volume = 200000000000

pub record Fair (s : Span) : Type 0 where
  pub forward : s.from < s.to
  pub within : s.to ≤ last_day
  pub unit : s.unit ≤ 1000
  pub factor : s.factor ≤ 99999
  pub small : s.advance ≤ most_volume
  pub volume : s.advance * s.unit ≤ most_volume

abbrev pub is_fair : Span → Bool
is_fair s =
    nat_lt s.from s.to && nat_le s.to last_day && nat_le s.unit 1000 && nat_le s.factor 99999
    && nat_le s.advance most_volume && nat_le (s.advance * s.unit) most_volume

-- A reading that is not fair changes nothing; no accepted call makes one.
unfoldable pub booked_if_fair : Span → History → History
booked_if_fair s h = cond (is_fair s) (booked s h) h

-- The same on the newest period alone: all of a reading whose days lie in it.
unfoldable pub booked_newest : Span → Period → Period
booked_newest s q = cond (is_fair s) (booked_period s s.to q) q
