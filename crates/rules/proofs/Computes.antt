-- What the examples compute with. A proof that says `unfolding computes` opens every definition of the calendar, of the
-- register and of the day book, so that both sides of an example come to the same value and `refl` proves it.
use Rattle.basics.proofs.Basics.{ℕ}
use Rattle.dates.specs.Dates
use Rattle.dates.specs.Numbers
use Rattle.dates.specs.Months
use Rattle.holidays.specs.Easter
use Rattle.holidays.specs.Holidays
use Rattle.holidays.specs.Working
use Rattle.rules.specs.Effects
use Rattle.rules.specs.Volumes
use Rattle.rules.specs.Rejections
use Rattle.rules.specs.Opening
use Rattle.rules.specs.Pinned.Register
use Rattle.rules.specs.DayBook
use Rattle.rules.specs.Periods

unfoldable pub calendar : ℕ
unfolding Dates.weekday Dates.leap_row Dates.month_length Dates.next Numbers.month_start Numbers.year_start
    Numbers.day_number Numbers.is_real Numbers.day_answer Numbers.date_answer Months.on_or_last Months.three_months_on
    Months.three_months_after
calendar = 0

unfoldable pub working_days : ℕ
unfolding Easter.easter_sunday Easter.easter_day Holidays.falls_on Holidays.is_fixed_holiday Holidays.is_after_easter
    Holidays.is_holiday_on Holidays.is_holiday Working.is_working Working.working_from Working.working_between
working_days = 0

unfoldable pub effects : ℕ
unfolding Effects.deadline_event Effects.pending_event Effects.event Effects.effective_day Effects.effect_of
    Effects.failed Effects.effect Opening.first_contracts
effects = 0

unfoldable pub volumes : ℕ
unfolding Volumes.full_turn Volumes.unit_of Volumes.advance_of Volumes.span_to Volumes.up_to Volumes.share
    Volumes.given Volumes.day_volume Volumes.factor_of Volumes.normal_given Volumes.day_normal Volumes.summed
volumes = 0

unfoldable pub rejections : ℕ
unfolding Rejections.first_of Rejections.any_point Rejections.rows_at Rejections.rows Rejections.accepted
    Rejections.answer_to Rejections.shown Rejections.answer Rejections.opening_answer
rejections = 0

unfoldable pub register : ℕ
unfolding Register.starts_on Register.replaced Register.appended Register.named Register.expiry_by Register.ends_before
    Register.due_by Register.happened Register.next_event Register.catch_up Register.booked_period
    Register.booked_slots Register.booked Register.advanced Register.says Register.acted Register.failed_point
    Register.done Register.applied Register.answers Register.after Register.opened
register = 0

unfoldable pub day_book : ℕ
unfolding DayBook.new_day DayBook.go_on DayBook.says DayBook.next DayBook.answers DayBook.after DayBook.opened
    DayBook.readings DayBook.enrolments
day_book = 0

unfoldable pub periods : ℕ
unfolding Periods.marked_days Periods.holder_on Periods.covering Periods.sum_days Periods.daily_sums Periods.total
periods = 0

-- The two machines alone; and all, with the dates counted on from the first.
unfoldable pub machines : ℕ
unfolding effects volumes rejections register day_book periods
machines = 0

unfoldable pub computes : ℕ
unfolding machines calendar working_days Dates.date_of
computes = 0
