-- Three months after, and working days between, at days that lie far from the first: from their dates, since days and dates are one to one.
-- No day is counted up to.
use Rattle.std.specs.Prelude.{Some}
use Rattle.basics.proofs.Basics.{◌≡◌, refl, true, false, ℕ}
use Rattle.dates.specs.Dates.{date, date_of}
use Rattle.dates.specs.Numbers.{day_answer}
use Rattle.dates.specs.Months.{three_months_after}
use Rattle.dates.proofs.OneToOne.{one_to_one}
use Rattle.holidays.specs.Working.{is_working, working_between}
use Rattle.rules.proofs.Computes.{calendar, working_days}

date_of_lem : (y m d n : ℕ) → day_answer y m d ≡ Some n → date_of n ≡ date y m d
date_of_lem y m d n e = (one_to_one.day_has_date y m d n e).1

pub three_months_after_may_3 : three_months_after 7793 ≡ 7885
unfolding calendar
three_months_after_may_3 = rw (date_of_lem 2021 5 3 7793 refl)

pub three_months_after_june_1 : three_months_after 7822 ≡ 7914
unfolding calendar
three_months_after_june_1 = rw (date_of_lem 2021 6 1 7822 refl)

pub three_months_after_november_30 : three_months_after 8004 ≡ 8094
unfolding calendar
three_months_after_november_30 = rw (date_of_lem 2021 11 30 8004 refl)

pub three_months_after_8008 : three_months_after 8008 ≡ 8098
unfolding calendar
three_months_after_8008 = rw (date_of_lem 2021 12 4 8008 refl)

pub three_months_after_8009 : three_months_after 8009 ≡ 8099
unfolding calendar
three_months_after_8009 = rw (date_of_lem 2021 12 5 8009 refl)

pub working_days_after_19_may : working_between 7809 7815 ≡ 2
unfolding calendar working_days
working_days_after_19_may = rw (date_of_lem 2021 5 20 7810 refl, date_of_lem 2021 5 21 7811 refl, date_of_lem 2021 5 24 7814 refl)

pub working_days_after_20_may : working_between 7810 7815 ≡ 1
unfolding calendar working_days
working_days_after_20_may = rw (date_of_lem 2021 5 21 7811 refl, date_of_lem 2021 5 24 7814 refl)

-- In 2013, 2016, 2018 and 2019: three months after 19 April, which is 21 days before 10 May; 9 May; and the working days before 10 May.
pub after_april_19 : (three_months_after 4857 ≡ 4948) × (three_months_after 5953 ≡ 6044) × (three_months_after 6683 ≡ 6774)
    × (three_months_after 7048 ≡ 7139)
unfolding calendar
after_april_19 =
    (rw (date_of_lem 2013 4 19 4857 refl), rw (date_of_lem 2016 4 19 5953 refl), rw (date_of_lem 2018 4 19 6683 refl), rw (date_of_lem 2019 4 19 7048 refl))

ninths : (date_of 4877 ≡ date 2013 5 9) × (date_of 5973 ≡ date 2016 5 9) × (date_of 6703 ≡ date 2018 5 9) × (date_of 7068 ≡ date 2019 5 9)
unfolding calendar
ninths = (date_of_lem 2013 5 9 4877 refl, date_of_lem 2016 5 9 5973 refl, date_of_lem 2018 5 9 6703 refl, date_of_lem 2019 5 9 7068 refl)

pub on_may_9 : (is_working 4877 ≡ false) × (is_working 5973 ≡ true) × (is_working 6703 ≡ true) × (is_working 7068 ≡ false)
unfolding calendar working_days
on_may_9 = (rw ninths.0, rw ninths.1, rw ninths.2, rw ninths.3)

pub across_may_9 : (working_between 4876 4878 ≡ 0) × (working_between 5970 5974 ≡ 1) × (working_between 6702 6704 ≡ 1) × (working_between 7067 7069 ≡ 0)
unfolding calendar working_days
across_may_9 = (rw ninths.0, rw ninths.1, rw ninths.2, rw ninths.3)

-- and on the other side: from 9 May 2016 on, from 7 May 2019 on
pub beside_may_9 : (working_between 5973 5974 ≡ 0) × (working_between 7066 7069 ≡ 1)
unfolding calendar working_days
beside_may_9 = (refl, rw (date_of_lem 2019 5 8 7067 refl, ninths.3))

pub three_months_after_september_30_2199 : three_months_after 72956 ≡ 73047
unfolding calendar
three_months_after_september_30_2199 = rw (date_of_lem 2199 9 30 72956 refl)

pub three_months_after_october_1_2199 : three_months_after 72957 ≡ 73048
unfolding calendar
three_months_after_october_1_2199 = rw (date_of_lem 2199 10 1 72957 refl)

pub three_months_after_december_10_2199 : three_months_after 73027 ≡ 73048
unfolding calendar
three_months_after_december_10_2199 = rw (date_of_lem 2199 12 10 73027 refl)

pub three_months_after_december_11_2199 : three_months_after 73028 ≡ 73048
unfolding calendar
three_months_after_december_11_2199 = rw (date_of_lem 2199 12 11 73028 refl)
