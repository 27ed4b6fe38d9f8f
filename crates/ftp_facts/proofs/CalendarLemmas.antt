-- The day number by the calendar's rule is that of `jiff_core`, for a date from 1970 on.
use Rattle.std.proofs.Common.{◌≡◌, ℕ, zero, suc, ◌+◌, ◌-◌, ◌≤◌, arith, ℤ, pos, ◌<ℤ◌, ◌≤ℤ◌, refl, ap, ◌∙◌, sym}
use Rattle.std.proofs.lemmas.Int.{by_lt_z}
use Rattle.jiff_core.specs.Calendar.{day_count, days_from_civil, IsCivilDate, days_of_months as jiff_days_of_months}
use Rattle.jiff_core.proofs.SignedLemmas.{signed_arith}
use Rattle.jiff_core.proofs.CalendarLemmas.{days_from_civil-day_count, day_count-lt_year, day_count-epoch, day_count-day_of_year, day_count-next_year, days_of_months_all, day_count-end}
use Rattle.ftp_facts.specs.Calendar.{days_in_year, days_in_month, days_of_years, days_of_months, day_number, IsDate}

-- before 1970 the day number is negative
before_epoch : (y : ℤ) (m d : ℕ) → IsCivilDate y m d → y <ℤ pos 1970 → days_from_civil y m d <ℤ pos 0
before_epoch y m d is lt =
    omega (arith, signed_arith, days_from_civil-day_count y m d, day_count-epoch, day_count-lt_year y m d (pos 1970) 1 1 is (omega arith) lt)

-- so a date whose day number isn't negative lies from 1970 on
pub year_from_epoch : (y : ℤ) (m d : ℕ) → IsCivilDate y m d → pos 0 ≤ℤ days_from_civil y m d → pos 1970 ≤ℤ y
year_from_epoch y m d is le =
    by_lt_z y (pos 1970) (λ lt. absurd (omega (arith, signed_arith, before_epoch y m d is lt))) (λ ge. omega (arith, signed_arith))

-- and a date from 1970 on has a day number that isn't negative
pub from_epoch : (y : ℤ) (m d : ℕ) → IsCivilDate y m d → pos 1970 ≤ℤ y → 4_371_953 ≤ day_count y m d
from_epoch y m d is le =
    by_lt_z (pos 1970) y
    (λ lt. omega (arith, day_count-epoch, day_count-lt_year (pos 1970) 1 1 y m d (omega (arith, signed_arith), omega arith, omega arith) is.2.0 lt))
    (λ ge. let same : y ≡ pos 1970 = omega (arith, signed_arith) in
    rw same (omega (arith, day_count-epoch, day_count-day_of_year (pos 1970) m d is.2.0, is.2.0)))

-- the months of a year have the same days
same_months : (year n : ℕ) → jiff_days_of_months (pos year) n ≡ days_of_months year n
unfolding jiff_days_of_months days_of_months
same_months year zero = refl
same_months year (suc n) = ap (λ days. days + days_in_month year (suc n)) (same_months year n)

-- 1 January of the nth year after 1970
first_of_year : (n : ℕ) → day_count (pos (1970 + n)) 1 1 ≡ 4_371_953 + days_of_years n
unfolding days_of_years
first_of_year zero = day_count-epoch
first_of_year (suc n) =
    let more = day_count-next_year (pos (1970 + n)) (pos (1970 + suc n)) (omega (arith, signed_arith)) (omega (arith, signed_arith)) in
    omega (arith, first_of_year n, more)

-- the two day numbers are one
pub days_from_civil-is : (year month day : ℕ) → 1970 ≤ year → 1 ≤ day → days_from_civil (pos year) month day ≡ pos (day_number year month day)
days_from_civil-is year month day from low =
    let back : 1970 + (year - 1970) ≡ year = omega arith in
    let first = rw back at (first_of_year (year - 1970)) in
    omega (arith, signed_arith, first, same_months year (month - 1), day_count-day_of_year (pos year) month day low, days_from_civil-day_count (pos year) month day)

-- a civil date of those parts is a date of the calendar
pub date_is : (y : ℤ) (m d year month day : ℕ) → IsCivilDate y m d → y ≡ pos year → m ≡ month → d ≡ day → 1970 ≤ year → IsDate year month day
date_is y m d year month day is same_year same_month same_day from =
    let there : IsCivilDate (pos year) month day = rw same_year at (rw same_month at (rw same_day at is)) in
    ((from, omega (arith, signed_arith, there.0)), there.1, there.2)

-- and its day number is that of the calendar
pub date_number : (y : ℤ) (m d year month day number : ℕ) → 1 ≤ d → y ≡ pos year → m ≡ month → d ≡ day → 1970 ≤ year → pos number ≡ days_from_civil y m d → number ≡ day_number year month day
date_number y m d year month day number low same_year same_month same_day from is =
    let there : pos number ≡ days_from_civil (pos year) month day = rw same_year at (rw same_month at (rw same_day at is)) in
    let both : pos number ≡ pos (day_number year month day) = there ∙ days_from_civil-is year month day from (omega arith) in
    omega (arith, signed_arith, both)

-- the months of a year are its days
pub months_of_year : (year : ℕ) → days_of_months year 12 ≡ days_in_year year
months_of_year year = sym (same_months year 12) ∙ days_of_months_all (pos year)

-- the years from 1970 to 9999
pub years_to_9999 : days_of_years 8_030 ≡ 2_932_897
years_to_9999 = omega (arith, first_of_year 8_030, day_count-end)
