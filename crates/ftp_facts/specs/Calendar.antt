-- The Gregorian calendar from 1970 on, and the time of day (RFC 3659, section 2.3).
use Rattle.std.specs.Prelude.{ℕ, zero, suc, ◌+◌, ◌-◌, ◌*◌, ◌%◌, ◌<◌, ◌≤◌, min, nat_lt, Bool, not, ◌&&◌, ◌||◌, ◌==◌, if◌then◌else◌}
use Rattle.std.specs.Int.{IsInRange}

-- every fourth year is a leap year, but of the years that end a century only every fourth
abbrev pub is_leap_year : ℕ → Bool
is_leap_year year = (year % 4 == 0) && (not (year % 100 == 0) || (year % 400 == 0))

-- the days of a year
abbrev pub days_in_year : ℕ → ℕ
days_in_year year = if is_leap_year year then 366 else 365

-- thirty days have September, April, June and November
abbrev pub days_in_month : ℕ → ℕ → ℕ
days_in_month year month =
    if month == 2 then (if is_leap_year year then 29 else 28)
    else (if (month == 4) || (month == 6) || (month == 9) || (month == 11) then 30 else 31)

-- the days of the first n years from 1970 on
unfoldable pub days_of_years : ℕ → ℕ
days_of_years zero = 0
days_of_years (suc n) = days_of_years n + days_in_year (1970 + n)

-- the days of the first n months of the year
unfoldable pub days_of_months : ℕ → ℕ → ℕ
days_of_months year zero = 0
days_of_months year (suc n) = days_of_months year n + days_in_month year (suc n)

-- how many days lie between 1 January 1970 and the date
abbrev pub day_number : ℕ → ℕ → ℕ → ℕ
day_number year month day =
    days_of_years (year - 1970) + days_of_months year (month - 1) + (day - 1)

-- the calendar has this day, in a year of four digits from 1970 on
abbrev pub IsDate : ℕ → ℕ → ℕ → Type 0
IsDate year month day =
    IsInRange 1970 9999 year × IsInRange 1 12 month × IsInRange 1 (days_in_month year month) day

-- a time of day; a second of 60 stands for a leap second
abbrev pub IsTime : ℕ → ℕ → ℕ → Type 0
IsTime hour minute second = (hour < 24) × (minute < 60) × (second ≤ 60)

-- the seconds of the day before that time. own choice: a second of 60 is 59
abbrev pub second_of_day : ℕ → ℕ → ℕ → ℕ
second_of_day hour minute second = hour * 3600 + minute * 60 + min second 59

-- The year in which a day lies and its place there, from 0, where the day has this place in the time from
-- the given year on. At most so many years are passed.
unfoldable pub year_and_place : ℕ → ℕ → ℕ → ℕ × ℕ
year_and_place zero year place = (year, place)
year_and_place (suc most) year place =
    if nat_lt place (days_in_year year) then (year, place)
    else year_and_place most (year + 1) (place - days_in_year year)

-- the month in which a day of the year lies and its place there, in the same way
unfoldable pub month_and_place : ℕ → ℕ → ℕ → ℕ → ℕ × ℕ
month_and_place zero year month place = (month, place)
month_and_place (suc most) year month place =
    if nat_lt place (days_in_month year month) then (month, place)
    else month_and_place most year (month + 1) (place - days_in_month year month)
