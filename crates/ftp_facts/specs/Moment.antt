-- The text of a moment: fourteen digits, YYYYMMDDHHMMSS, in UTC (RFC 3659, section 2.3).
use Rattle.std.specs.Prelude.{◌≡◌, ℕ, ◌+◌, ◌*◌, ◌/◌, ◌%◌, ◌<◌, ◌==◌, ◌&&◌, Bool, true, not, nat_le, nat_lt, IsTrue, List, [], ◌∷◌, ◌++◌, length, take, drop, Option}
use Rattle.std.specs.Bool.{then_some}
use Rattle.std.specs.Char.{is_ascii_digit}
use Rattle.std.specs.List.{list_all}
use Rattle.std.specs.Str.Parse.{digits_value}
use Rattle.ftp_facts.specs.Calendar.{IsDate, IsTime, days_in_month, day_number, second_of_day, year_and_place, month_and_place}

-- a number below 100, in two digits
abbrev pub two_digits : ℕ → List ℕ
two_digits n = (48 + n / 10) ∷ (48 + n % 10) ∷ []

-- a number below 10,000, in four digits
abbrev pub four_digits : ℕ → List ℕ
four_digits n = two_digits (n / 100) ++ two_digits (n % 100)

-- YYYYMMDD
abbrev pub date_digits : ℕ → ℕ → ℕ → List ℕ
date_digits year month day = four_digits year ++ (two_digits month ++ two_digits day)

-- HHMMSS
abbrev pub time_digits : ℕ → ℕ → ℕ → List ℕ
time_digits hour minute second = two_digits hour ++ (two_digits minute ++ two_digits second)

-- nothing, or `.` and one or more digits
abbrev pub is_fraction : List ℕ → Bool
is_fraction [] = true
is_fraction (dot ∷ digits) = (dot == 46) && not (length digits == 0) && list_all is_ascii_digit digits

-- ---- the moment that a text says

-- the number that so many digits write from a place on
abbrev pub digits_at : (place count : ℕ) → List ℕ → ℕ
digits_at place count text = digits_value 10 (take count (drop place text))

-- the calendar has the day that the first eight digits name
abbrev pub has_date : List ℕ → Bool
has_date text =
    nat_le 1970 (digits_at 0 4 text) && nat_le 1 (digits_at 4 2 text) && nat_le (digits_at 4 2 text) 12
    && nat_le 1 (digits_at 6 2 text) && nat_le (digits_at 6 2 text) (days_in_month (digits_at 0 4 text) (digits_at 4 2 text))

-- the next six name a time of day; a second of 60 stands for a leap second
abbrev pub has_time : List ℕ → Bool
has_time text = nat_lt (digits_at 8 2 text) 24 && nat_lt (digits_at 10 2 text) 60 && nat_le (digits_at 12 2 text) 60

-- fourteen digits of a real date and time, and perhaps a fraction
abbrev pub is_moment_text : List ℕ → Bool
is_moment_text text =
    nat_le 14 (length text) && list_all is_ascii_digit (take 14 text) && has_date text && has_time text && is_fraction (drop 14 text)

-- the seconds since 1970 began; own choice: a fraction is dropped
abbrev pub seconds_of : List ℕ → ℕ
seconds_of text =
    day_number (digits_at 0 4 text) (digits_at 4 2 text) (digits_at 6 2 text) * 86_400
    + second_of_day (digits_at 8 2 text) (digits_at 10 2 text) (digits_at 12 2 text)

-- the moment that a text says
unfoldable pub moment_value : List ℕ → Option ℕ
moment_value text = then_some (is_moment_text text) (seconds_of text)

-- ---- the same as a relation, number by number

-- the text begins with a real date, whose day number this is, and goes on with the rest
pub record BeginsWithDate (text : List ℕ) (number : ℕ) (rest : List ℕ) : Type 0 where
  pub year : ℕ
  pub month : ℕ
  pub day : ℕ
  pub real : IsDate year month day
  pub written : text ≡ date_digits year month day ++ rest
  pub counted : number ≡ day_number year month day

-- the text begins with a time of day, which comes so many seconds into it, and goes on with the rest
pub record BeginsWithTime (text : List ℕ) (seconds : ℕ) (rest : List ℕ) : Type 0 where
  pub hour : ℕ
  pub minute : ℕ
  pub second : ℕ
  pub real : IsTime hour minute second
  pub written : text ≡ time_digits hour minute second ++ rest
  pub counted : seconds ≡ second_of_day hour minute second

-- The text is six numbers that name a real date and time, then perhaps a fraction. The moment is the
-- day number times 86,400 plus the seconds of the day. own choice: the fraction is dropped.
pub record SaysMoment (text : List ℕ) (moment : ℕ) : Type 0 where
  pub number : ℕ
  pub seconds : ℕ
  pub time : List ℕ
  pub fraction : List ℕ
  pub date_first : BeginsWithDate text number time
  pub time_next : BeginsWithTime time seconds fraction
  pub fraction_last : IsTrue (is_fraction fraction)
  pub counted : moment ≡ number * 86_400 + seconds

-- ---- the text of a moment

-- the text is fourteen digits of a real date and time, with a second below 60, and names the moment
pub record WritesMoment (text : List ℕ) (moment : ℕ) : Type 0 where
  pub year : ℕ
  pub month : ℕ
  pub day : ℕ
  pub hour : ℕ
  pub minute : ℕ
  pub second : ℕ
  pub real_date : IsDate year month day
  pub real_time : IsTime hour minute second
  pub no_leap : second < 60
  pub written : text ≡ date_digits year month day ++ time_digits hour minute second
  pub counted : moment ≡ day_number year month day * 86_400 + second_of_day hour minute second

-- the digits of a day of a month, whose place in the month is from 0
abbrev pub month_digits : ℕ → ℕ × ℕ → List ℕ
month_digits year day = date_digits year day.0 (day.1 + 1)

-- the digits of a day of a year, whose place in the year is from 0
abbrev pub day_digits : ℕ × ℕ → List ℕ
day_digits day = month_digits day.0 (month_and_place 11 day.0 1 day.1)

-- the digits of a second of a day
abbrev pub second_digits : ℕ → List ℕ
second_digits second = time_digits (second / 3600) (second % 3600 / 60) (second % 60)

-- the fourteen digits of a moment
abbrev pub moment_digits : ℕ → List ℕ
moment_digits moment =
    day_digits (year_and_place 10_000 1970 (moment / 86_400)) ++ second_digits (moment % 86_400)
