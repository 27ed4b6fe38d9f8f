-- The digits of a moment are those of the one date and time that it names.
use Rattle.std.proofs.Common.{◌≡◌, ℕ, zero, suc, ◌+◌, ◌-◌, ◌*◌, ◌/◌, ◌%◌, ◌<◌, ◌≤◌, ◌⊎◌, inl, inr, Bool, true, false, cond, nat_lt, List, ◌++◌, refl, sym, ap, ◌∙◌, arith}
use Rattle.std.proofs.lemmas.Bool.{cases_order, cases_lt}
use Rattle.std.proofs.lemmas.Bool.Decides.{nat_tests}
use Rattle.ftp_facts.specs.Calendar.{days_in_year, days_in_month, days_of_years, days_of_months, year_and_place, month_and_place, IsDate}
use Rattle.ftp_facts.specs.Moment.{date_digits, time_digits, day_digits, month_digits, second_digits, moment_digits, WritesMoment}
use Rattle.ftp_facts.proofs.CalendarLemmas.{months_of_year, years_to_9999}

next_year : (year : ℕ) → 1970 ≤ year → days_of_years (year + 1 - 1970) ≡ days_of_years (year - 1970) + days_in_year year
unfolding days_of_years
next_year year from =
    let after : year + 1 - 1970 ≡ suc (year - 1970) = omega arith in
    let back : 1970 + (year - 1970) ≡ year = omega arith in
    rw after (rw back refl)

no_years : days_of_years (1970 - 1970) ≡ 0
unfolding days_of_years
no_years = refl

days_of_years_mono : (n k : ℕ) → days_of_years n ≤ days_of_years (k + n)
unfolding days_of_years
days_of_years_mono n zero = let same : 0 + n ≡ n = omega arith in rw same (omega arith)
days_of_years_mono n (suc k) =
    let next : suc k + n ≡ suc (k + n) = omega arith in
    rw next (omega (arith, days_of_years_mono n k))

year_length : (year : ℕ) → (365 ≤ days_in_year year) × (days_in_year year ≤ 366)
year_length year = grind arith

days_of_years_bound : (n : ℕ) → days_of_years n ≤ 366 * n
unfolding days_of_years
days_of_years_bound zero = omega arith
days_of_years_bound (suc n) = omega (arith, days_of_years_bound n, year_length (1970 + n))

-- the days of the years before, and the place in the year, name one year
year_below : (y z p q : ℕ) → 1970 ≤ y → y < z → p < days_in_year y → days_of_years (y - 1970) + p ≡ days_of_years (z - 1970) + q → ⊥
year_below y z p q from lt in_y e =
    let later : (z - (y + 1)) + (y + 1 - 1970) ≡ z - 1970 = omega arith in
    let mono = rw later at (days_of_years_mono (y + 1 - 1970) (z - (y + 1))) in
    omega (arith, mono, next_year y from)

same_year : (y z p q : ℕ) → 1970 ≤ y → 1970 ≤ z → p < days_in_year y → q < days_in_year z → days_of_years (y - 1970) + p ≡ days_of_years (z - 1970) + q → (y ≡ z) × (p ≡ q)
same_year y z p q from_y from_z in_y in_z e = by_order (cases_order y z)
  where
    by_order : (y ≡ z) ⊎ ((y < z) ⊎ (z < y)) → (y ≡ z) × (p ≡ q)
    by_order (inl is) = let same : days_of_years (y - 1970) ≡ days_of_years (z - 1970) = ap (λ year. days_of_years (year - 1970)) is in (is, omega (arith, e, same))
    by_order (inr (inl lt)) = absurd (year_below y z p q from_y lt in_y e)
    by_order (inr (inr lt)) = absurd (year_below z y q p from_z lt in_z (sym e))

-- the same of the months of a year
next_month : (year month : ℕ) → 1 ≤ month → days_of_months year month ≡ days_of_months year (month - 1) + days_in_month year month
unfolding days_of_months
next_month year zero low = absurd (omega arith)
next_month year (suc month) low = let back : suc month - 1 ≡ month = omega arith in rw back refl

no_months : (year : ℕ) → days_of_months year (1 - 1) ≡ 0
unfolding days_of_months
no_months year = refl

days_of_months_mono : (year n k : ℕ) → days_of_months year n ≤ days_of_months year (k + n)
unfolding days_of_months
days_of_months_mono year n zero = let same : 0 + n ≡ n = omega arith in rw same (omega arith)
days_of_months_mono year n (suc k) =
    let next : suc k + n ≡ suc (k + n) = omega arith in
    rw next (omega (arith, days_of_months_mono year n k))

month_below : (year m n p q : ℕ) → 1 ≤ m → m < n → p < days_in_month year m → days_of_months year (m - 1) + p ≡ days_of_months year (n - 1) + q → ⊥
month_below year m n p q low lt in_m e =
    let later : (n - 1 - m) + m ≡ n - 1 = omega arith in
    let mono = rw later at (days_of_months_mono year m (n - 1 - m)) in
    omega (arith, mono, next_month year m low)

same_month : (year m n p q : ℕ) → 1 ≤ m → 1 ≤ n → p < days_in_month year m → q < days_in_month year n → days_of_months year (m - 1) + p ≡ days_of_months year (n - 1) + q → (m ≡ n) × (p ≡ q)
same_month year m n p q low_m low_n in_m in_n e = by_order (cases_order m n)
  where
    by_order : (m ≡ n) ⊎ ((m < n) ⊎ (n < m)) → (m ≡ n) × (p ≡ q)
    by_order (inl is) = let same : days_of_months year (m - 1) ≡ days_of_months year (n - 1) = ap (λ month. days_of_months year (month - 1)) is in (is, omega (arith, e, same))
    by_order (inr (inl lt)) = absurd (month_below year m n p q low_m lt in_m e)
    by_order (inr (inr lt)) = absurd (month_below year n m q p low_n lt in_n (sym e))

-- a day of the year lies in it
place_in_year : (year month day : ℕ) → IsDate year month day → days_of_months year (month - 1) + (day - 1) < days_in_year year
place_in_year year month day real =
    let later : (12 - month) + month ≡ 12 = omega (arith, real) in
    let mono = rw later at (days_of_months_mono year month (12 - month)) in
    let length : days_of_months year month ≡ days_of_months year (month - 1) + days_in_month year month = next_month year month (omega (arith, real)) in
    let first : 1 ≤ day = real.2.0 in
    let last : day ≤ days_in_month year month = real.2.1 in
    let all = months_of_year year in
    omega (arith, mono, length, first, last, all)

-- passing years keeps the day and ends in its year
abbrev YearIs : ℕ → ℕ → ℕ × ℕ → Type 0
YearIs year place r =
    (days_of_years (r.0 - 1970) + r.1 ≡ days_of_years (year - 1970) + place) × (r.1 < days_in_year r.0) × (year ≤ r.0)

year_is : (most year place : ℕ) → 1970 ≤ year → place < 365 * most + 365 → YearIs year place (year_and_place most year place)
unfolding year_and_place
year_is zero year place from few = (refl, omega (arith, year_length year), omega arith)
year_is (suc most) year place from few =
    by_test (nat_lt place (days_in_year year)) refl (year_is most (year + 1) (place - days_in_year year) (omega arith))
  where
    by_test : (b : Bool) → nat_lt place (days_in_year year) ≡ b → (place - days_in_year year < 365 * most + 365 → YearIs (year + 1) (place - days_in_year year) (year_and_place most (year + 1) (place - days_in_year year))) → YearIs year place (cond b (year, place) (year_and_place most (year + 1) (place - days_in_year year)))
    by_test true e later = (refl, grind (arith, nat_tests), omega arith)
    by_test false e later =
        let past : days_in_year year ≤ place = grind (arith, nat_tests) in
        let is = later (omega (arith, past, year_length year)) in
        (omega (arith, is.0, next_year year from), is.1, omega (arith, is.2))

-- and so for months
abbrev MonthIs : ℕ → ℕ → ℕ → ℕ × ℕ → Type 0
MonthIs year month place r =
    (days_of_months year (r.0 - 1) + r.1 ≡ days_of_months year (month - 1) + place) × (r.1 < days_in_month year r.0) × (month ≤ r.0) × (r.0 ≤ 12)

month_is : (most year month place : ℕ) → 1 ≤ month → month + most ≡ 12 → days_of_months year (month - 1) + place < days_in_year year → MonthIs year month place (month_and_place most year month place)
unfolding month_and_place
month_is zero year month place low last in_year =
    let twelve : month ≡ 12 = omega arith in
    let length = next_month year month low in
    let all : days_of_months year month ≡ days_in_year year = rw twelve (months_of_year year) in
    (refl, omega (arith, length, all), omega arith, omega arith)
month_is (suc most) year month place low last in_year =
    by_test (nat_lt place (days_in_month year month)) refl (month_is most year (month + 1) (place - days_in_month year month) (omega arith) (omega arith))
  where
    same : month + 1 - 1 ≡ month
    same = omega arith

    by_test : (b : Bool) → nat_lt place (days_in_month year month) ≡ b → (days_of_months year (month + 1 - 1) + (place - days_in_month year month) < days_in_year year → MonthIs year (month + 1) (place - days_in_month year month) (month_and_place most year (month + 1) (place - days_in_month year month))) → MonthIs year month place (cond b (month, place) (month_and_place most year (month + 1) (place - days_in_month year month)))
    by_test true e later = (refl, grind (arith, nat_tests), omega arith, omega arith)
    by_test false e later =
        let past : days_in_month year month ≤ place = grind (arith, nat_tests) in
        let length = next_month year month low in
        let here : days_of_months year (month + 1 - 1) ≡ days_of_months year month = ap (days_of_months year) same in
        let is = later (omega (arith, past, length, here, in_year)) in
        (omega (arith, is.0, length, here, past), is.1, omega (arith, is.2), is.3)

-- what names a moment is its digits
pub WritesMoment-digits : (text : List ℕ) (moment : ℕ) → WritesMoment text moment → text ≡ moment_digits moment
WritesMoment-digits text moment w =
    let place = days_of_months w.year (w.month - 1) + (w.day - 1) in
    let number : moment / 86_400 ≡ days_of_years (w.year - 1970) + place = omega (arith, w.counted, w.real_time) in
    let second : moment % 86_400 ≡ w.hour * 3600 + w.minute * 60 + w.second = omega (arith, w.counted, w.real_time, w.no_leap) in
    let in_year = place_in_year w.year w.month w.day w.real_date in
    let y = year_is 10_000 1970 (moment / 86_400) (omega arith) (omega (arith, number, in_year, year_length w.year, days_of_years_bound (w.year - 1970), w.real_date)) in
    let r = year_and_place 10_000 1970 (moment / 86_400) in
    let year = same_year r.0 w.year r.1 place y.2 w.real_date.0.0 y.1 in_year (omega (arith, y.0, number, no_years)) in
    let both : r ≡ (w.year, place) = λ i. (year.0 i, year.1 i) in
    let m = month_is 11 w.year 1 place (omega arith) (omega arith) (omega (arith, no_months w.year, in_year)) in
    let s = month_and_place 11 w.year 1 place in
    let month = same_month w.year s.0 w.month s.1 (w.day - 1) m.2 w.real_date.1.0 m.1 (omega (arith, w.real_date)) (omega (arith, m.0, no_months w.year)) in
    let pair : s ≡ (w.month, w.day - 1) = λ i. (month.0 i, month.1 i) in
    let day : w.day - 1 + 1 ≡ w.day = omega (arith, w.real_date) in
    let date : day_digits r ≡ date_digits w.year w.month w.day = ap day_digits both ∙ ap (month_digits w.year) pair ∙ ap (date_digits w.year w.month) day in
    let hour : (moment % 86_400) / 3600 ≡ w.hour = omega (arith, second, w.real_time, w.no_leap) in
    let minute : (moment % 86_400) % 3600 / 60 ≡ w.minute = omega (arith, second, w.real_time, w.no_leap) in
    let last : (moment % 86_400) % 60 ≡ w.second = omega (arith, second, w.real_time, w.no_leap) in
    let time : second_digits (moment % 86_400) ≡ time_digits w.hour w.minute w.second = rw hour (rw minute (rw last refl)) in
    w.written ∙ sym (ap (λ front. front ++ second_digits (moment % 86_400)) date ∙ ap (λ tail. date_digits w.year w.month w.day ++ tail) time)

-- a year after 9999 begins past the last day
last_year : (year place : ℕ) → 1970 ≤ year → days_of_years (year - 1970) + place ≤ 2_932_896 → year ≤ 9999
last_year year place from e = by_limit (cases_lt 9999 year)
  where
    by_limit : (9999 < year) ⊎ (year ≤ 9999) → year ≤ 9999
    by_limit (inl past) =
        let later : (year - 10_000) + 8_030 ≡ year - 1970 = omega arith in
        let mono = rw later at (days_of_years_mono 8_030 (year - 10_000)) in
        absurd (omega (arith, mono, years_to_9999, e))
    by_limit (inr is) = is

-- the digits of each moment of the type name it
pub moment_digits-write : (moment : ℕ) → moment ≤ 253_402_300_799 → WritesMoment (moment_digits moment) moment
moment_digits-write moment most =
    let r = year_and_place 10_000 1970 (moment / 86_400) in
    let y = year_is 10_000 1970 (moment / 86_400) (omega arith) (omega arith) in
    let year : r.0 ≤ 9999 = last_year r.0 r.1 y.2 (omega (arith, y.0, no_years)) in
    let s = month_and_place 11 r.0 1 r.1 in
    let m = month_is 11 r.0 1 r.1 (omega arith) (omega arith) (omega (arith, no_months r.0, y.1)) in
    record {
      year = r.0;
      month = s.0;
      day = s.1 + 1;
      hour = (moment % 86_400) / 3600;
      minute = (moment % 86_400) % 3600 / 60;
      second = (moment % 86_400) % 60;
      real_date = ((y.2, year), (m.2, m.3), (omega arith, omega (arith, m.1)));
      real_time = omega arith;
      no_leap = omega arith;
      written = refl;
      counted = omega (arith, y.0, m.0, no_years, no_months r.0);
    }
