-- A text names one date, one time of day and one moment, and a moment's text is one.
use Rattle.std.proofs.Common.{◌≡◌, ◌≢◌, ℕ, ◌+◌, ◌/◌, ◌%◌, ◌<◌, ◌≤◌, List, [], ◌++◌, arith, refl, sym, ◌∙◌}
use mathlib.Core.HLevel.{is_prop→PathP}
use Rattle.std.proofs.Math.Bridge.{le_prop}
use Rattle.ftp_facts.specs.declared.moment.Moment.{Moment}
use Rattle.ftp_facts.specs.Calendar.{IsDate, day_number, second_of_day}
use Rattle.ftp_facts.specs.Moment.{two_digits, four_digits, time_digits, BeginsWithDate, BeginsWithTime, SaysMoment, WritesMoment}

pub two_digits-same : (m n : ℕ) (xs ys : List ℕ) → m < 100 → n < 100 → two_digits m ++ xs ≡ two_digits n ++ ys → (m ≡ n) × (xs ≡ ys)
two_digits-same m n xs ys hm hn e =
    let high : 48 + m / 10 ≡ 48 + n / 10 = cc in
    let low : 48 + m % 10 ≡ 48 + n % 10 = cc in
    let rest : xs ≡ ys = cc in
    (omega arith, rest)

pub four_digits-same : (m n : ℕ) (xs ys : List ℕ) → m < 10_000 → n < 10_000 → four_digits m ++ xs ≡ four_digits n ++ ys → (m ≡ n) × (xs ≡ ys)
four_digits-same m n xs ys hm hn e =
    let high = two_digits-same (m / 100) (n / 100) (two_digits (m % 100) ++ xs) (two_digits (n % 100) ++ ys) (omega arith) (omega arith) e in
    let low = two_digits-same (m % 100) (n % 100) xs ys (omega arith) (omega arith) high.1 in
    (omega arith, low.1)

pub days_fit : (year month day : ℕ) → IsDate year month day → day < 100
days_fit year month day real = grind arith

-- the rest after the year of a date at the front
pub after_year : (text rest after : List ℕ) (year number : ℕ) → year < 10_000 → text ≡ four_digits year ++ rest → (b : BeginsWithDate text number after) → (year ≡ b.year) × (rest ≡ two_digits b.month ++ (two_digits b.day ++ after))
after_year text rest after year number lt is b =
    four_digits-same year b.year rest (two_digits b.month ++ (two_digits b.day ++ after)) lt (omega (arith, b.real)) (sym is ∙ b.written)

-- and after its month
pub after_month : (text rest more after : List ℕ) (year month number : ℕ) → year < 10_000 → month < 100 → text ≡ four_digits year ++ rest → rest ≡ two_digits month ++ more → (b : BeginsWithDate text number after) → (month ≡ b.month) × (more ≡ two_digits b.day ++ after)
after_month text rest more after year month number year_in month_in is next b =
    let before = after_year text rest after year number year_in is b in
    two_digits-same month b.month more (two_digits b.day ++ after) month_in (omega (arith, b.real)) (sym next ∙ before.1)

pub no_month : (text rest : List ℕ) (year : ℕ) → year < 10_000 → text ≡ four_digits year ++ rest → ((n : ℕ) (more : List ℕ) → n < 100 → rest ≢ two_digits n ++ more) → (number : ℕ) (after : List ℕ) → ¬ BeginsWithDate text number after
no_month text rest year lt is none number after b =
    none b.month (two_digits b.day ++ after) (omega (arith, b.real)) (after_year text rest after year number lt is b).1

pub no_day : (text rest more : List ℕ) (year month : ℕ) → year < 10_000 → month < 100 → text ≡ four_digits year ++ rest → rest ≡ two_digits month ++ more → ((n : ℕ) (last : List ℕ) → n < 100 → more ≢ two_digits n ++ last) → (number : ℕ) (after : List ℕ) → ¬ BeginsWithDate text number after
no_day text rest more year month year_in month_in is next none number after b =
    none b.day after (days_fit b.year b.month b.day b.real) (after_month text rest more after year month number year_in month_in is next b).1

-- the numbers of a date that begins a text, and what follows it, are one
pub BeginsWithDate-same : (text : List ℕ) (m n : ℕ) (xs ys : List ℕ) → BeginsWithDate text m xs → BeginsWithDate text n ys → (m ≡ n) × (xs ≡ ys)
BeginsWithDate-same text m n xs ys a b =
    let year = after_year text (two_digits a.month ++ (two_digits a.day ++ xs)) ys a.year n (omega (arith, a.real)) a.written b in
    let month = two_digits-same a.month b.month (two_digits a.day ++ xs) (two_digits b.day ++ ys) (omega (arith, a.real)) (omega (arith, b.real)) year.1 in
    let day = two_digits-same a.day b.day xs ys (days_fit a.year a.month a.day a.real) (days_fit b.year b.month b.day b.real) month.1 in
    let is_m = a.counted in
    let is_n = b.counted in
    (rw (year.0, month.0, day.0) at is_m ∙ sym is_n, day.1)

-- the rest after the hour of a time at the front
pub after_hour : (text rest after : List ℕ) (hour seconds : ℕ) → hour < 100 → text ≡ two_digits hour ++ rest → (b : BeginsWithTime text seconds after) → (hour ≡ b.hour) × (rest ≡ two_digits b.minute ++ (two_digits b.second ++ after))
after_hour text rest after hour seconds lt is b =
    two_digits-same hour b.hour rest (two_digits b.minute ++ (two_digits b.second ++ after)) lt (omega (arith, b.real)) (sym is ∙ b.written)

-- and after its minute
pub after_minute : (text rest more after : List ℕ) (hour minute seconds : ℕ) → hour < 100 → minute < 100 → text ≡ two_digits hour ++ rest → rest ≡ two_digits minute ++ more → (b : BeginsWithTime text seconds after) → (minute ≡ b.minute) × (more ≡ two_digits b.second ++ after)
after_minute text rest more after hour minute seconds hour_in minute_in is next b =
    let before = after_hour text rest after hour seconds hour_in is b in
    two_digits-same minute b.minute more (two_digits b.second ++ after) minute_in (omega (arith, b.real)) (sym next ∙ before.1)

pub no_second : (text rest more : List ℕ) (hour minute : ℕ) → hour < 100 → minute < 100 → text ≡ two_digits hour ++ rest → rest ≡ two_digits minute ++ more → ((n : ℕ) (last : List ℕ) → n < 100 → more ≢ two_digits n ++ last) → (seconds : ℕ) (after : List ℕ) → ¬ BeginsWithTime text seconds after
no_second text rest more hour minute hour_in minute_in is next none seconds after b =
    none b.second after (omega (arith, b.real)) (after_minute text rest more after hour minute seconds hour_in minute_in is next b).1

-- the numbers of a time of day that begins a text, and what follows it, are one
pub BeginsWithTime-same : (text : List ℕ) (m n : ℕ) (xs ys : List ℕ) → BeginsWithTime text m xs → BeginsWithTime text n ys → (m ≡ n) × (xs ≡ ys)
BeginsWithTime-same text m n xs ys a b =
    let hour = after_hour text (two_digits a.minute ++ (two_digits a.second ++ xs)) ys a.hour n (omega (arith, a.real)) a.written b in
    let minute = two_digits-same a.minute b.minute (two_digits a.second ++ xs) (two_digits b.second ++ ys) (omega (arith, a.real)) (omega (arith, b.real)) hour.1 in
    let second = two_digits-same a.second b.second xs ys (omega (arith, a.real)) (omega (arith, b.real)) minute.1 in
    let is_m = a.counted in
    let is_n = b.counted in
    (rw (hour.0, minute.0, second.0) at is_m ∙ sym is_n, second.1)

-- no text says two moments
pub SaysMoment-same : (text : List ℕ) (m n : ℕ) → SaysMoment text m → SaysMoment text n → m ≡ n
SaysMoment-same text m n a b =
    let date = BeginsWithDate-same text a.number b.number a.time b.time a.date_first b.date_first in
    let next : BeginsWithTime b.time a.seconds a.fraction = rw date.1 at a.time_next in
    let time = BeginsWithTime-same b.time a.seconds b.seconds a.fraction b.fraction next b.time_next in
    omega (arith, a.counted, b.counted, date.0, time.0)

-- what is written is said
pub WritesMoment-says : (text : List ℕ) (moment : ℕ) → WritesMoment text moment → SaysMoment text moment
WritesMoment-says text moment w = record {
  number = day_number w.year w.month w.day;
  seconds = second_of_day w.hour w.minute w.second;
  time = time_digits w.hour w.minute w.second;
  fraction = [];
  date_first = record { year = w.year; month = w.month; day = w.day; real = w.real_date; written = w.written; counted = refl };
  time_next = record { hour = w.hour; minute = w.minute; second = w.second; real = w.real_time; written = refl; counted = refl };
  fraction_last = refl;
  counted = w.counted;
}

-- a moment is its seconds
pub Moment-same : (m n : Moment) → m.seconds ≡ n.seconds → m ≡ n
Moment-same m n e = λ i. record {
  seconds = e i;
  in_range = is_prop→PathP (λ j. e j ≤ 253_402_300_799) (λ j. le_prop) m.in_range n.in_range i;
}
