-- The moment that a text says, as a value and as a relation.
use Rattle.std.proofs.Common.{◌≡◌, ℕ, ◌+◌, ◌*◌, ◌/◌, ◌%◌, ◌<◌, ◌≤◌, List, [], ◌∷◌, ◌++◌, true, Option, Some, None, refl, sym, ap, subst, ◌∙◌, arith, length, take, drop}
use Rattle.std.specs.Prelude.{nat_le, nat_lt}
use Rattle.std.specs.Char.{digit_value, is_ascii_digit}
use Rattle.std.specs.List.{list_all}
use Rattle.std.specs.Str.Parse.{digits_value}
use Rattle.std.proofs.lemmas.Bool.Decides.{nat_tests}
use Rattle.std.proofs.lemmas.Str.{digit_value_digit}
use Rattle.ftp_endpoint.proofs.NumberLemmas.{digit_bounds}
use Rattle.ftp_facts.specs.Calendar.{IsDate, IsTime, day_number, second_of_day}
use Rattle.ftp_facts.specs.Moment.{two_digits, four_digits, date_digits, time_digits, SaysMoment, has_date, has_time, is_fraction, is_moment_text, seconds_of, moment_value}
use Rattle.ftp_facts.proofs.MomentLemmas.{days_fit}
use Rattle.ftp_facts.proofs.NumberLemmas.{given_is, is_given, both, and_both, at_most, is_at_most}

-- ---- digits

value_of : (c : ℕ) → is_ascii_digit c ≡ true → digit_value c + 48 ≡ c
value_of c is = let range = digit_bounds c is in digit_value_digit c (omega (arith, range.0), omega (arith, range.1))

small_value : (c : ℕ) → is_ascii_digit c ≡ true → digit_value c < 10
small_value c is = let range = digit_bounds c is in omega (arith, value_of c is, range.1)

pair_is : (a b : ℕ) → is_ascii_digit a ≡ true → is_ascii_digit b ≡ true → two_digits (digits_value 10 (a ∷ b ∷ [])) ≡ a ∷ b ∷ []
pair_is a b x y =
    let n : ℕ = digits_value 10 (a ∷ b ∷ []) in
    let first : 48 + n / 10 ≡ a = omega (arith, value_of a x, value_of b y, small_value a x, small_value b y) in
    let second : 48 + n % 10 ≡ b = omega (arith, value_of a x, value_of b y, small_value a x, small_value b y) in
    λ i. first i ∷ second i ∷ []

four_is : (a b c d : ℕ) → is_ascii_digit a ≡ true → is_ascii_digit b ≡ true → is_ascii_digit c ≡ true → is_ascii_digit d ≡ true
    → four_digits (digits_value 10 (a ∷ b ∷ c ∷ d ∷ [])) ≡ a ∷ b ∷ c ∷ d ∷ []
four_is a b c d x y z w =
    let n : ℕ = digits_value 10 (a ∷ b ∷ c ∷ d ∷ []) in
    let high : n / 100 ≡ digits_value 10 (a ∷ b ∷ []) = omega (arith, value_of a x, value_of b y, value_of c z, value_of d w, small_value a x, small_value b y, small_value c z, small_value d w) in
    let low : n % 100 ≡ digits_value 10 (c ∷ d ∷ []) = omega (arith, value_of a x, value_of b y, value_of c z, value_of d w, small_value a x, small_value b y, small_value c z, small_value d w) in
    let one : two_digits (n / 100) ≡ a ∷ b ∷ [] = ap two_digits high ∙ pair_is a b x y in
    let two : two_digits (n % 100) ≡ c ∷ d ∷ [] = ap two_digits low ∙ pair_is c d z w in
    λ i. one i ++ two i

year_small : (a b c d : ℕ) → is_ascii_digit a ≡ true → is_ascii_digit b ≡ true → is_ascii_digit c ≡ true → is_ascii_digit d ≡ true → digits_value 10 (a ∷ b ∷ c ∷ d ∷ []) ≤ 9999
year_small a b c d x y z w = omega (arith, small_value a x, small_value b y, small_value c z, small_value d w)

digit_is : (n : ℕ) → n < 10 → digit_value (48 + n) ≡ n
digit_is n low = grind (arith, nat_tests)

is_digit : (n : ℕ) → n < 10 → is_ascii_digit (48 + n) ≡ true
is_digit n low = grind (arith, nat_tests)

pair_value : (n : ℕ) → n < 100 → digits_value 10 (two_digits n) ≡ n
pair_value n low =
    let a = digit_is (n / 10) (omega (arith, low)) in
    let b = digit_is (n % 10) (omega arith) in
    rw (a, b) (omega arith)

four_value : (n : ℕ) → n < 10000 → digits_value 10 (four_digits n) ≡ n
four_value n low =
    let a = digit_is (n / 100 / 10) (omega (arith, low)) in
    let b = digit_is (n / 100 % 10) (omega arith) in
    let c = digit_is (n % 100 / 10) (omega arith) in
    let d = digit_is (n % 100 % 10) (omega arith) in
    rw (a, b, c, d) (omega arith)

-- ---- tests

less : (n m : ℕ) → nat_lt n m ≡ true → n < m
less n m is = grind (arith, nat_tests)

is_less : (n m : ℕ) → n < m → nat_lt n m ≡ true
is_less n m lt = grind (arith, nat_tests)

-- ---- a text of fourteen digits, and what follows

by_octets : (text : List ℕ) → 14 ≤ length text → list_all is_ascii_digit (take 14 text) ≡ true → has_date text ≡ true → has_time text ≡ true → is_fraction (drop 14 text) ≡ true
    → SaysMoment text (seconds_of text)
by_octets [] long all date time fraction = absurd (omega (arith, long))
by_octets (a ∷ []) long all date time fraction = absurd (omega (arith, long))
by_octets (a ∷ b ∷ []) long all date time fraction = absurd (omega (arith, long))
by_octets (a ∷ b ∷ c ∷ []) long all date time fraction = absurd (omega (arith, long))
by_octets (a ∷ b ∷ c ∷ d ∷ []) long all date time fraction = absurd (omega (arith, long))
by_octets (a ∷ b ∷ c ∷ d ∷ e ∷ []) long all date time fraction = absurd (omega (arith, long))
by_octets (a ∷ b ∷ c ∷ d ∷ e ∷ f ∷ []) long all date time fraction = absurd (omega (arith, long))
by_octets (a ∷ b ∷ c ∷ d ∷ e ∷ f ∷ g ∷ []) long all date time fraction = absurd (omega (arith, long))
by_octets (a ∷ b ∷ c ∷ d ∷ e ∷ f ∷ g ∷ h ∷ []) long all date time fraction = absurd (omega (arith, long))
by_octets (a ∷ b ∷ c ∷ d ∷ e ∷ f ∷ g ∷ h ∷ i ∷ []) long all date time fraction = absurd (omega (arith, long))
by_octets (a ∷ b ∷ c ∷ d ∷ e ∷ f ∷ g ∷ h ∷ i ∷ j ∷ []) long all date time fraction = absurd (omega (arith, long))
by_octets (a ∷ b ∷ c ∷ d ∷ e ∷ f ∷ g ∷ h ∷ i ∷ j ∷ k ∷ []) long all date time fraction = absurd (omega (arith, long))
by_octets (a ∷ b ∷ c ∷ d ∷ e ∷ f ∷ g ∷ h ∷ i ∷ j ∷ k ∷ l ∷ []) long all date time fraction = absurd (omega (arith, long))
by_octets (a ∷ b ∷ c ∷ d ∷ e ∷ f ∷ g ∷ h ∷ i ∷ j ∷ k ∷ l ∷ m ∷ []) long all date time fraction = absurd (omega (arith, long))
by_octets (a ∷ b ∷ c ∷ d ∷ e ∷ f ∷ g ∷ h ∷ i ∷ j ∷ k ∷ l ∷ m ∷ n ∷ rest) long all date time fraction =
    let d0 = both _ _ all in
    let d1 = both _ _ d0.1 in
    let d2 = both _ _ d1.1 in
    let d3 = both _ _ d2.1 in
    let d4 = both _ _ d3.1 in
    let d5 = both _ _ d4.1 in
    let d6 = both _ _ d5.1 in
    let d7 = both _ _ d6.1 in
    let d8 = both _ _ d7.1 in
    let d9 = both _ _ d8.1 in
    let d10 = both _ _ d9.1 in
    let d11 = both _ _ d10.1 in
    let d12 = both _ _ d11.1 in
    let d13 = both _ _ d12.1 in
    let year : ℕ = digits_value 10 (a ∷ b ∷ c ∷ d ∷ []) in
    let month : ℕ = digits_value 10 (e ∷ f ∷ []) in
    let day : ℕ = digits_value 10 (g ∷ h ∷ []) in
    let hour : ℕ = digits_value 10 (i ∷ j ∷ []) in
    let minute : ℕ = digits_value 10 (k ∷ l ∷ []) in
    let second : ℕ = digits_value 10 (m ∷ n ∷ []) in
    let y4 = both _ _ date in
    let y3 = both _ _ y4.0 in
    let y2 = both _ _ y3.0 in
    let y1 = both _ _ y2.0 in
    let t2 = both _ _ time in
    let t1 = both _ _ t2.0 in
    let behind : List ℕ = i ∷ j ∷ k ∷ l ∷ m ∷ n ∷ rest in
    let years = four_is a b c d d0.0 d1.0 d2.0 d3.0 in
    let months = pair_is e f d4.0 d5.0 in
    let days = pair_is g h d6.0 d7.0 in
    let hours = pair_is i j d8.0 d9.0 in
    let minutes = pair_is k l d10.0 d11.0 in
    let seconds = pair_is m n d12.0 d13.0 in
    record {
      number = day_number year month day;
      seconds = second_of_day hour minute second;
      time = behind;
      fraction = rest;
      date_first = record {
        year = year;
        month = month;
        day = day;
        real = (
          (at_most 1970 year y1.0, year_small a b c d d0.0 d1.0 d2.0 d3.0),
          (at_most 1 month y1.1, at_most month 12 y2.1),
          (at_most 1 day y3.1, at_most day _ y4.1),
        );
        written = (λ z. (sym years z ++ (sym months z ++ sym days z)) ++ behind);
        counted = refl;
      };
      time_next = record {
        hour = hour;
        minute = minute;
        second = second;
        real = (less hour 24 t1.0, less minute 60 t1.1, at_most second 60 t2.1);
        written = (λ z. (sym hours z ++ (sym minutes z ++ sym seconds z)) ++ rest);
        counted = refl;
      };
      fraction_last = fraction;
      counted = refl;
    }

pub moment_says : (text : List ℕ) (moment : ℕ) → moment_value text ≡ Some moment → SaysMoment text moment
unfolding moment_value
moment_says text moment e =
    let g = given_is (is_moment_text text) (seconds_of text) moment e in
    let four = both _ _ g.0 in
    let three = both _ _ four.0 in
    let two = both _ _ three.0 in
    let one = both _ _ two.0 in
    subst (SaysMoment text) g.1 (by_octets text (at_most 14 (length text) one.0) one.1 two.1 three.1 four.1)

digits_of : (n : ℕ) → n < 100 → (is_ascii_digit (48 + n / 10) ≡ true) × (is_ascii_digit (48 + n % 10) ≡ true)
digits_of n low = (is_digit (n / 10) (omega (arith, low)), is_digit (n % 10) (omega arith))

-- the fourteen digits of a date and a time
value_is : (year month day hour minute second : ℕ) (rest : List ℕ) → IsDate year month day → day < 100 → IsTime hour minute second → is_fraction rest ≡ true
    → moment_value (date_digits year month day ++ (time_digits hour minute second ++ rest)) ≡ Some (day_number year month day * 86_400 + second_of_day hour minute second)
unfolding moment_value
value_is year month day hour minute second rest date few time fraction =
    let y = four_value year (omega (arith, date.0.1)) in
    let mo = pair_value month (omega (arith, date.1.1)) in
    let da = pair_value day few in
    let ho = pair_value hour (omega (arith, time.0)) in
    let mi = pair_value minute (omega (arith, time.1)) in
    let se = pair_value second (omega (arith, time.2)) in
    let century = digits_of (year / 100) (omega (arith, date.0.1)) in
    let years = digits_of (year % 100) (omega arith) in
    let months = digits_of month (omega (arith, date.1.1)) in
    let days = digits_of day few in
    let hours = digits_of hour (omega (arith, time.0)) in
    let minutes = digits_of minute (omega (arith, time.1)) in
    let seconds = digits_of second (omega (arith, time.2)) in
    let text : List ℕ = date_digits year month day ++ (time_digits hour minute second ++ rest) in
    let long : nat_le 14 (length text) ≡ true = is_at_most 14 (length text) (omega arith) in
    let all : list_all is_ascii_digit (take 14 text) ≡ true =
    rw (century.0, century.1, years.0, years.1, months.0, months.1, days.0, days.1, hours.0, hours.1, minutes.0, minutes.1, seconds.0, seconds.1) refl in
    let dated : has_date text ≡ true =
    rw (y, mo, da) (and_both _ _ (and_both _ _ (and_both _ _ (and_both _ _ (is_at_most 1970 year date.0.0) (is_at_most 1 month date.1.0)) (is_at_most month 12 date.1.1)) (is_at_most 1 day date.2.0)) (is_at_most day _ date.2.1)) in
    let timed : has_time text ≡ true = rw (ho, mi, se) (and_both _ _ (and_both _ _ (is_less hour 24 time.0) (is_less minute 60 time.1)) (is_at_most second 60 time.2)) in
    let tests : is_moment_text text ≡ true = and_both _ _ (and_both _ _ (and_both _ _ (and_both _ _ long all) dated) timed) fraction in
    is_given (is_moment_text text) (seconds_of text) tests ∙ ap Some (rw (y, mo, da, ho, mi, se) refl)

pub says_moment : (text : List ℕ) (moment : ℕ) → SaysMoment text moment → moment_value text ≡ Some moment
says_moment text moment s =
    let d = s.date_first in
    let t = s.time_next in
    let few = days_fit d.year d.month d.day d.real in
    let text_is : text ≡ date_digits d.year d.month d.day ++ (time_digits t.hour t.minute t.second ++ s.fraction) =
    d.written ∙ ap (λ l. date_digits d.year d.month d.day ++ l) t.written in
    let value : moment ≡ day_number d.year d.month d.day * 86_400 + second_of_day t.hour t.minute t.second =
    s.counted ∙ (λ i. d.counted i * 86_400 + t.counted i) in
    ap moment_value text_is ∙ value_is d.year d.month d.day t.hour t.minute t.second s.fraction d.real few t.real s.fraction_last ∙ ap Some (sym value)

pub no_moment : (text : List ℕ) → ((seconds : ℕ) → ¬ SaysMoment text seconds) → moment_value text ≡ None
no_moment text none = by_value (moment_value text) refl
  where
    by_value : (value : Option ℕ) → moment_value text ≡ value → value ≡ None
    by_value None e = refl
    by_value (Some seconds) e = absurd (none seconds (moment_says text seconds e))
