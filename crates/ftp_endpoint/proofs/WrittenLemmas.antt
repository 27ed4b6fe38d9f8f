-- The texts that are written for numbers and endpoints say them.
use Rattle.std.proofs.Common.{◌≡◌, inl, ℕ, zero, suc, ◌+◌, ◌*◌, ◌/◌, ◌%◌, ◌^◌, ◌<◌, ◌≤◌, ◌++◌, Bool, true, false, cond, nat_lt, List, [], ◌∷◌, length, map, take, drop, refl, sym, ap, subst, ◌∙◌, arith, append_assoc, decimal, lit<, lit≤}
use Rattle.std.specs.Char.{digit_char, digit_value, is_ascii_digit}
use Rattle.std.specs.List.{AllByRecursion, join_with_byte, prefix_len}
use Rattle.std.specs.Str.Parse.{AllDigits, digits_value}
use Rattle.std.proofs.lemmas.Bool.Decides.{nat_tests}
use Rattle.std.proofs.lemmas.Fmt.{decimal_is_IsNumeral, length-decimal-le}
use Rattle.std.proofs.Math.Seq.{take-append_seam, drop-append_seam, drop-length, take-length}
use Rattle.std.proofs.lemmas.Str.{digit_value-digit_char}
use Rattle.ftp_endpoint.specs.Endpoint.{BeginsWith, HasShape, IsDelimiter, SaysSix}
use Rattle.ftp_endpoint.specs.Host.{BeginsWithGroups, IsGroup, SaysExtended, SaysV4, SaysV6, behind_hex, front_hex, is_hex, octets_of}
use Rattle.ftp_endpoint.specs.Number.{SaysNumber, SaysOctet, SaysPort, behind_digits, front_digits}
use Rattle.ftp_endpoint.specs.Written.{IsTypedHost, extended_text, groups_of, hex, numbers_text, six_text}
use Rattle.ftp_endpoint.specs.declared.endpoint.Endpoint.{Endpoint}
use Rattle.ftp_endpoint.specs.declared.host.Host.{Host}
use Rattle.ftp_endpoint.specs.declared.host.Host.TheVariants.{V4, V6}
use Rattle.ftp_endpoint.proofs.NumberLemmas.{is_digit, run_before}

one-suc : (n : ℕ) → 1 + n ≡ suc n
one-suc n = omega arith

-- a written number is read as it is
pub says_number : (n : ℕ) → n < 10 ^ 18 → SaysNumber (decimal n) n
says_number n small =
    let is = decimal_is_IsNumeral n (omega (arith, small)) in
    ((is.0, length-decimal-le 18 n (omega arith) small (omega (arith, small))), sym is.1)

says_octet : (n : ℕ) → n < 256 → SaysOctet (decimal n) n
says_octet n small =
    let is = decimal_is_IsNumeral n (omega (arith, small)) in
    ((is.0, length-decimal-le 3 n (omega arith) (omega (arith, small)) (omega (arith, small)), omega (arith, is.1, small)), sym is.1)

says_port : (n : ℕ) → 1 ≤ n → n < 65536 → SaysPort (decimal n) n
says_port n some small =
    let is = says_number n (omega (arith, small)) in
    ((is.0, omega (arith, is.1, some), omega (arith, is.1, small)), is.1)

all_front : (ds : List ℕ) → AllDigits 10 ds → prefix_len is_ascii_digit ds ≡ length ds
all_front [] all = refl
all_front (c ∷ ds) all =
    ap (λ b. cond b (1 + prefix_len is_ascii_digit ds) 0) (is_digit c all.0) ∙ (ap (λ n. 1 + n) (all_front ds all.1) ∙ one-suc (length ds))

pub front_all : (ds : List ℕ) → AllDigits 10 ds → front_digits ds ≡ ds
front_all ds all = ap (λ n. take n ds) (all_front ds all) ∙ take-length ds

pub behind_all : (ds : List ℕ) → AllDigits 10 ds → behind_digits ds ≡ []
behind_all ds all = ap (λ n. drop n ds) (all_front ds all) ∙ drop-length ds

pub front_of : (ds : List ℕ) (d : ℕ) (more : List ℕ) → AllDigits 10 ds → is_ascii_digit d ≡ false → front_digits (ds ++ d ∷ more) ≡ ds
front_of ds d more all none = ap (λ n. take n (ds ++ d ∷ more)) (run_before ds d more all none) ∙ take-append_seam ds (d ∷ more)

pub behind_of : (ds : List ℕ) (d : ℕ) (more : List ℕ) → AllDigits 10 ds → is_ascii_digit d ≡ false → behind_digits (ds ++ d ∷ more) ≡ d ∷ more
behind_of ds d more all none = ap (λ n. drop n (ds ++ d ∷ more)) (run_before ds d more all none) ∙ drop-append_seam ds (d ∷ more)

-- numbers joined by a separator
begins_last : (c a : ℕ) → a < 256 → BeginsWith c (decimal a) (a ∷ []) []
begins_last c a small =
    let is = says_octet a small in
    let P : List ℕ → Type 0 = λ x. SaysOctet x a in
    (subst P (sym (front_all (decimal a) is.0.0.1)) is, behind_all (decimal a) is.0.0.1)

begins_more : (c a : ℕ) (next : List ℕ) (m : ℕ) (ns rest : List ℕ) → is_ascii_digit c ≡ false → a < 256 → BeginsWith c next (m ∷ ns) rest → BeginsWith c (decimal a ++ c ∷ next) (a ∷ m ∷ ns) rest
begins_more c a next m ns rest none small h =
    let is = says_octet a small in
    let P : List ℕ → Type 0 = λ x. SaysOctet x a in
    (subst P (sym (front_of (decimal a) c next is.0.0.1 none)) is, (next, behind_of (decimal a) c next is.0.0.1 none, h))

abbrev endpoint_of : Host → ℕ → Endpoint
endpoint_of host port = record { host = host; port = port }

says_v4 : (octets : List ℕ) → IsTypedHost (V4 octets) → SaysV4 (numbers_text 46 octets) octets
says_v4 [] h = absurd (omega (arith, h.0))
says_v4 (a ∷ []) h = absurd (omega (arith, h.0))
says_v4 (a ∷ b ∷ []) h = absurd (omega (arith, h.0))
says_v4 (a ∷ b ∷ c ∷ []) h = absurd (omega (arith, h.0))
says_v4 (a ∷ b ∷ c ∷ d ∷ e ∷ xs) h = absurd (omega (arith, h.0))
says_v4 (a ∷ b ∷ c ∷ d ∷ []) h = record {
  a = a;
  b = b;
  c = c;
  d = d;
  numbers = begins_more 46 a (decimal b ++ 46 ∷ (decimal c ++ 46 ∷ decimal d)) b (c ∷ d ∷ []) [] refl h.1.0 (begins_more 46 b (decimal c ++ 46 ∷ decimal d) c (d ∷ []) [] refl h.1.1.0 (begins_more 46 c (decimal d) d [] [] refl h.1.1.1.0 (begins_last 46 d h.1.1.1.1.0)));
  value = refl;
}

six_nested : (A B C D X : List ℕ) → (A ++ (44 ∷ (B ++ (44 ∷ (C ++ (44 ∷ D)))))) ++ X ≡ A ++ (44 ∷ (B ++ (44 ∷ (C ++ (44 ∷ (D ++ X))))))
six_nested A B C D X = simp append_assoc

pub says_six : (octets : List ℕ) (port : ℕ) → IsTypedHost (V4 octets) → port < 65536 → SaysSix (six_text (record { host = V4 octets; port = port })) (record { host = V4 octets; port = port })
says_six [] port h small = absurd (omega (arith, h.0))
says_six (a ∷ []) port h small = absurd (omega (arith, h.0))
says_six (a ∷ b ∷ []) port h small = absurd (omega (arith, h.0))
says_six (a ∷ b ∷ c ∷ []) port h small = absurd (omega (arith, h.0))
says_six (a ∷ b ∷ c ∷ d ∷ e ∷ xs) port h small = absurd (omega (arith, h.0))
says_six (a ∷ b ∷ c ∷ d ∷ []) port h small =
    let tail : List ℕ = 44 ∷ (decimal (port / 256) ++ (44 ∷ decimal (port % 256))) in
    let P : List ℕ → Type 0 = λ x. BeginsWith 44 x (a ∷ b ∷ c ∷ d ∷ (port / 256) ∷ (port % 256) ∷ []) [] in
    let p : ℕ = port / 256 in
    let q : ℕ = port % 256 in
    let high : p < 256 = omega (arith, small) in
    let low : q < 256 = omega arith in
    let t5 : List ℕ = decimal q in
    let t4 : List ℕ = decimal p ++ 44 ∷ t5 in
    let t3 : List ℕ = decimal d ++ 44 ∷ t4 in
    let t2 : List ℕ = decimal c ++ 44 ∷ t3 in
    let t1 : List ℕ = decimal b ++ 44 ∷ t2 in
    let n5 : BeginsWith 44 t4 (p ∷ q ∷ []) [] = begins_more 44 p t5 q [] [] refl high (begins_last 44 q low) in
    let n4 : BeginsWith 44 t3 (d ∷ p ∷ q ∷ []) [] = begins_more 44 d t4 p (q ∷ []) [] refl h.1.1.1.1.0 n5 in
    let n3 : BeginsWith 44 t2 (c ∷ d ∷ p ∷ q ∷ []) [] = begins_more 44 c t3 d (p ∷ q ∷ []) [] refl h.1.1.1.0 n4 in
    let n2 : BeginsWith 44 t1 (b ∷ c ∷ d ∷ p ∷ q ∷ []) [] = begins_more 44 b t2 c (d ∷ p ∷ q ∷ []) [] refl h.1.1.0 n3 in
    let nested = begins_more 44 a t1 b (c ∷ d ∷ p ∷ q ∷ []) [] refl h.1.0 n2 in
    record {
      h1 = a;
      h2 = b;
      h3 = c;
      h4 = d;
      p1 = port / 256;
      p2 = port % 256;
      numbers = subst P (sym (six_nested (decimal a) (decimal b) (decimal c) (decimal d) tail)) nested;
      value = ap (λ p. endpoint_of (V4 (a ∷ b ∷ c ∷ d ∷ [])) p) (let e : port ≡ 256 * (port / 256) + port % 256 = omega arith in e);
    }

-- groups
hex_value : (d : ℕ) → d < 16 → digit_value (digit_char d) ≡ d
hex_value d small = digit_value-digit_char d (omega (arith, small))

pub record IsHex (ds : List ℕ) (n : ℕ) : Type 0 where
  pub some : 0 < length ds
  pub few : length ds ≤ 4
  pub all : AllDigits 16 ds
  pub value : digits_value 16 ds ≡ n

below : (d : ℕ) → d < 16 → digit_value (digit_char d) < 16
below d small = omega (arith, hex_value d small, small)

is_hex_one : (n : ℕ) → n < 16 → IsHex (digit_char n ∷ []) n
is_hex_one n small = record { some = omega arith; few = omega arith; all = (below n small, tt); value = omega (arith, hex_value n small) }

is_hex_two : (n : ℕ) → n < 256 → IsHex (digit_char (n / 16) ∷ digit_char (n % 16) ∷ []) n
is_hex_two n small =
    let a : n / 16 < 16 = omega (arith, small) in
    let b : n % 16 < 16 = omega arith in
    record { some = omega arith; few = omega arith; all = (below (n / 16) a, (below (n % 16) b, tt)); value = omega (arith, hex_value (n / 16) a, hex_value (n % 16) b) }

is_hex_three : (n : ℕ) → n < 4096 → IsHex (digit_char (n / 256) ∷ digit_char (n / 16 % 16) ∷ digit_char (n % 16) ∷ []) n
is_hex_three n small =
    let a : n / 256 < 16 = omega (arith, small) in
    let b : n / 16 % 16 < 16 = omega arith in
    let c : n % 16 < 16 = omega arith in
    record { some = omega arith; few = omega arith; all = (below (n / 256) a, (below (n / 16 % 16) b, (below (n % 16) c, tt))); value = omega (arith, hex_value (n / 256) a, hex_value (n / 16 % 16) b, hex_value (n % 16) c) }

is_hex_four : (n : ℕ) → n < 65536 → IsHex (digit_char (n / 4096) ∷ digit_char (n / 256 % 16) ∷ digit_char (n / 16 % 16) ∷ digit_char (n % 16) ∷ []) n
is_hex_four n small =
    let a : n / 4096 < 16 = omega (arith, small) in
    let b : n / 256 % 16 < 16 = omega arith in
    let c : n / 16 % 16 < 16 = omega arith in
    let d : n % 16 < 16 = omega arith in
    record { some = omega arith; few = omega arith; all = (below (n / 4096) a, (below (n / 256 % 16) b, (below (n / 16 % 16) c, (below (n % 16) d, tt)))); value = omega (arith, hex_value (n / 4096) a, hex_value (n / 256 % 16) b, hex_value (n / 16 % 16) c, hex_value (n % 16) d) }

lt_of : (m n : ℕ) → nat_lt m n ≡ true → m < n
lt_of m n h = grind (arith, nat_tests)

abbrev hex_by : ℕ → Bool → Bool → Bool → List ℕ
hex_by n a b c = cond a (digit_char n ∷ []) (cond b (digit_char (n / 16) ∷ digit_char (n % 16) ∷ []) (cond c (digit_char (n / 256) ∷ digit_char (n / 16 % 16) ∷ digit_char (n % 16) ∷ []) (digit_char (n / 4096) ∷ digit_char (n / 256 % 16) ∷ digit_char (n / 16 % 16) ∷ digit_char (n % 16) ∷ [])))

is_hex_by : (n : ℕ) (a b c : Bool) → n < 65536 → nat_lt n 16 ≡ a → nat_lt n 256 ≡ b → nat_lt n 4096 ≡ c → IsHex (hex_by n a b c) n
is_hex_by n true b c small h k l = is_hex_one n (lt_of n 16 h)
is_hex_by n false true c small h k l = is_hex_two n (lt_of n 256 k)
is_hex_by n false false true small h k l = is_hex_three n (lt_of n 4096 l)
is_hex_by n false false false small h k l = is_hex_four n small

is_hex_of : (n : ℕ) → n < 65536 → IsHex (hex n) n
is_hex_of n small = is_hex_by n (nat_lt n 16) (nat_lt n 256) (nat_lt n 4096) small refl refl refl

is_hex_digit : (c : ℕ) → digit_value c < 16 → is_hex c ≡ true
is_hex_digit c small = grind (arith, nat_tests)

hex_run : (ds : List ℕ) (more : List ℕ) → AllDigits 16 ds → prefix_len is_hex (ds ++ 58 ∷ more) ≡ length ds
hex_run [] more all = refl
hex_run (c ∷ ds) more all =
    ap (λ b. cond b (1 + prefix_len is_hex (ds ++ 58 ∷ more)) 0) (is_hex_digit c all.0) ∙ (ap (λ n. 1 + n) (hex_run ds more all.1) ∙ one-suc (length ds))

hex_all : (ds : List ℕ) → AllDigits 16 ds → prefix_len is_hex ds ≡ length ds
hex_all [] all = refl
hex_all (c ∷ ds) all =
    ap (λ b. cond b (1 + prefix_len is_hex ds) 0) (is_hex_digit c all.0) ∙ (ap (λ n. 1 + n) (hex_all ds all.1) ∙ one-suc (length ds))

says_group : (ds : List ℕ) (n : ℕ) → IsHex ds n → IsGroup ds × (n ≡ digits_value 16 ds)
says_group ds n h = (((h.some, h.all), h.few), sym h.value)

abbrev SaysGroup : ℕ → List ℕ → Type 0
SaysGroup n x = IsGroup x × (n ≡ digits_value 16 x)

written_groups : (gs : List ℕ) → AllByRecursion (λ g. g < 65536) gs → BeginsWithGroups (join_with_byte 58 (map hex gs)) gs []
written_groups [] h = refl
written_groups (n ∷ []) h =
    let is = is_hex_of n h.0 in
    let front : front_hex (hex n) ≡ hex n = ap (λ k. take k (hex n)) (hex_all (hex n) is.all) ∙ take-length (hex n) in
    let behind : behind_hex (hex n) ≡ [] = ap (λ k. drop k (hex n)) (hex_all (hex n) is.all) ∙ drop-length (hex n) in
    let P : List ℕ → Type 0 = λ x. SaysGroup n x in
    let group = subst P (sym front) (says_group (hex n) n is) in
    (group.0, group.1, behind)
written_groups (n ∷ m ∷ gs) h =
    let is = is_hex_of n h.0 in
    let next : List ℕ = join_with_byte 58 (map hex (m ∷ gs)) in
    let front : front_hex (hex n ++ 58 ∷ next) ≡ hex n = ap (λ k. take k (hex n ++ 58 ∷ next)) (hex_run (hex n) next is.all) ∙ take-append_seam (hex n) (58 ∷ next) in
    let behind : behind_hex (hex n ++ 58 ∷ next) ≡ 58 ∷ next = ap (λ k. drop k (hex n ++ 58 ∷ next)) (hex_run (hex n) next is.all) ∙ drop-append_seam (hex n) (58 ∷ next) in
    let P : List ℕ → Type 0 = λ x. SaysGroup n x in
    let group = subst P (sym front) (says_group (hex n) n is) in
    (group.0, group.1, (next, behind, written_groups (m ∷ gs) h.1))

groups_count : (xs : List ℕ) (k : ℕ) → length xs ≡ 2 * k → length (groups_of xs) ≡ k
groups_count [] k h = omega (arith, h)
groups_count (a ∷ []) k h = absurd (omega (arith, h))
groups_count (a ∷ b ∷ xs) zero h = absurd (omega (arith, h))
groups_count (a ∷ b ∷ xs) (suc k) h = let e : length xs ≡ 2 * k = omega (arith, h) in ap suc (groups_count xs k e)

groups_below : (xs : List ℕ) → AllByRecursion (λ c. c < 256) xs → AllByRecursion (λ g. g < 65536) (groups_of xs)
groups_below [] h = tt
groups_below (a ∷ []) h = tt
groups_below (a ∷ b ∷ xs) h = (omega (arith, h.0, h.1.0), groups_below xs h.1.1)

pair_high : (a b : ℕ) → b < 256 → (a * 256 + b) / 256 ≡ a
pair_high a b small = omega (arith, small)

pair_low : (a b : ℕ) → b < 256 → (a * 256 + b) % 256 ≡ b
pair_low a b small = omega (arith, small)

octets_same : (xs : List ℕ) (k : ℕ) → length xs ≡ 2 * k → AllByRecursion (λ c. c < 256) xs → xs ≡ octets_of (groups_of xs)
octets_same [] k h all = refl
octets_same (a ∷ []) k h all = absurd (omega (arith, h))
octets_same (a ∷ b ∷ xs) zero h all = absurd (omega (arith, h))
octets_same (a ∷ b ∷ xs) (suc k) h all =
    let e : length xs ≡ 2 * k = omega (arith, h) in
    let rest = octets_same xs k e all.1.1 in
    let high = pair_high a b all.1.0 in
    let low = pair_low a b all.1.0 in
    ap (λ x. x ∷ b ∷ xs) (sym high) ∙ (ap (λ x. (a * 256 + b) / 256 ∷ x ∷ xs) (sym low) ∙ ap (λ x. (a * 256 + b) / 256 ∷ (a * 256 + b) % 256 ∷ x) rest)

says_v6 : (octets : List ℕ) → IsTypedHost (V6 octets) → SaysV6 (join_with_byte 58 (map hex (groups_of octets))) octets
says_v6 octets h = record {
  groups = groups_of octets;
  eight = groups_count octets 8 h.0;
  written = inl (written_groups (groups_of octets) (groups_below octets h.1));
  value = octets_same octets 8 h.0 h.1;
}

-- extended addresses
bar : IsDelimiter 124
bar = (lit≤ tt, lit≤ tt, refl)

has_shape : (proto digit : ℕ) (address : List ℕ) (port : ℕ) → is_ascii_digit digit ≡ true → SaysNumber (digit ∷ []) proto → 1 ≤ port → port < 65536 → HasShape (124 ∷ digit ∷ 124 ∷ (address ++ (124 ∷ (decimal port ++ 124 ∷ [])))) proto address port
has_shape proto digit address port is number some small =
    let more : List ℕ = address ++ (124 ∷ (decimal port ++ 124 ∷ [])) in
    let run : prefix_len is_ascii_digit (digit ∷ 124 ∷ more) ≡ 1 = ap (λ b. cond b (1 + prefix_len is_ascii_digit (124 ∷ more)) 0) is in
    let P : ℕ → Type 0 = λ k. SaysNumber (take k (digit ∷ 124 ∷ more)) proto in
    record {
      d = 124;
      rest = digit ∷ 124 ∷ more;
      more = more;
      delimiter = bar;
      text_is = refl;
      number = subst P (sym run) number;
      behind = ap (λ k. drop k (digit ∷ 124 ∷ more)) run;
      ends = record { digits = decimal port; number = says_port port some small; text_is = refl };
    }

pub one_is : SaysNumber (49 ∷ []) 1
one_is = (((lit< tt, (lit< tt, tt)), lit≤ tt), refl)

pub two_is : SaysNumber (50 ∷ []) 2
two_is = (((lit< tt, (lit< tt, tt)), lit≤ tt), refl)

pub says_extended : (host : Host) (port : ℕ) → IsTypedHost host → 1 ≤ port → port < 65536 → SaysExtended (extended_text (record { host = host; port = port })) (record { host = host; port = port })
says_extended (V4 octets) port h some small = record {
  proto = 1;
  address = numbers_text 46 octets;
  shape = has_shape 1 49 (numbers_text 46 octets) port refl one_is some small;
  host = (refl, says_v4 octets h);
}
says_extended (V6 octets) port h some small = record {
  proto = 2;
  address = join_with_byte 58 (map hex (groups_of octets));
  shape = has_shape 2 50 (join_with_byte 58 (map hex (groups_of octets))) port refl two_is some small;
  host = (refl, says_v6 octets h);
}
