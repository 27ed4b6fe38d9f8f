-- Hexadecimal digits and groups.
use Rattle.std.proofs.Common.{◌≡◌, ℕ, zero, suc, ◌+◌, ◌-◌, ◌*◌, ◌/◌, ◌%◌, ◌^◌, ◌<◌, ◌≤◌, inl, inr, true, false, List, [], ◌∷◌, ◌++◌, length, take, get_or, refl, sym, ap, subst, ◌∙◌, arith, length-take, length-append, replicate}
use Rattle.std.proofs.lemmas.List.{length-replicate}
use Rattle.std.specs.Char.{digit_value}
use Rattle.std.specs.List.{prefix_len}
use Rattle.std.specs.Str.Parse.{AllDigits, digits_value}
use Rattle.std.proofs.lemmas.Int.Digits.{digits_value-lt, digits_value_more, digits_more}
use Rattle.std.proofs.lemmas.List.Sums.{prefix_len_is}
use Rattle.std.proofs.Math.Nat.{pow-le-pow_right}
use Rattle.ftp_endpoint.specs.Host.{BeginsWithGroups, IsGroup, IsFilled, NoneFilled, NoneWritten, ReadsSome, GroupsMayStop, Written, octets_of, front_hex, behind_hex, is_hex}

pub group_lt : (ds : List ℕ) → AllDigits 16 ds → length ds ≤ 4 → digits_value 16 ds < 16 ^ 4
group_lt ds all short =
    let small = digits_value-lt 16 ds all in
    let grows : 16 ^ length ds ≤ 16 ^ 4 = pow-le-pow_right {n = 16} (let p : 0 < 16 = omega arith in p) short in
    omega (arith, small, grows)

-- one digit more, in a text of at most four octets
pub record OneMore (text : List ℕ) (i v : ℕ) : Type 0 where
  pub all : AllDigits 16 (take (i + 1) text)
  pub value : v ≡ digits_value 16 (take (i + 1) text)
  pub bound : v < 16 ^ 4

pub one_more : (text : List ℕ) (i v d : ℕ) → i < length text → length text ≤ 4 → AllDigits 16 (take i text) → v ≡ digits_value 16 (take i text) → digit_value (get_or text i 0) < 16 → d ≡ digit_value (get_or text i 0) → OneMore text i (16 * v + d)
one_more text i v d within short all is low at =
    let more = digits_more 16 text i within all low in
    let step = digits_value_more 16 text i within in
    let value : 16 * v + d ≡ digits_value 16 (take (i + 1) text) = omega (arith, step, is, at) in
    let small = group_lt (take (i + 1) text) more (omega (arith, length-take (i + 1) text)) in
    record { all = more; value = value; bound = omega (arith, small, value) }

pub all_at : (ds : List ℕ) (i : ℕ) → AllDigits 16 ds → i < length ds → digit_value (get_or ds i 0) < 16
all_at [] i all lt = absurd (omega arith)
all_at (c ∷ ds) zero all lt = all.0
all_at (c ∷ ds) (suc i) all lt = all_at ds i all.1 (omega arith)

pub run_is : (text : List ℕ) (n : ℕ) → n ≤ length text → ((k : ℕ) → k < n → is_hex (get_or text k 0) ≡ true) → (n < length text → is_hex (get_or text n 0) ≡ false) → n ≡ prefix_len is_hex text
run_is text n within all stops = sym (prefix_len_is is_hex text n 0 within all stops)

pub run_whole : (text : List ℕ) (n : ℕ) → length text ≤ n → ((k : ℕ) → k < n → is_hex (get_or text k 0) ≡ true) → length text ≡ prefix_len is_hex text
run_whole text n past all = run_is text (length text) (omega arith) (λ k lt. all k (omega arith)) (λ lt. absurd (omega arith))

-- the first of some groups
pub first_group : (text ns rest : List ℕ) → 0 < length ns → BeginsWithGroups text ns rest → IsGroup (front_hex text)
first_group text [] rest some h = absurd (omega arith)
first_group text (n ∷ []) rest some h = h.0
first_group text (n ∷ m ∷ ns) rest some h = h.0

-- where the groups do not end behind the first, a colon and more of them follow
pub record GoesOn (text ns rest : List ℕ) : Type 0 where
  pub n : ℕ
  pub ms : List ℕ
  pub next : List ℕ
  pub ns_are : ns ≡ n ∷ ms
  pub some : 0 < length ms
  pub behind : behind_hex text ≡ 58 ∷ next
  pub groups : BeginsWithGroups next ms rest

pub goes_on : (text ns rest : List ℕ) → 0 < length ns → GroupsMayStop rest → BeginsWithGroups text ns rest → (GroupsMayStop (behind_hex text) → ⊥) → GoesOn text ns rest
goes_on text [] rest some stops h not_here = absurd (omega arith)
goes_on text (n ∷ []) rest some stops h not_here = absurd (not_here (subst GroupsMayStop (sym h.2) stops))
goes_on text (n ∷ m ∷ ns) rest some stops h not_here = record {
  n = n;
  ms = m ∷ ns;
  next = h.2.0;
  ns_are = refl;
  some = omega arith;
  behind = h.2.1;
  groups = h.2.2;
}

pub more_groups : (text : List ℕ) (n : ℕ) (ms next rest : List ℕ) → IsGroup (front_hex text) → n ≡ digits_value 16 (front_hex text) → behind_hex text ≡ 58 ∷ next → 0 < length ms → BeginsWithGroups next ms rest → BeginsWithGroups text (n ∷ ms) rest
more_groups text n [] next rest is value behind some h = absurd (omega arith)
more_groups text n (m ∷ ms) next rest is value behind some h = (is, value, (next, behind, h))

-- eight groups, one after the other
pub eight : (xs : List ℕ) → length xs ≡ 8
    → (let at : ℕ → ℕ = λ k. get_or xs k 0 in
    octets_of xs ≡ (at 0 / 256) ∷ (at 0 % 256) ∷ (at 1 / 256) ∷ (at 1 % 256) ∷ (at 2 / 256) ∷ (at 2 % 256) ∷ (at 3 / 256) ∷ (at 3 % 256)
    ∷ (at 4 / 256) ∷ (at 4 % 256) ∷ (at 5 / 256) ∷ (at 5 % 256) ∷ (at 6 / 256) ∷ (at 6 % 256) ∷ (at 7 / 256) ∷ (at 7 % 256) ∷ [])
eight [] len = absurd (omega arith)
eight (a ∷ []) len = absurd (omega arith)
eight (a ∷ b ∷ []) len = absurd (omega arith)
eight (a ∷ b ∷ c ∷ []) len = absurd (omega arith)
eight (a ∷ b ∷ c ∷ d ∷ []) len = absurd (omega arith)
eight (a ∷ b ∷ c ∷ d ∷ e ∷ []) len = absurd (omega arith)
eight (a ∷ b ∷ c ∷ d ∷ e ∷ f ∷ []) len = absurd (omega arith)
eight (a ∷ b ∷ c ∷ d ∷ e ∷ f ∷ g ∷ []) len = absurd (omega arith)
eight (a ∷ b ∷ c ∷ d ∷ e ∷ f ∷ g ∷ h ∷ []) len = refl
eight (a ∷ b ∷ c ∷ d ∷ e ∷ f ∷ g ∷ h ∷ i ∷ xs) len = absurd (omega arith)

-- no group stands where a reading may stop
group_empty : IsGroup [] → ⊥
group_empty h = omega arith

no_group : (text rest : List ℕ) → text ≡ rest → GroupsMayStop rest → IsGroup (front_hex text) → ⊥
no_group text rest e (inl s) g =
    let P : List ℕ → Type 0 = λ x. IsGroup (front_hex x) in group_empty (subst P (e ∙ s) g)
no_group text rest e (inr s) g =
    let P : List ℕ → Type 0 = λ x. IsGroup (front_hex x) in group_empty (subst P (e ∙ s.1) g)

-- behind a colon a reading that stops there has no group
no_next : (behind rest next : List ℕ) (m : ℕ) (ms s : List ℕ) → behind ≡ rest → GroupsMayStop rest → behind ≡ 58 ∷ next → BeginsWithGroups next (m ∷ ms) s → ⊥
no_next behind rest next m ms s e (inl stop) colon h =
    let end : behind ≡ [] = e ∙ stop in absurd (cc)
no_next behind rest next m ms s e (inr stop) colon h =
    let end : behind ≡ 58 ∷ 58 ∷ stop.0 = e ∙ stop.1 in
    let same : next ≡ 58 ∷ stop.0 = cc in
    let g = first_group next (m ∷ ms) s (omega arith) h in
    let P : List ℕ → Type 0 = λ x. IsGroup (front_hex x) in group_empty (subst P same g)

-- groups up to where a reading may stop are one row alone
pub same_groups : (text ns ms r s : List ℕ) → BeginsWithGroups text ns r → GroupsMayStop r → BeginsWithGroups text ms s → GroupsMayStop s → (ns ≡ ms) × (r ≡ s)
same_groups text [] [] r s h hs k ks = (refl, sym h ∙ k)
same_groups text [] (m ∷ []) r s h hs k ks = absurd (no_group text r h hs k.0)
same_groups text [] (m ∷ m' ∷ ms) r s h hs k ks = absurd (no_group text r h hs k.0)
same_groups text (n ∷ []) [] r s h hs k ks = absurd (no_group text s k ks h.0)
same_groups text (n ∷ n' ∷ ns) [] r s h hs k ks = absurd (no_group text s k ks h.0)
same_groups text (n ∷ []) (m ∷ []) r s h hs k ks = (cc, sym h.2 ∙ k.2)
same_groups text (n ∷ []) (m ∷ m' ∷ ms) r s h hs k ks = absurd (no_next (behind_hex text) r k.2.0 m' ms s h.2 hs k.2.1 k.2.2)
same_groups text (n ∷ n' ∷ ns) (m ∷ []) r s h hs k ks = absurd (no_next (behind_hex text) s h.2.0 n' ns r k.2 ks h.2.1 h.2.2)
same_groups text (n ∷ n' ∷ ns) (m ∷ m' ∷ ms) r s h hs k ks =
    let first : behind_hex text ≡ 58 ∷ h.2.0 = h.2.1 in
    let second : behind_hex text ≡ 58 ∷ k.2.0 = k.2.1 in
    let next : h.2.0 ≡ k.2.0 = cc in
    let P : List ℕ → Type 0 = λ x. BeginsWithGroups x (m' ∷ ms) s in
    let rest = same_groups h.2.0 (n' ∷ ns) (m' ∷ ms) r s h.2.2 hs (subst P (sym next) k.2.2) ks in
    let here : n ≡ m = h.1 ∙ sym k.1 in
    let there : n' ∷ ns ≡ m' ∷ ms = rest.0 in
    (cc, rest.1)

-- the lengths of what "::" joins
filled_length : (front behind groups : List ℕ) → length groups ≡ 8 → (h : IsFilled front behind groups) → length front + length h.back < 8
filled_length front behind groups e h =
    let whole : length groups ≡ length (front ++ (replicate (suc h.zeros) 0 ++ h.back)) = ap length h.groups_are in
    let outer = length-append front (replicate (suc h.zeros) 0 ++ h.back) in
    let inner = length-append (replicate (suc h.zeros) 0) h.back in
    let zeros : length {A = ℕ} (replicate (suc h.zeros) 0) ≡ suc h.zeros = length-replicate {A = ℕ} (suc h.zeros) 0 in
    omega (arith, whole, outer, inner, zeros, e)

pub none_filled_by : (front behind now rest : List ℕ) → ReadsSome behind [] now rest → (rest ≡ [] → length front + length now < 8 → ⊥) → NoneFilled front behind
none_filled_by front behind now rest reads wrong groups e h =
    let same = same_groups behind reads.0 h.back rest [] reads.2 reads.3 h.after (inl refl) in
    let short = filled_length front behind groups e h in
    let count : length now ≡ length h.back = ap length (reads.1 ∙ same.0) in
    wrong same.1 (omega (arith, short, count))

pub is_filled : (front behind now rest all : List ℕ) → ReadsSome behind [] now rest → rest ≡ [] → length front + length now < 8 → all ≡ front ++ (replicate (8 - length front - length now) 0 ++ now) → (length all ≡ 8) × IsFilled front behind all
is_filled front behind now rest all reads end short is =
    let zeros : ℕ = 7 - length front - length now in
    let count : 8 - length front - length now ≡ suc zeros = omega arith in
    let groups_are : all ≡ front ++ (replicate (suc zeros) 0 ++ now) = is ∙ ap (λ k. front ++ (replicate k 0 ++ now)) count in
    let outer = length-append front (replicate (suc zeros) 0 ++ now) in
    let inner = length-append (replicate (suc zeros) 0) now in
    let many : length {A = ℕ} (replicate (suc zeros) 0) ≡ suc zeros = length-replicate {A = ℕ} (suc zeros) 0 in
    let P : List ℕ → Type 0 = λ x. BeginsWithGroups behind x [] in
    let Q : List ℕ → Type 0 = λ x. BeginsWithGroups behind reads.0 x in
    let after : BeginsWithGroups behind now [] = subst P (sym reads.1) (subst Q end reads.2) in
    (omega (arith, ap length groups_are, outer, inner, many), record { zeros = zeros; back = now; after = after; groups_are = groups_are })

-- the groups end with the text
pub none_whole : (text now rest : List ℕ) → ReadsSome text [] now rest → rest ≡ [] → (length now ≡ 8 → ⊥) → NoneWritten text
none_whole text now rest reads end wrong groups e (inl h) =
    let same = same_groups text reads.0 groups rest [] reads.2 reads.3 h (inl refl) in
    wrong (ap length (reads.1 ∙ same.0) ∙ e)
none_whole text now rest reads end wrong groups e (inr h) =
    let same = same_groups text reads.0 h.front rest (58 ∷ 58 ∷ h.behind) reads.2 reads.3 h.before (inr (h.behind, refl)) in
    let wrong_end : [] ≡ 58 ∷ 58 ∷ h.behind = sym end ∙ same.1 in
    absurd (cc)

pub is_whole : (text now rest : List ℕ) → ReadsSome text [] now rest → rest ≡ [] → Written text now
is_whole text now rest reads end =
    let P : List ℕ → Type 0 = λ x. BeginsWithGroups text x [] in
    let Q : List ℕ → Type 0 = λ x. BeginsWithGroups text reads.0 x in
    inl (subst P (sym reads.1) (subst Q end reads.2))

-- or before "::"
pub none_short : (text now rest behind : List ℕ) → ReadsSome text [] now rest → rest ≡ 58 ∷ 58 ∷ behind → NoneFilled now behind → NoneWritten text
none_short text now rest behind reads end none groups e (inl h) =
    let same = same_groups text reads.0 groups rest [] reads.2 reads.3 h (inl refl) in
    let wrong_end : [] ≡ 58 ∷ 58 ∷ behind = sym same.1 ∙ end in
    absurd (cc)
none_short text now rest behind reads end none groups e (inr h) =
    let same = same_groups text reads.0 h.front rest (58 ∷ 58 ∷ h.behind) reads.2 reads.3 h.before (inr (h.behind, refl)) in
    let front : h.front ≡ now = sym (reads.1 ∙ same.0) in
    let both : 58 ∷ 58 ∷ behind ≡ 58 ∷ 58 ∷ h.behind = sym end ∙ same.1 in
    let back : h.behind ≡ behind = cc in
    let P : List ℕ → Type 0 = λ x. IsFilled x h.behind groups in
    let Q : List ℕ → Type 0 = λ x. IsFilled now x groups in
    none groups e (subst Q back (subst P front h.filled))

pub is_short : (text now rest behind groups : List ℕ) → ReadsSome text [] now rest → rest ≡ 58 ∷ 58 ∷ behind → IsFilled now behind groups → Written text groups
is_short text now rest behind groups reads end filled =
    let P : List ℕ → Type 0 = λ x. BeginsWithGroups text x (58 ∷ 58 ∷ behind) in
    let Q : List ℕ → Type 0 = λ x. BeginsWithGroups text reads.0 x in
    inr (record { front = now; behind = behind; before = subst P (sym reads.1) (subst Q end reads.2); filled = filled })

-- nothing read before
pub from_new : (text before now rest : List ℕ) → before ≡ [] → ReadsSome text before now rest → ReadsSome text [] now rest
from_new text before now rest e h =
    let P : List ℕ → Type 0 = λ x. ReadsSome text x now rest in subst P e h
