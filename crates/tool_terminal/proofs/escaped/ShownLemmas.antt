-- How octets are shown one by one.
use Rattle.std.proofs.Common.{◌≡◌, ◌<◌, ◌≤◌, ◌++◌, ◌-◌, ◌+◌, ◌∙◌, ℕ, suc, List, [], ◌∷◌, length, drop, take, get_or, sym, refl, ap, arith, append_assoc}
use Rattle.std.proofs.Math.Nat.{le_of_eq}
use Rattle.std.proofs.Math.Seq.{drop-cons}
use Rattle.std.proofs.lemmas.List.{append-nil, at_drop_all, length-drop, take_all}
use Rattle.tool_terminal.specs.escaped.Shown.{kept_of, octet_shown, shown_from}

-- the octet at the front is shown, and then the rest
pub front : (kept octet : ℕ) (octets : List ℕ) → shown_from kept (octet ∷ octets)
    ≡ octet_shown (kept_of kept (octet ∷ octets)) octet ++ shown_from (kept_of kept (octet ∷ octets) - 1) octets
unfolding shown_from
front kept octet octets = refl

-- where the first of the octets that are left is put, what was put and what the rest shows stay the same
pub one_more : (octets seen : List ℕ) (at kept left : ℕ) (out new : List ℕ) → at < length octets
    → seen ≡ drop at octets
    → left ≡ kept_of kept seen - 1
    → new ≡ out ++ octet_shown (kept_of kept seen) (get_or seen 0 0)
    → new ++ shown_from left (drop (at + 1) octets) ≡ out ++ shown_from kept (drop at octets)
one_more octets seen at kept left out new inside sees is more =
    let x = get_or octets at 0 in
    let rest = drop (suc at) octets in
    let behind : drop at octets ≡ x ∷ rest = drop-cons octets at 0 inside in
    let cut : seen ≡ x ∷ rest = sees ∙ behind in
    let next : at + 1 ≡ suc at = omega arith in
    let k = kept_of kept (x ∷ rest) in
    let put : new ≡ out ++ octet_shown k x = more ∙ ap (λ l. out ++ octet_shown (kept_of kept l) (get_or l 0 0)) cut in
    let kept_is : left ≡ k - 1 = is ∙ ap (λ l. kept_of kept l - 1) cut in
    ap (λ n. new ++ shown_from left (drop n octets)) next
    ∙ ap (λ n. new ++ shown_from n rest) kept_is
    ∙ ap (λ l. l ++ shown_from (k - 1) rest) put
    ∙ append_assoc out (octet_shown k x) (shown_from (k - 1) rest)
    ∙ ap (λ l. out ++ l) (sym (front kept x rest))
    ∙ ap (λ l. out ++ shown_from kept l) (sym behind)

-- all octets from a place on
pub tail_is : (octets : List ℕ) (at : ℕ) → take (length octets - at) (drop at octets) ≡ drop at octets
tail_is octets at =
    let all : length (drop at octets) ≤ length octets - at = le_of_eq (length-drop at octets) in
    take_all (length octets - at) (drop at octets) all

-- nothing shows nothing
pub none : (kept : ℕ) → shown_from kept [] ≡ []
unfolding shown_from
none kept = refl

-- where no octet is left, all is put
pub all_put : (octets : List ℕ) (at kept : ℕ) (out all : List ℕ) → length octets ≤ at
    → out ++ shown_from kept (drop at octets) ≡ all → out ≡ all
all_put octets at kept out all past is =
    sym (append-nil out) ∙ ap (λ l. out ++ l) (sym (none kept)) ∙ sym (at_drop_all (λ l. out ++ shown_from kept l) octets at past) ∙ is
