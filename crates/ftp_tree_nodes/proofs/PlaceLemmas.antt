-- Names joined one after another.
use Rattle.std.proofs.Common.{ℕ, zero, suc, ◌+◌, ◌-◌, ◌<◌, ◌≤◌, ◌≡◌, Bool, true, nat_le, List, [], ◌∷◌, ◌++◌, length, take, drop, refl, sym, ap, ◌∙◌, subst, arith, cond, not, false, nat_lt, Some, None}
use Rattle.std.specs.List.{list_all, position, position_or_len}
use Rattle.std.proofs.lemmas.List.Sums.{prefix_len-le-length}
use Rattle.std.specs.Option.{unwrap_or}
use Rattle.std.proofs.Math.Seq.{take-append_seam, drop-append_seam}
use Rattle.std.proofs.lemmas.Bool.{and_parts, and_from, leb-true, ltb-false}
use Rattle.std.proofs.lemmas.List.{length-append}
use Rattle.std.proofs.lemmas.List.Folds.{list_all-append}
use Rattle.ftp_path.specs.Kept.{IsJoined, names_of}
use Rattle.ftp_path.specs.Path.{fits, is_component, is_name, is_name_octet, is_slash, joined, parent, text_of, text_limit}
use Rattle.ftp_path.proofs.PathLemmas.{component-octets, name_octet-slash, joined-append, names_of-joined, IsJoined-joined, joined-parent-le}
use Rattle.ftp_path.proofs.KeyLemmas.{components-append}
use Rattle.ftp_tree.specs.Text.{IsPlace, is_short}

all-take : (p : List ℕ → Bool) (n : ℕ) (names : List (List ℕ)) → list_all p names ≡ true → list_all p (take n names) ≡ true
all-take p zero names all = refl
all-take p (suc n) [] all = refl
all-take p (suc n) (name ∷ names) all =
    let both = and_parts (p name) (list_all p names) all in
    and_from (p name) _ both.0 (all-take p n names both.1)

-- what is above a path within its limits
pub above-place : (text : List ℕ) (path : List (List ℕ)) → IsJoined text → names_of text ≡ parent path → fits path ≡ true → IsPlace text
unfolding fits parent
above-place text path joins is fit =
    let short = (and_parts (list_all is_short path) (nat_le (length (text_of path)) text_limit) fit).0 in
    record {
      joins = joins;
      short = ap (list_all is_short) is ∙ all-take is_short (length path - 1) path short;
    }

pub above-short : (text : List ℕ) (path : List (List ℕ)) → IsJoined text → names_of text ≡ parent path → fits path ≡ true → length text ≤ text_limit
unfolding fits text_of
above-short text path joins is fit =
    let whole : length text ≡ length (joined (parent path)) = ap length (sym joins.whole ∙ ap joined is) in
    let least = joined-parent-le path in
    let most = leb-true (length (text_of path)) text_limit (and_parts (list_all is_short path) (nat_le (length (text_of path)) text_limit) fit).1 in
    let text : length (joined path) ≤ length (text_of path) = of path in
    omega arith
  where
    of : (path : List (List ℕ)) → length (joined path) ≤ length (text_of path)
    of [] = omega arith
    of (name ∷ names) = omega arith

-- two texts, one after another
pub joined-both : (a b text : List ℕ) → IsPlace a → IsPlace b → text ≡ a ++ b → (IsPlace text) × (names_of text ≡ names_of a ++ names_of b)
joined-both a b text one two is =
    let names = names_of a ++ names_of b in
    let named = components-append (names_of a) (names_of b) one.joins.components two.joins.components in
    let whole : text ≡ joined names = is ∙ ap (λ t. t ++ b) (sym one.joins.whole) ∙ ap (λ t. joined (names_of a) ++ t) (sym two.joins.whole) ∙ sym (joined-append (names_of a) (names_of b)) in
    let here : names_of text ≡ names = ap names_of whole ∙ names_of-joined names named in (
      record {
        joins = subst IsJoined (sym whole) (IsJoined-joined names named);
        short = ap (list_all is_short) here ∙ list_all-append is_short (names_of a) (names_of b) ∙ and_from _ _ one.short two.short;
      },
      here,
    )

-- ---- the first name

-- the first `/` of a name and others joined behind it stands at the name's end
slash-behind : (name : List ℕ) (names : List (List ℕ)) → list_all is_name_octet name ≡ true → position_or_len is_slash (name ++ joined names) ≡ length name
slash-behind [] [] named = refl
slash-behind [] (next ∷ names) named = refl
slash-behind (octet ∷ name) names named =
    let both = and_parts (is_name_octet octet) (list_all is_name_octet name) named in
    let rest = position_or_len is_slash (name ++ joined names) in
    let one : 1 + rest ≡ suc rest = omega arith in
    ap (λ b. cond (not b) (1 + rest) 0) (name_octet-slash octet both.0) ∙ one ∙ ap suc (slash-behind name names both.1)

slash-at : (name : List ℕ) (names : List (List ℕ)) → list_all is_name_octet name ≡ true → unwrap_or (position is_slash (name ++ joined names)) (length (name ++ joined names)) ≡ length name
slash-at name names named =
    let text = name ++ joined names in
    by (nat_lt (position_or_len is_slash text) (length text)) (position_or_len is_slash text) (length text) refl (prefix_len-le-length (λ octet. not (is_slash octet)) text) ∙ slash-behind name names named
  where
    by : (b : Bool) (place all : ℕ) → nat_lt place all ≡ b → place ≤ all → unwrap_or (cond b (Some place) None) all ≡ place
    by true place all before le = refl
    by false place all behind le = omega (arith, ltb-false place all behind)

-- the first of some names joined, and the others
pub record IsFirst (key name rest : List ℕ) : Type 0 where
  pub names : names_of key ≡ name ∷ names_of rest
  pub named : is_name name ≡ true
  pub place : IsPlace rest

pub first-of : (key text name rest : List ℕ) (end : ℕ) → IsPlace key → 0 < length key → text ≡ drop 1 key → end ≡ unwrap_or (position is_slash text) (length text) → name ≡ take end text → rest ≡ drop end text
    → (end ≤ length text) × IsFirst key name rest
first-of key text name rest end place some text_is at name_is rest_is = by (names_of key) refl
  where
    by : (names : List (List ℕ)) → names_of key ≡ names → (end ≤ length text) × IsFirst key name rest
    by [] none = absurd (omega (arith, ap length (sym place.joins.whole ∙ ap joined none)))
    by (first ∷ others) are =
        let key_is : key ≡ 47 ∷ (first ++ joined others) = sym place.joins.whole ∙ ap joined are in
        let both = and_parts (is_component first) (list_all is_component others) (ap (list_all is_component) (sym are) ∙ place.joins.components) in
        let short = and_parts (is_short first) (list_all is_short others) (ap (list_all is_short) (sym are) ∙ place.short) in
        let behind : text ≡ first ++ joined others = text_is ∙ ap (drop 1) key_is in
        let long : end ≡ length first = at ∙ ap (λ t. unwrap_or (position is_slash t) (length t)) behind ∙ slash-at first others (component-octets first both.0) in
        let name_first : name ≡ first = name_is ∙ ap (λ n. take n text) long ∙ ap (take (length first)) behind ∙ take-append_seam first (joined others) in
        let rest_others : rest ≡ joined others = rest_is ∙ ap (λ n. drop n text) long ∙ ap (drop (length first)) behind ∙ drop-append_seam first (joined others) in
        let whole = ap length behind in
        let more = length-append first (joined others) in
        let others_are : names_of rest ≡ others = ap names_of rest_others ∙ names_of-joined others both.1 in (
          omega arith,
          record {
            names = are ∙ ap (λ n. n ∷ others) (sym name_first) ∙ ap (λ l. name ∷ l) (sym others_are);
            named = ap is_name name_first ∙ and_from (is_component first) _ both.0 short.0;
            place = record {
              joins = subst IsJoined (sym rest_others) (IsJoined-joined others both.1);
              short = ap (list_all is_short) others_are ∙ short.1;
            };
          },
        )

pub no-names : (key : List ℕ) → IsPlace key → length key ≡ 0 → names_of key ≡ []
no-names key place none = by (names_of key) refl
  where
    by : (names : List (List ℕ)) → names_of key ≡ names → names ≡ []
    by [] are = refl
    by (name ∷ names) are = absurd (omega (arith, ap length (sym place.joins.whole ∙ ap joined are)))

pub some-names : (key : List ℕ) → IsPlace key → 0 < length key → names_of key ≡ [] → ⊥
some-names key place some none = omega (arith, ap length (sym place.joins.whole ∙ ap joined none))

pub some-key : (key : List ℕ) → IsPlace key → (names_of key ≡ [] → ⊥) → 0 < length key
some-key [] place some = absurd (some (no-names [] place refl))
some-key (octet ∷ key) place some = omega arith
