-- Names joined: how they compare, and which begin with which.
use Rattle.std.proofs.Common.{ℕ, zero, suc, ◌+◌, ◌-◌, ◌<◌, ◌≤◌, ◌≡◌, Bool, true, false, not, ◌&&◌, ◌||◌, Option, Some, None, IfSome, IsSome, ◌⊎◌, inl, inr, List, [], ◌∷◌, ◌++◌, length, take, drop, get_or, refl, sym, ap, ◌∙◌, subst, arith, nat_le, nat_eq, eqb}
use Rattle.std.specs.Prelude.{map}
use Rattle.std.specs.List.{list_all, list_any, starts_with}
use Rattle.std.specs.Option.{option_map}
use lib.Pointwise.{bytes_decides}
use mathlib.Core.Bool.{false≢true}
use Rattle.std.specs.Cmp.Lexicographic.{slice_cmp, pointwise}
use Rattle.std.specs.Ordering.{nat_cmp, ordering_then}
use Rattle.std.specs.declared.cmp.Ordering.{Ordering}
use Rattle.std.specs.declared.cmp.Ordering.TheVariants.{Less, Equal, Greater}
use Rattle.std.proofs.lemmas.Bool.{and_parts, and_from, cond-false, cond-true, leb-true}
use Rattle.std.proofs.lemmas.Bool.Decides.{nat_tests}
use Rattle.std.proofs.lemmas.List.{append-nil, length-append, length-drop, drop_at, drop-drop}
use Rattle.std.proofs.lemmas.List.Folds.{list_all-append, list_any-append}
use Rattle.ftp_path.specs.Path.{is_slash, is_path_octet, is_name_octet, is_component, is_name, joined, fits, path_cmp, is_within, only_name, name_in, moved_path, text_limit}
use Rattle.ftp_path.specs.Kept.{names_of, IsJoined, IsKept, rank, goes_on}
use Rattle.ftp_path.proofs.PathLemmas.{component-octets, name_octet-slash, joined-append, names_of-joined, IsJoined-joined, split-kept, fits-kept}

-- ---- how joined names compare

-- names, each behind a 0
zeroed : List (List ℕ) → List ℕ
zeroed [] = []
zeroed (name ∷ names) = 0 ∷ (name ++ zeroed names)

map-append_name : (name rest : List ℕ) → list_all is_name_octet name ≡ true → map rank (name ++ rest) ≡ name ++ map rank rest
map-append_name [] rest named = refl
map-append_name (x ∷ xs) rest named =
    let both = and_parts (is_name_octet x) (list_all is_name_octet xs) named in
    λ i. cond-false (is_slash x) 0 x (name_octet-slash x both.0) i ∷ map-append_name xs rest both.1 i

ranked : (names : List (List ℕ)) → list_all is_component names ≡ true → map rank (joined names) ≡ zeroed names
unfolding zeroed
ranked [] named = refl
ranked (name ∷ names) named =
    let both = and_parts (is_component name) (list_all is_component names) named in
    ap (λ rest. 0 ∷ rest) (map-append_name name (joined names) (component-octets name both.0) ∙ ap (λ rest. name ++ rest) (ranked names both.1))

above_zero : (octet : ℕ) → is_name_octet octet ≡ true → 0 < octet
above_zero octet named =
    let both = and_parts (is_path_octet octet) (not (is_slash octet)) named in
    let least = leb-true 32 octet (and_parts (nat_le 32 octet) (not (eqb octet 127)) both.0).0 in
    omega arith

zero-Less : (octet : ℕ) → 0 < octet → nat_cmp 0 octet ≡ Less
zero-Less octet some = grind (arith, nat_tests)

zero-Greater : (octet : ℕ) → 0 < octet → nat_cmp octet 0 ≡ Greater
zero-Greater octet some = grind (arith, nat_tests)

then-assoc : (r s t : Ordering) → ordering_then r (ordering_then s t) ≡ ordering_then (ordering_then r s) t
then-assoc Less s t = refl
then-assoc Equal s t = refl
then-assoc Greater s t = refl

module _ (xs ys : List (List ℕ)) (below : slice_cmp nat_cmp (zeroed xs) (zeroed ys) ≡ path_cmp xs ys) where
  names-cmp : (x y : List ℕ) → list_all is_name_octet x ≡ true → list_all is_name_octet y ≡ true
      → slice_cmp nat_cmp (x ++ zeroed xs) (y ++ zeroed ys) ≡ ordering_then (slice_cmp nat_cmp x y) (path_cmp xs ys)
  unfolding zeroed
  names-cmp [] [] one two = below
  names-cmp [] (d ∷ ds) one two =
      let both = and_parts (is_name_octet d) (list_all is_name_octet ds) two in
      elim xs as (λ xs. slice_cmp nat_cmp (zeroed xs) (d ∷ (ds ++ zeroed ys)) ≡ Less) [
        | [] ↦ refl
        | name ∷ names ↦ ap (λ r. ordering_then r (slice_cmp nat_cmp (name ++ zeroed names) (ds ++ zeroed ys))) (zero-Less d (above_zero d both.0))
      ]
  names-cmp (c ∷ cs) [] one two =
      let both = and_parts (is_name_octet c) (list_all is_name_octet cs) one in
      elim ys as (λ ys. slice_cmp nat_cmp (c ∷ (cs ++ zeroed xs)) (zeroed ys) ≡ Greater) [
        | [] ↦ refl
        | name ∷ names ↦ ap (λ r. ordering_then r (slice_cmp nat_cmp (cs ++ zeroed xs) (name ++ zeroed names))) (zero-Greater c (above_zero c both.0))
      ]
  names-cmp (c ∷ cs) (d ∷ ds) one two =
      let first = and_parts (is_name_octet c) (list_all is_name_octet cs) one in
      let second = and_parts (is_name_octet d) (list_all is_name_octet ds) two in
      ap (ordering_then (nat_cmp c d)) (names-cmp cs ds first.1 second.1) ∙ then-assoc (nat_cmp c d) (slice_cmp nat_cmp cs ds) (path_cmp xs ys)

zeroed-cmp : (xs ys : List (List ℕ)) → list_all is_component xs ≡ true → list_all is_component ys ≡ true → slice_cmp nat_cmp (zeroed xs) (zeroed ys) ≡ path_cmp xs ys
unfolding zeroed
zeroed-cmp [] [] one two = refl
zeroed-cmp [] (y ∷ ys) one two = refl
zeroed-cmp (x ∷ xs) [] one two = refl
zeroed-cmp (x ∷ xs) (y ∷ ys) one two =
    let first = and_parts (is_component x) (list_all is_component xs) one in
    let second = and_parts (is_component y) (list_all is_component ys) two in
    names-cmp xs ys (zeroed-cmp xs ys first.1 second.1) x y (component-octets x first.0) (component-octets y second.0)

-- texts compare by the ranks of their octets as the names that they join
pub ranked-cmp : (a b : List ℕ) → IsJoined a → IsJoined b → slice_cmp nat_cmp (map rank a) (map rank b) ≡ path_cmp (names_of a) (names_of b)
ranked-cmp a b one two =
    ap (λ t. slice_cmp nat_cmp (map rank t) (map rank b)) (sym one.whole)
    ∙ ap (λ t. slice_cmp nat_cmp (map rank (joined (names_of a))) (map rank t)) (sym two.whole)
    ∙ ap (λ t. slice_cmp nat_cmp t (map rank (joined (names_of b)))) (ranked (names_of a) one.components)
    ∙ ap (slice_cmp nat_cmp (zeroed (names_of a))) (ranked (names_of b) two.components)
    ∙ zeroed-cmp (names_of a) (names_of b) one.components two.components

-- ---- which begin with which

and-assoc : (a b c : Bool) → (a && (b && c)) ≡ ((a && b) && c)
and-assoc true b c = refl
and-assoc false b c = refl

module _ (xs ys : List (List ℕ)) (below : goes_on (joined xs) (joined ys) ≡ is_within xs ys) where
  names-within : (x y : List ℕ) → list_all is_name_octet x ≡ true → list_all is_name_octet y ≡ true
      → goes_on (x ++ joined xs) (y ++ joined ys) ≡ (pointwise nat_eq x y && is_within xs ys)
  names-within [] [] one two = below
  names-within [] (d ∷ ds) one two =
      let both = and_parts (is_name_octet d) (list_all is_name_octet ds) two in
      let other = name_octet-slash d both.0 in
      elim xs as (λ xs. goes_on (joined xs) (d ∷ (ds ++ joined ys)) ≡ false) [
        | [] ↦ other
        | name ∷ names ↦ ap (λ b. b && goes_on (name ++ joined names) (ds ++ joined ys)) (turned d other)
      ]
    where
      turned : (d : ℕ) → is_slash d ≡ false → eqb 47 d ≡ false
      turned d other = grind (arith, nat_tests)
  names-within (c ∷ cs) [] one two =
      let both = and_parts (is_name_octet c) (list_all is_name_octet cs) one in
      let other = name_octet-slash c both.0 in
      elim ys as (λ ys. goes_on (c ∷ (cs ++ joined xs)) (joined ys) ≡ false) [
        | [] ↦ refl
        | name ∷ names ↦ ap (λ b. b && goes_on (cs ++ joined xs) (name ++ joined names)) other
      ]
  names-within (c ∷ cs) (d ∷ ds) one two =
      let first = and_parts (is_name_octet c) (list_all is_name_octet cs) one in
      let second = and_parts (is_name_octet d) (list_all is_name_octet ds) two in
      ap (λ b. eqb c d && b) (names-within cs ds first.1 second.1) ∙ and-assoc (eqb c d) (pointwise nat_eq cs ds) (is_within xs ys)

joined-within : (xs ys : List (List ℕ)) → list_all is_component xs ≡ true → list_all is_component ys ≡ true → goes_on (joined xs) (joined ys) ≡ is_within xs ys
unfolding is_within
joined-within [] [] one two = refl
joined-within [] (y ∷ ys) one two = refl
joined-within (x ∷ xs) [] one two = refl
joined-within (x ∷ xs) (y ∷ ys) one two =
    let first = and_parts (is_component x) (list_all is_component xs) one in
    let second = and_parts (is_component y) (list_all is_component ys) two in
    names-within xs ys (joined-within xs ys first.1 second.1) x y (component-octets x first.0) (component-octets y second.0)

pub goes_on-within : (a b : List ℕ) → IsJoined a → IsJoined b → goes_on a b ≡ is_within (names_of a) (names_of b)
goes_on-within a b one two =
    ap (λ t. goes_on t b) (sym one.whole) ∙ ap (goes_on (joined (names_of a))) (sym two.whole)
    ∙ joined-within (names_of a) (names_of b) one.components two.components

-- a text goes on from another where it starts with it, and behind that ends or has a `/`
ends : List ℕ → Bool
ends [] = true
ends (octet ∷ octets) = is_slash octet

goes_on-parts : (front text : List ℕ) → goes_on front text ≡ (starts_with nat_eq text front && ends (drop (length front) text))
unfolding ends
goes_on-parts [] [] = refl
goes_on-parts [] (octet ∷ octets) = refl
goes_on-parts (x ∷ front) [] = refl
goes_on-parts (x ∷ front) (octet ∷ octets) =
    ap (λ b. eqb x octet && b) (goes_on-parts front octets) ∙ and-assoc (eqb x octet) (starts_with nat_eq octets front) (ends (drop (length front) octets))

ends-none : (rest : List ℕ) → length rest ≡ 0 → ends rest ≡ true
unfolding ends
ends-none [] none = refl
ends-none (octet ∷ octets) none = absurd (omega arith)

ends-some : (rest : List ℕ) → 0 < length rest → ends rest ≡ is_slash (get_or rest 0 0)
unfolding ends
ends-some [] some = absurd (omega arith)
ends-some (octet ∷ octets) some = refl

pub goes_on-no : (front text : List ℕ) → starts_with nat_eq text front ≡ false → goes_on front text ≡ false
goes_on-no front text starts = goes_on-parts front text ∙ ap (λ b. b && ends (drop (length front) text)) starts

pub goes_on-end : (front text rest : List ℕ) → starts_with nat_eq text front ≡ true → rest ≡ drop (length front) text → length rest ≡ 0 → goes_on front text ≡ true
goes_on-end front text rest starts is none =
    goes_on-parts front text ∙ ap (λ b. b && ends (drop (length front) text)) starts ∙ ap ends (sym is) ∙ ends-none rest none

pub goes_on-more : (front text rest : List ℕ) → starts_with nat_eq text front ≡ true → rest ≡ drop (length front) text → 0 < length rest
    → goes_on front text ≡ is_slash (get_or rest 0 0)
goes_on-more front text rest starts is some =
    goes_on-parts front text ∙ ap (λ b. b && ends (drop (length front) text)) starts ∙ ap ends (sym is) ∙ ends-some rest some

-- ---- what stands below a path

-- a path within another is that path and the rest
pub within-parts : (above path : List (List ℕ)) → is_within above path ≡ true → path ≡ above ++ drop (length above) path
unfolding is_within
within-parts [] path within = refl
within-parts (x ∷ above) [] within = absurd (false≢true within)
within-parts (x ∷ above) (y ∷ path) within =
    let both = and_parts (pointwise nat_eq x y) (pointwise (pointwise nat_eq) above (take (length above) path)) within in
    λ i. sym ((bytes_decides x y).0 both.0) i ∷ within-parts above path both.1 i

pub within-append : (above rest : List (List ℕ)) → is_within above (above ++ rest) ≡ true
unfolding is_within
within-append [] rest = refl
within-append (x ∷ above) rest = and_from (pointwise nat_eq x x) _ ((bytes_decides x x).1 refl) (within-append above rest)

pub components-drop : (n : ℕ) (names : List (List ℕ)) → list_all is_component names ≡ true → list_all is_component (drop n names) ≡ true
components-drop zero names named = named
components-drop (suc n) [] named = refl
components-drop (suc n) (name ∷ names) named = components-drop n names (and_parts (is_component name) (list_all is_component names) named).1

pub components-append : (names others : List (List ℕ)) → list_all is_component names ≡ true → list_all is_component others ≡ true → list_all is_component (names ++ others) ≡ true
components-append names others one two = list_all-append is_component names others ∙ and_from _ _ one two

-- what stands behind the text of a path in that of a path within it
pub rest-joined : (a b : List ℕ) → IsJoined a → IsJoined b → is_within (names_of a) (names_of b) ≡ true → drop (length a) b ≡ joined (drop (length (names_of a)) (names_of b))
rest-joined a b one two within =
    let above = names_of a in
    let rest = drop (length above) (names_of b) in
    let parts : b ≡ a ++ joined rest =
    sym two.whole ∙ ap joined (within-parts above (names_of b) within) ∙ joined-append above rest ∙ ap (λ t. t ++ joined rest) one.whole in
    ap (drop (length a)) parts ∙ drop_at a (joined rest) (length a) refl

pub shorter-le : (a b : List ℕ) → IsJoined a → IsJoined b → is_within (names_of a) (names_of b) ≡ true → length a ≤ length b
shorter-le a b one two within =
    let above = names_of a in
    let rest = drop (length above) (names_of b) in
    let parts : b ≡ a ++ joined rest =
    sym two.whole ∙ ap joined (within-parts above (names_of b) within) ∙ joined-append above rest ∙ ap (λ t. t ++ joined rest) one.whole in
    let whole : length b ≡ length a + length (joined rest) = ap length parts ∙ length-append a (joined rest) in
    omega arith

-- ---- the name that a directory calls it by

pub name_in-without : (above path : List (List ℕ)) → is_within above path ≡ false → name_in above path ≡ None
unfolding name_in
name_in-without above path without = cond-false (is_within above path) _ _ without

none_joined : (names : List (List ℕ)) → length (joined names) ≡ 0 → only_name names ≡ None
none_joined [] none = refl
none_joined (name ∷ names) none = absurd (omega arith)

pub name_in-same : (a b : List ℕ) → IsJoined a → IsJoined b → is_within (names_of a) (names_of b) ≡ true → length b ≤ length a → name_in (names_of a) (names_of b) ≡ None
unfolding name_in
name_in-same a b one two within short =
    let rest = rest-joined a b one two within in
    let cut : length (drop (length a) b) ≡ length b - length a = length-drop (length a) b in
    let none : length (joined (drop (length (names_of a)) (names_of b))) ≡ 0 = ap length (sym rest) ∙ cut ∙ omega arith in
    cond-true (is_within (names_of a) (names_of b)) _ _ within ∙ none_joined (drop (length (names_of a)) (names_of b)) none

no_slash : (name : List ℕ) → list_all is_name_octet name ≡ true → list_any (λ octet. nat_eq octet 47) name ≡ false
no_slash [] named = refl
no_slash (x ∷ xs) named =
    let both = and_parts (is_name_octet x) (list_all is_name_octet xs) named in
    ap (λ b. b || list_any (λ octet. nat_eq octet 47) xs) (name_octet-slash x both.0) ∙ no_slash xs both.1

-- of the names joined behind a `/`, the first is the only one where no more `/` stands
one_name : (names : List (List ℕ)) (text : List ℕ) → list_all is_component names ≡ true → text ≡ drop 1 (joined names) → 0 < length (joined names)
    → ((list_any (λ octet. nat_eq octet 47) text ≡ true) × (only_name names ≡ None)) ⊎ ((list_any (λ octet. nat_eq octet 47) text ≡ false) × (only_name names ≡ Some text) × (names ≡ text ∷ []))
one_name [] text named is some = absurd (omega arith)
one_name (name ∷ []) text named is some =
    let both = and_parts (is_component name) true named in
    let alone : text ≡ name = is ∙ append-nil name in
    inr (ap (list_any (λ octet. nat_eq octet 47)) alone ∙ no_slash name (component-octets name both.0), ap Some (sym alone), ap (λ n. n ∷ []) (sym alone))
one_name (name ∷ next ∷ names) text named is some =
    inl (ap (list_any (λ octet. nat_eq octet 47)) is ∙ list_any-append (λ octet. nat_eq octet 47) name (47 ∷ (next ++ joined names)) ∙ or_true (list_any (λ octet. nat_eq octet 47) name), refl)
  where
    or_true : (b : Bool) → (b || true) ≡ true
    or_true true = refl
    or_true false = refl

-- what is known of a path below another by what stands behind its text
pub record IsBelow (above path : List (List ℕ)) (text : List ℕ) : Type 0 where
  pub several : list_any (λ octet. nat_eq octet 47) text ≡ true → name_in above path ≡ None
  pub alone : list_any (λ octet. nat_eq octet 47) text ≡ false → name_in above path ≡ Some text
  pub named : list_any (λ octet. nat_eq octet 47) text ≡ false → is_name text ≡ true

pub below-text : (a b text : List ℕ) → IsJoined a → IsJoined b → list_all (λ name. nat_le (length name) 255) (names_of b) ≡ true → is_within (names_of a) (names_of b) ≡ true → length a < length b
    → text ≡ drop (length a + 1) b → IsBelow (names_of a) (names_of b) text
unfolding name_in
below-text a b text one two short within longer is =
    let rest = drop (length (names_of a)) (names_of b) in
    let behind = rest-joined a b one two within in
    let named = components-drop (length (names_of a)) (names_of b) two.components in
    let cut : length (drop (length a) b) ≡ length b - length a = length-drop (length a) b in
    let some : 0 < length (joined rest) = omega (arith, ap length behind) in
    let text_is : text ≡ drop 1 (joined rest) = is ∙ sym (drop-drop 1 (length a) b) ∙ ap (drop 1) behind in
    let here = cond-true (is_within (names_of a) (names_of b)) (only_name rest) None within in
    elim (one_name rest text named text_is some) [
      | inl w ↦ record {
        several = λ _. here ∙ w.1;
        alone = λ no_more. absurd (false≢true (sym no_more ∙ w.0));
        named = λ no_more. absurd (false≢true (sym no_more ∙ w.0));
      }
      | inr w ↦ record {
        several = λ more. absurd (false≢true (sym w.0 ∙ more));
        alone = λ _. here ∙ w.1;
        named = λ _. and_from (is_component text) (nat_le (length text) 255)
            (and_parts (is_component text) true (ap (list_all is_component) (sym w.2) ∙ named)).0
            (and_parts (nat_le (length text) 255) true (ap (list_all (λ name. nat_le (length name) 255)) (sym w.2) ∙ list_all-drop (λ name. nat_le (length name) 255) (length (names_of a)) (names_of b) short)).0;
      }
    ]
  where
    list_all-drop : (p : List ℕ → Bool) (n : ℕ) (names : List (List ℕ)) → list_all p names ≡ true → list_all p (drop n names) ≡ true
    list_all-drop p zero names all = all
    list_all-drop p (suc n) [] all = refl
    list_all-drop p (suc n) (name ∷ names) all = list_all-drop p n names (and_parts (p name) (list_all p names) all).1

-- an option that stands holds what is known of it
pub some_named : {T : Type 0} (f : T → List ℕ) (found : Option T) (text : List ℕ) → IfSome found (λ x. f x ≡ text) → IsSome found → option_map f found ≡ Some text
some_named f None text name some = absurd (false≢true some)
some_named f (Some x) text name some = ap Some name

-- ---- what a path is called once it is moved

pub record IsMoved (from to path : List (List ℕ)) (text : List ℕ) : Type 0 where
  pub joins : IsJoined text
  pub names : names_of text ≡ moved_path from to path
  pub fits_by : fits (moved_path from to path) ≡ nat_le (length text) text_limit

pub moved-text : (from to path text : List ℕ) → IsJoined from → IsKept to → IsKept path → is_within (names_of from) (names_of path) ≡ true
    → text ≡ to ++ drop (length from) path → IsMoved (names_of from) (names_of to) (names_of path) text
unfolding moved_path fits
moved-text from to path text one two three within is =
    let rest = drop (length (names_of from)) (names_of path) in
    let names = names_of to ++ rest in
    let named = components-append (names_of to) rest two.joins.components (components-drop (length (names_of from)) (names_of path) three.joins.components) in
    let whole : text ≡ joined names =
    is ∙ ap (λ t. to ++ t) (rest-joined from path one three.joins within) ∙ ap (λ t. t ++ joined rest) (sym two.joins.whole) ∙ sym (joined-append (names_of to) rest) in
    let joins = subst IsJoined (sym whole) (IsJoined-joined names named) in
    let led : moved_path (names_of from) (names_of to) (names_of path) ≡ names = cond-true (is_within (names_of from) (names_of path)) names (names_of path) within in
    let here : names_of text ≡ names = ap names_of whole ∙ names_of-joined names named in
    let short_to = (and_parts (list_all (λ name. nat_le (length name) 255) (names_of to)) _ two.within).0 in
    let short_path = (and_parts (list_all (λ name. nat_le (length name) 255) (names_of path)) _ three.within).0 in
    let short : list_all (λ name. nat_le (length name) 255) names ≡ true =
    list_all-append (λ name. nat_le (length name) 255) (names_of to) rest ∙ and_from _ _ short_to (all-drop (λ name. nat_le (length name) 255) (length (names_of from)) (names_of path) short_path) in
    record {
      joins = joins;
      names = here ∙ sym led;
      fits_by = ap fits (led ∙ sym here) ∙ fits-length text joins (ap (list_all (λ name. nat_le (length name) 255)) here ∙ short);
    }
  where
    all-drop : (p : List ℕ → Bool) (n : ℕ) (names : List (List ℕ)) → list_all p names ≡ true → list_all p (drop n names) ≡ true
    all-drop p zero names all = all
    all-drop p (suc n) [] all = refl
    all-drop p (suc n) (name ∷ names) all = all-drop p n names (and_parts (p name) (list_all p names) all).1

    fits-length : (text : List ℕ) → IsJoined text → list_all (λ name. nat_le (length name) 255) (names_of text) ≡ true → fits (names_of text) ≡ nat_le (length text) text_limit
    fits-length text joins short =
        fits-kept text joins
        ∙ ap (λ parts. list_all (λ name. nat_le (length name) 255) parts && nat_le (length text) text_limit) (split-kept text joins)
        ∙ ap (λ b. b && nat_le (length text) text_limit) short

module _ (from to path : List ℕ) (one : IsKept from) (two : IsKept to) (three : IsKept path) (f t p : List (List ℕ))
    (f_is : names_of from ≡ f) (t_is : names_of to ≡ t) (p_is : names_of path ≡ p) (within : is_within f p ≡ true) where
  is_below : is_within (names_of from) (names_of path) ≡ true
  is_below = ap (λ above. is_within above (names_of path)) f_is ∙ ap (is_within f) p_is ∙ within

  leads : moved_path (names_of from) (names_of to) (names_of path) ≡ moved_path f t p
  leads = ap (λ a. moved_path a (names_of to) (names_of path)) f_is ∙ ap (λ b. moved_path f b (names_of path)) t_is ∙ ap (moved_path f t) p_is

  pub moved-shorter : length from ≤ length path
  moved-shorter = shorter-le from path one.joins three.joins is_below

  pub moved-fits : fits (moved_path f t p) ≡ nat_le (length path - length from + length to) text_limit
  moved-fits =
      let text = to ++ drop (length from) path in
      let is_moved = moved-text from to path text one.joins two three is_below refl in
      let rest = length-drop (length from) path in
      let whole : length text ≡ length path - length from + length to = length-append to (drop (length from) path) ∙ omega arith in
      sym (ap fits leads) ∙ is_moved.fits_by ∙ ap (λ n. nat_le n text_limit) whole

  pub moved-kept : fits (moved_path f t p) ≡ true → (text : List ℕ) → text ≡ to ++ drop (length from) path → (IsKept text) × (names_of text ≡ moved_path f t p)
  moved-kept fit text is =
      let is_moved = moved-text from to path text one.joins two three is_below is in
      (record { joins = is_moved.joins; within = ap fits (is_moved.names ∙ leads) ∙ fit }, is_moved.names ∙ leads)
