-- Where a text leads: to names again, of which the canonical text is a path text.
use Rattle.std.proofs.Common.{ℕ, zero, suc, ◌+◌, ◌-◌, ◌<◌, ◌≤◌, ◌≡◌, ◌≢◌, Bool, true, false, List, [], ◌∷◌, ◌++◌, length, drop, fold, get_or, refl, ap, ◌∙◌, arith, nat_le}
use Rattle.std.specs.List.{list_all, slice_split, prefix_len}
use Rattle.std.proofs.lemmas.Bool.{and_parts, and_from, cond_both, leb-true, le-leb, leb-false}
use Rattle.std.proofs.lemmas.Bool.Decides.{nat_tests}
use Rattle.std.proofs.lemmas.List.{length-drop}
use Rattle.std.proofs.lemmas.List.Sums.{AllPass-from_list_all, list_all-from_AllPass, prefix_len_passes, prefix_len_stops}
use Rattle.std.proofs.lemmas.List.Elements.{All-take}
use Rattle.ftp_server_model.specs.Told.{is_path}
use Rattle.ftp_path.specs.Path.{IsPathText, is_slash, is_text, is_part, is_here, is_above, is_component, is_name, is_rooted, parent, followed, resolved, joined, text_of, fits, text_limit}
use Rattle.ftp_path.specs.Kept.{is_no_slash}
use Rattle.ftp_path.proofs.TextLemmas.{root-text}
use Rattle.ftp_path.proofs.PathLemmas.{IsJoined-joined, names_of-joined, parent-components, components-push, component-from, cut-first, cut-none, kept-path_text, joined-parent-le}

-- ---- the canonical text

pub path-text : (path : List (List ℕ)) → list_all is_component path ≡ true → fits path ≡ true → IsPathText (text_of path)
unfolding text_of
path-text [] named within = root-text
path-text (name ∷ names) named within =
    kept-path_text (joined (name ∷ names))
    (record { joins = IsJoined-joined (name ∷ names) named; within = ap fits (names_of-joined (name ∷ names) named) ∙ within }) (omega arith)

-- ---- the components of a text

no_slash : (octet : ℕ) → is_no_slash octet ≡ true → octet ≢ 47
no_slash octet is = grind (arith, nat_tests)

a_slash : (octet : ℕ) → is_no_slash octet ≡ false → octet ≡ 47
a_slash octet is = grind (arith, nat_tests)

-- by whether a slash is in it: `below` is the same of the text behind the first one
by_slash : (text : List ℕ) (b : Bool) → nat_le (suc (prefix_len is_no_slash text)) (length text) ≡ b → is_text text ≡ true
    → ((rest : List ℕ) → length rest < length text → is_text rest ≡ true → list_all is_part (slice_split is_slash rest) ≡ true)
    → list_all is_part (slice_split is_slash text) ≡ true
by_slash text false none is below =
    let last = leb-false (suc (prefix_len is_no_slash text)) (length text) none in
    let cut = cut-none text is (λ k lt. no_slash (get_or text k 0) (prefix_len_passes is_no_slash text k 0 (omega arith))) in
    ap (list_all is_part) cut.0 ∙ and_from _ _ cut.1 refl
by_slash text true some is below =
    let end = prefix_len is_no_slash text in
    let inside = leb-true (suc end) (length text) some in
    let cut = cut-first text end is inside (a_slash (get_or text end 0) (prefix_len_stops is_no_slash text 0 inside))
    (λ k lt. no_slash (get_or text k 0) (prefix_len_passes is_no_slash text k 0 lt)) in
    ap (list_all is_part) cut.parts
    ∙ and_from _ _ cut.front (below (drop (end + 1) text) (omega (arith, length-drop (end + 1) text)) cut.back)

parts_within : (n : ℕ) (text : List ℕ) → length text < n → is_text text ≡ true → list_all is_part (slice_split is_slash text) ≡ true
parts_within zero text short is = absurd (omega arith)
parts_within (suc n) text short is = by_slash text _ refl is (λ rest shorter. parts_within n rest (omega arith))

-- ---- where they lead

followed-components : (path : List (List ℕ)) (component : List ℕ) → list_all is_component path ≡ true → is_part component ≡ true
    → list_all is_component (followed path component) ≡ true
followed-components path component named is =
    let P : List (List ℕ) → Type 0 = λ led. list_all is_component led ≡ true in
    cond_both (is_here component) path _ P (λ _. named)
    (λ here. cond_both (is_above component) (parent path) (path ++ component ∷ []) P (λ _. parent-components path named)
    (λ above. components-push path component named (component-from component is here above)))

all_followed : (parts path : List (List ℕ)) → list_all is_component path ≡ true → list_all is_part parts ≡ true
    → list_all is_component (fold followed path parts) ≡ true
all_followed [] path named are = named
all_followed (component ∷ parts) path named are =
    let both = and_parts (is_part component) (list_all is_part parts) are in
    all_followed parts (followed path component) (followed-components path component named both.0) both.1

pub led-components : (here : List (List ℕ)) (text : List ℕ) → list_all is_component here ≡ true → IsPathText text → list_all is_component (resolved here text) ≡ true
unfolding resolved
led-components here text named is =
    let octets = (and_parts _ (is_text text) is).1 in
    all_followed (slice_split is_slash text) _
    (cond_both (is_rooted text) [] here (λ path. list_all is_component path ≡ true) (λ _. refl) (λ _. named))
    (parts_within (suc (length text)) text (omega arith) octets)

-- ---- the parent

joined-text : (path : List (List ℕ)) → length (joined path) ≤ length (text_of path)
unfolding text_of
joined-text [] = omega arith
joined-text (name ∷ names) = omega arith

text-short : (path : List (List ℕ)) → length (joined path) ≤ text_limit → length (text_of path) ≤ text_limit
unfolding text_of
text-short [] short = omega arith
text-short (name ∷ names) short = short

pub parent-fits : (path : List (List ℕ)) → fits path ≡ true → fits (parent path) ≡ true
unfolding fits parent
parent-fits path within =
    let both = and_parts _ _ within in
    let short = leb-true (length (text_of path)) text_limit both.1 in
    and_from _ _ (list_all-from_AllPass _ _ (All-take (λ name. nat_le (length name) 255 ≡ true) (length path - 1) path (AllPass-from_list_all _ path both.0)))
    (le-leb (length (text_of (parent path))) text_limit (text-short (parent path) (omega (arith, joined-parent-le path, joined-text path))))

-- ---- paths

names-are_components : (path : List (List ℕ)) → list_all is_name path ≡ true → list_all is_component path ≡ true
names-are_components [] named = refl
names-are_components (name ∷ names) named =
    let both = and_parts (is_name name) (list_all is_name names) named in
    and_from _ _ (and_parts (is_component name) _ both.0).0 (names-are_components names both.1)

names-from : (path : List (List ℕ)) → list_all is_component path ≡ true → list_all (λ name. nat_le (length name) 255) path ≡ true → list_all is_name path ≡ true
names-from [] named short = refl
names-from (name ∷ names) named short =
    let both = and_parts (is_component name) (list_all is_component names) named in
    let small = and_parts (nat_le (length name) 255) (list_all (λ name. nat_le (length name) 255) names) short in
    and_from _ _ (and_from (is_component name) _ both.0 small.0) (names-from names both.1 small.1)

path-from : (path : List (List ℕ)) → list_all is_component path ≡ true → fits path ≡ true → is_path path ≡ true
unfolding fits
path-from path named within = and_from _ _ (names-from path named (and_parts _ _ within).0) within

pub is_path-text : (path : List (List ℕ)) → is_path path ≡ true → IsPathText (text_of path)
is_path-text path is =
    let both = and_parts (list_all is_name path) (fits path) is in
    path-text path (names-are_components path both.0) both.1

pub is_path-led : (here : List (List ℕ)) (text : List ℕ) → is_path here ≡ true → IsPathText text → fits (resolved here text) ≡ true → is_path (resolved here text) ≡ true
is_path-led here text is words within =
    let both = and_parts (list_all is_name here) (fits here) is in
    path-from (resolved here text) (led-components here text (names-are_components here both.0) words) within

pub is_path-parent : (path : List (List ℕ)) → is_path path ≡ true → is_path (parent path) ≡ true
is_path-parent path is =
    let both = and_parts (list_all is_name path) (fits path) is in
    path-from (parent path) (parent-components path (names-are_components path both.0)) (parent-fits path both.1)
