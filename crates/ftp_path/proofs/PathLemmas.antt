-- Names joined and cut again, and where a step leads.
use Rattle.std.proofs.Common.{ℕ, zero, suc, ◌+◌, ◌-◌, ◌<◌, ◌≤◌, ◌≡◌, ◌≢◌, true, false, not, ◌&&◌, List, [], ◌∷◌, ◌++◌, length, take, drop, get_or, refl, sym, ap, ◌∙◌, subst, arith, nat_le}
use Rattle.std.specs.List.{list_all, slice_split, onto_first, suffix_len}
use Rattle.std.proofs.lemmas.Bool.{and_parts, and_from, not-true, not_from_false, cond-false, cond-true, cond_both, leb-true, le-leb, eq-eqb, ne_eqb}
use Rattle.std.proofs.lemmas.List.{append-nil, append_assoc, length-append, take_rest, drop-drop}
use Rattle.std.proofs.Math.Seq.{get_or-append_right, get_or-append_seam, take-append_seam}
use Rattle.std.proofs.lemmas.List.Folds.{list_all-append}
use Rattle.std.proofs.lemmas.List.Sums.{suffix_len_is, AllPass-from_list_all, list_all-from_AllPass}
use Rattle.std.proofs.lemmas.List.Elements.{All-take}
use Rattle.std.specs.Str.{is_utf8}
use Rattle.ftp_path.specs.Path.{is_slash, is_path_octet, is_text, is_path_text, is_name_octet, is_part, is_here, is_above, is_component, parent, followed, joined, text_of, fits, text_limit}
use Rattle.ftp_path.proofs.TextLemmas.{is_utf8-nil, is_utf8-append, slash-utf8, cut_before, cut_behind, component-part, name_octets-path}
use Rattle.ftp_path.specs.Kept.{is_no_slash, names_of, IsJoined, IsKept}

-- ---- components

pub name_octet-slash : (octet : ℕ) → is_name_octet octet ≡ true → is_slash octet ≡ false
name_octet-slash octet named = not-true (is_slash octet) (and_parts (is_path_octet octet) (not (is_slash octet)) named).1

pub component-octets : (name : List ℕ) → is_component name ≡ true → list_all is_name_octet name ≡ true
component-octets name named = (and_parts (is_utf8 name) (list_all is_name_octet name) (component-part name named)).1

-- ---- joined, and cut again

pub joined-append : (names others : List (List ℕ)) → joined (names ++ others) ≡ joined names ++ joined others
joined-append [] others = refl
joined-append (name ∷ names) others =
    ap (λ rest. 47 ∷ (name ++ rest)) (joined-append names others) ∙ ap (λ rest. 47 ∷ rest) (sym (append_assoc name (joined names) (joined others)))

split-front : (name rest first : List ℕ) (others : List (List ℕ)) → list_all is_name_octet name ≡ true → slice_split is_slash rest ≡ first ∷ others
    → slice_split is_slash (name ++ rest) ≡ (name ++ first) ∷ others
split-front [] rest first others named cut = cut
split-front (x ∷ xs) rest first others named cut =
    let both = and_parts (is_name_octet x) (list_all is_name_octet xs) named in
    cond-false (is_slash x) _ _ (name_octet-slash x both.0) ∙ ap (onto_first x) (split-front xs rest first others both.1 cut)

split-joined : (names : List (List ℕ)) → list_all is_component names ≡ true → slice_split is_slash (joined names) ≡ [] ∷ names
split-joined [] named = refl
split-joined (name ∷ names) named =
    let both = and_parts (is_component name) (list_all is_component names) named in
    let cut = split-front name (joined names) [] names (component-octets name both.0) (split-joined names both.1) in
    ap (λ parts. [] ∷ parts) (cut ∙ ap (λ front. front ∷ names) (append-nil name))

pub names_of-joined : (names : List (List ℕ)) → list_all is_component names ≡ true → names_of (joined names) ≡ names
unfolding names_of
names_of-joined names named = ap (drop 1) (split-joined names named)

pub IsJoined-joined : (names : List (List ℕ)) → list_all is_component names ≡ true → IsJoined (joined names)
IsJoined-joined names named =
    let cut = names_of-joined names named in
    record { whole = ap joined cut; components = ap (list_all is_component) cut ∙ named }

-- ---- the parent

-- a path that is not the root's is its parent and a name
pub parent-last : (name : List ℕ) (names : List (List ℕ)) → (last : List ℕ) × (name ∷ names ≡ parent (name ∷ names) ++ last ∷ [])
unfolding parent
parent-last name [] = (name, refl)
parent-last name (second ∷ names) =
    let below = parent-last second names in
    let shorter : suc (suc (length names)) - 1 ≡ suc (suc (length names) - 1) = omega arith in
    (below.0, ap (λ rest. name ∷ rest) below.1 ∙ ap (λ n. take n (name ∷ second ∷ names) ++ below.0 ∷ []) (sym shorter))

pub parent-components : (names : List (List ℕ)) → list_all is_component names ≡ true → list_all is_component (parent names) ≡ true
unfolding parent
parent-components names named =
    list_all-from_AllPass is_component _ (All-take (λ name. is_component name ≡ true) (length names - 1) names (AllPass-from_list_all is_component names named))

pub slash_octet : (octet : ℕ) → octet ≢ 47 → is_no_slash octet ≡ true
slash_octet octet other = not_from_false (is_slash octet) (ne_eqb octet 47 other)

name_octet_from : (octet : ℕ) → is_path_octet octet ≡ true → octet ≢ 47 → is_name_octet octet ≡ true
name_octet_from octet printable other = and_from (is_path_octet octet) (is_no_slash octet) printable (slash_octet octet other)

-- how much of a text stands behind its last slash
pub suffix-joined : (front last : List ℕ) → list_all is_name_octet last ≡ true → suffix_len is_no_slash (front ++ 47 ∷ last) ≡ length last
suffix-joined front last named =
    let text = front ++ 47 ∷ last in
    let whole : length text ≡ length front + suc (length last) = length-append front (47 ∷ last) in
    let behind : (k : ℕ) → length front + 1 ≤ k → k < length text → is_no_slash (get_or text k 0) ≡ true = λ k from below.
    let at : get_or text k 0 ≡ get_or last (k - (length front + 1)) 0 =
    get_or-append_right front (47 ∷ last) k 0 (omega arith) ∙ ap (λ n. get_or (47 ∷ last) n 0) (deeper k (length front) from) in
    let octet : is_name_octet (get_or last (k - (length front + 1)) 0) ≡ true = AllPass-from_list_all is_name_octet last named (k - (length front + 1)) 0 (omega arith) in
    ap is_no_slash at ∙ not_from_false (is_slash (get_or last (k - (length front + 1)) 0)) (name_octet-slash _ octet) in
    let here : is_no_slash (get_or text (length front + 1 - 1) 0) ≡ false =
    let place : length front + 1 - 1 ≡ length front = omega arith in
    ap (λ n. is_no_slash (get_or text n 0)) place ∙ ap is_no_slash (get_or-append_seam front 47 last 0) in
    suffix_len_is is_no_slash text (length front + 1) 0 (omega arith) behind (λ _. here) ∙ omega arith
  where
    deeper : (k n : ℕ) → n + 1 ≤ k → k - n ≡ suc (k - (n + 1))
    deeper k n from = omega arith

-- what stands before the last slash of a path's text is its parent's
pub joined-parent : (names : List (List ℕ)) → list_all is_component names ≡ true
    → take (length (joined names) - suffix_len is_no_slash (joined names) - 1) (joined names) ≡ joined (parent names)
unfolding parent
joined-parent [] named = refl
joined-parent (name ∷ names) named =
    let cut = parent-last name names in
    let all = parent (name ∷ names) in
    let parts : joined (name ∷ names) ≡ joined all ++ 47 ∷ cut.0 =
    ap joined cut.1 ∙ joined-append all (cut.0 ∷ []) ∙ ap (λ rest. joined all ++ 47 ∷ rest) (append-nil cut.0) in
    let both : list_all is_component (all ++ cut.0 ∷ []) ≡ true = ap (list_all is_component) (sym cut.1) ∙ named in
    let last : is_component cut.0 ≡ true =
    (and_parts _ _ ((and_parts (list_all is_component all) (list_all is_component (cut.0 ∷ [])) (sym (list_all-append is_component all (cut.0 ∷ [])) ∙ both)).1)).0 in
    let behind : suffix_len is_no_slash (joined all ++ 47 ∷ cut.0) ≡ length cut.0 = suffix-joined (joined all) cut.0 (component-octets cut.0 last) in
    let whole : length (joined all ++ 47 ∷ cut.0) ≡ length (joined all) + suc (length cut.0) = length-append (joined all) (47 ∷ cut.0) in
    let kept : length (joined all ++ 47 ∷ cut.0) - suffix_len is_no_slash (joined all ++ 47 ∷ cut.0) - 1 ≡ length (joined all) = omega arith in
    ap (λ text. take (length text - suffix_len is_no_slash text - 1) text) parts
    ∙ ap (λ n. take n (joined all ++ 47 ∷ cut.0)) kept
    ∙ take-append_seam (joined all) (47 ∷ cut.0)

-- a name behind a path
pub joined-push : (names : List (List ℕ)) (name : List ℕ) → joined (names ++ name ∷ []) ≡ (joined names ++ 47 ∷ []) ++ name
joined-push names name =
    joined-append names (name ∷ []) ∙ ap (λ rest. joined names ++ 47 ∷ rest) (append-nil name) ∙ sym (append_assoc (joined names) (47 ∷ []) name)

pub components-push : (names : List (List ℕ)) (name : List ℕ) → list_all is_component names ≡ true → is_component name ≡ true → list_all is_component (names ++ name ∷ []) ≡ true
components-push names name named last = list_all-append is_component names (name ∷ []) ∙ and_from _ _ named (and_from _ _ last refl)

-- ---- the first component of a text

record AreCut (text : List ℕ) (end : ℕ) : Type 0 where
  parts : slice_split is_slash text ≡ take end text ∷ slice_split is_slash (drop (end + 1) text)
  front : list_all is_name_octet (take end text) ≡ true
  back : list_all is_path_octet (drop (end + 1) text) ≡ true

octets-cut-first : (text : List ℕ) (end : ℕ) → list_all is_path_octet text ≡ true → end < length text → get_or text end 0 ≡ 47
    → ((k : ℕ) → k < end → get_or text k 0 ≢ 47) → AreCut text end
octets-cut-first [] end octets inside here before = absurd (omega arith)
octets-cut-first (x ∷ xs) zero octets inside here before =
    let both = and_parts (is_path_octet x) (list_all is_path_octet xs) octets in
    record { parts = cond-true (is_slash x) _ _ (eq-eqb x 47 here); front = refl; back = both.1 }
octets-cut-first (x ∷ xs) (suc end) octets inside here before =
    let both = and_parts (is_path_octet x) (list_all is_path_octet xs) octets in
    let below = octets-cut-first xs end both.1 (omega arith) here (λ k lt. before (suc k) (omega arith)) in
    let other : x ≢ 47 = before 0 (omega arith) in
    let deeper : drop (suc end + 1) (x ∷ xs) ≡ drop (end + 1) xs = ap (λ n. drop n (x ∷ xs)) (further end) in
    record {
      parts = cond-false (is_slash x) _ _ (ne_eqb x 47 other) ∙ ap (onto_first x) below.parts ∙ ap (λ rest. (x ∷ take end xs) ∷ slice_split is_slash rest) (sym deeper);
      front = and_from _ _ (name_octet_from x both.0 other) below.front;
      back = ap (list_all is_path_octet) deeper ∙ below.back;
    }
  where
    further : (n : ℕ) → suc n + 1 ≡ suc (n + 1)
    further n = omega arith

-- where the first slash stands, a text is cut: a part before it, and a text behind it
pub record IsCut (text : List ℕ) (end : ℕ) : Type 0 where
  pub parts : slice_split is_slash text ≡ take end text ∷ slice_split is_slash (drop (end + 1) text)
  pub front : is_part (take end text) ≡ true
  pub back : is_text (drop (end + 1) text) ≡ true

pub cut-first : (text : List ℕ) (end : ℕ) → is_text text ≡ true → end < length text → get_or text end 0 ≡ 47
    → ((k : ℕ) → k < end → get_or text k 0 ≢ 47) → IsCut text end
cut-first text end is inside here before =
    let both = and_parts (is_utf8 text) (list_all is_path_octet text) is in
    let cut = octets-cut-first text end both.1 inside here before in
    let ascii : get_or text end 0 < 128 = omega arith in
    record {
      parts = cut.parts;
      front = and_from _ _ (cut_before text end both.0 inside ascii) cut.front;
      back = and_from _ _ (cut_behind text end both.0 inside ascii) cut.back;
    }

octets-cut-none : (text : List ℕ) → list_all is_path_octet text ≡ true → ((k : ℕ) → k < length text → get_or text k 0 ≢ 47)
    → (slice_split is_slash text ≡ text ∷ []) × (list_all is_name_octet text ≡ true)
octets-cut-none [] octets none = (refl, refl)
octets-cut-none (x ∷ xs) octets none =
    let both = and_parts (is_path_octet x) (list_all is_path_octet xs) octets in
    let below = octets-cut-none xs both.1 (λ k lt. none (suc k) (omega arith)) in
    let other : x ≢ 47 = none 0 (omega arith) in
    (cond-false (is_slash x) _ _ (ne_eqb x 47 other) ∙ ap (onto_first x) below.0, and_from _ _ (name_octet_from x both.0 other) below.1)

-- a text with no slash is one part
pub cut-none : (text : List ℕ) → is_text text ≡ true → ((k : ℕ) → k < length text → get_or text k 0 ≢ 47)
    → (slice_split is_slash text ≡ text ∷ []) × (is_part text ≡ true)
cut-none text is none =
    let both = and_parts (is_utf8 text) (list_all is_path_octet text) is in
    let cut = octets-cut-none text both.1 none in
    (cut.0, and_from _ _ both.0 cut.1)

-- ---- steps

pub truncated : (text : List ℕ) → IsJoined text → (front : List ℕ) → front ≡ take (length text - suffix_len is_no_slash text - 1) text
    → (IsJoined front) × (names_of front ≡ parent (names_of text))
truncated text kept front cut =
    let names = names_of text in
    let above : front ≡ joined (parent names) =
    cut ∙ ap (λ t. take (length t - suffix_len is_no_slash t - 1) t) (sym kept.whole) ∙ joined-parent names kept.components in
    let named = parent-components names kept.components in
    (subst IsJoined (sym above) (IsJoined-joined (parent names) named), ap names_of above ∙ names_of-joined (parent names) named)

pub pushed : (text : List ℕ) → IsJoined text → (name : List ℕ) → is_component name ≡ true → (longer : List ℕ) → longer ≡ (text ++ 47 ∷ []) ++ name
    → (IsJoined longer) × (names_of longer ≡ names_of text ++ name ∷ [])
pushed text kept name last longer cut =
    let names = names_of text in
    let more : longer ≡ joined (names ++ name ∷ []) = cut ∙ ap (λ t. (t ++ 47 ∷ []) ++ name) (sym kept.whole) ∙ sym (joined-push names name) in
    let named = components-push names name kept.components last in
    (subst IsJoined (sym more) (IsJoined-joined (names ++ name ∷ []) named), ap names_of more ∙ names_of-joined (names ++ name ∷ []) named)

pub component-from : (component : List ℕ) → is_part component ≡ true → is_here component ≡ false → is_above component ≡ false → is_component component ≡ true
component-from component component_part here above =
    and_from (not (is_here component) && not (is_above component)) (is_part component)
    (and_from (not (is_here component)) _ (not_from_false (is_here component) here) (not_from_false (is_above component) above)) component_part

pub joined-parent-le : (names : List (List ℕ)) → length (joined (parent names)) ≤ length (joined names)
unfolding parent
joined-parent-le [] = omega arith
joined-parent-le (name ∷ names) =
    let cut = parent-last name names in
    let all = parent (name ∷ names) in
    let parts : length (joined (name ∷ names)) ≡ length (joined all) + length (joined (cut.0 ∷ [])) =
    ap length (ap joined cut.1 ∙ joined-append all (cut.0 ∷ [])) ∙ length-append (joined all) (joined (cut.0 ∷ [])) in
    omega arith

-- a step adds a slash and the component at most
pub followed-le : (names : List (List ℕ)) (component : List ℕ) → length (joined (followed names component)) ≤ length (joined names) + 1 + length component
followed-le names component =
    let bound = length (joined names) + 1 + length component in
    let P : List (List ℕ) → Type 0 = λ path. length (joined path) ≤ bound in
    let push : length (joined (names ++ component ∷ [])) ≡ length (joined names) + 1 + length component =
    ap length (joined-push names component) ∙ length-append (joined names ++ 47 ∷ []) component
    ∙ ap (λ n. n + length component) (length-append (joined names) (47 ∷ [])) in
    cond_both (is_here component) names _ P (λ _. omega arith)
    (λ _. cond_both (is_above component) (parent names) (names ++ component ∷ []) P (λ _. omega (arith, joined-parent-le names)) (λ _. omega arith))

-- ---- limits

pub split-kept : (text : List ℕ) → IsJoined text → slice_split is_slash text ≡ [] ∷ names_of text
split-kept text kept = ap (slice_split is_slash) (sym kept.whole) ∙ split-joined (names_of text) kept.components

-- the canonical text is within the limit just where the names joined are
text-within : (names : List (List ℕ)) → nat_le (length (text_of names)) text_limit ≡ nat_le (length (joined names)) text_limit
unfolding text_of
text-within [] = refl
text-within (name ∷ names) = refl

pub fits-kept : (text : List ℕ) → IsJoined text → fits (names_of text) ≡ (list_all (λ name. nat_le (length name) 255) (slice_split is_slash text) && nat_le (length text) text_limit)
unfolding fits
fits-kept text kept =
    ap (λ n. list_all (λ name. nat_le (length name) 255) (names_of text) && n) (text-within (names_of text))
    ∙ ap (λ t. list_all (λ name. nat_le (length name) 255) (names_of text) && nat_le (length t) text_limit) kept.whole
    ∙ ap (λ parts. list_all (λ name. nat_le (length name) 255) parts && nat_le (length text) text_limit) (sym (split-kept text kept))

-- the parent of a path within the limits is within them
pub parent-fits : (names : List (List ℕ)) → fits names ≡ true → fits (parent names) ≡ true
unfolding fits parent
parent-fits names fit =
    let both = and_parts (list_all (λ name. nat_le (length name) 255) names) _ fit in
    let front = list_all-from_AllPass (λ name. nat_le (length name) 255) _ (All-take (λ name. nat_le (length name) 255 ≡ true) (length names - 1) names (AllPass-from_list_all (λ name. nat_le (length name) 255) names both.0)) in
    let long : length (joined names) ≤ text_limit = leb-true (length (joined names)) text_limit (sym (text-within names) ∙ both.1) in
    let less : length (joined (parent names)) ≤ length (joined names) = joined-parent-le names in
    and_from _ _ front (text-within (parent names) ∙ le-leb (length (joined (parent names))) text_limit (omega (arith, long, less)))

-- ---- the three steps

pub followed-above : (names : List (List ℕ)) (component : List ℕ) → is_here component ≡ false → is_above component ≡ true → followed names component ≡ parent names
followed-above names component here above = cond-false (is_here component) _ _ here ∙ cond-true (is_above component) _ _ above

pub followed-name : (names : List (List ℕ)) (component : List ℕ) → is_here component ≡ false → is_above component ≡ false → followed names component ≡ names ++ component ∷ []
followed-name names component here above = cond-false (is_here component) _ _ here ∙ cond-false (is_above component) _ _ above

-- what a loop has left after the first slash
pub rest-behind : (text : List ℕ) (end : ℕ) → take (length (drop end text) - 1) (drop 1 (drop end text)) ≡ drop (end + 1) text
rest-behind text end = take_rest (drop end text) 1 ∙ drop-drop 1 end text ∙ ap (λ n. drop n text) (omega arith)

-- ---- texts of paths

-- the canonical text of a path that is kept joined
pub text_of-kept : (text : List ℕ) → IsJoined text → 0 < length text → text_of (names_of text) ≡ text
unfolding text_of
text_of-kept text kept some = of (names_of text) kept.whole
  where
    of : (names : List (List ℕ)) → joined names ≡ text → text_of names ≡ text
    of [] whole = absurd (omega (arith, ap length whole))
    of (name ∷ names) whole = whole

pub text_of-none : (text : List ℕ) → IsJoined text → length text ≡ 0 → text_of (names_of text) ≡ 47 ∷ []
unfolding text_of
text_of-none text kept none = of (names_of text) kept.whole
  where
    of : (names : List (List ℕ)) → joined names ≡ text → text_of names ≡ 47 ∷ []
    of [] whole = refl
    of (name ∷ names) whole = absurd (omega (arith, ap length whole))

-- each octet of a joined text is one of a path text
pub joined-octets : (names : List (List ℕ)) → list_all is_component names ≡ true → list_all is_path_octet (joined names) ≡ true
joined-octets [] named = refl
joined-octets (name ∷ names) named =
    let both = and_parts (is_component name) (list_all is_component names) named in
    list_all-append is_path_octet name (joined names) ∙ and_from _ _ (name_octets-path name (component-octets name both.0)) (joined-octets names both.1)

pub kept-le : (text : List ℕ) → IsKept text → length text ≤ text_limit
kept-le text kept =
    leb-true (length text) text_limit (and_parts (list_all (λ name. nat_le (length name) 255) (slice_split is_slash text)) (nat_le (length text) text_limit) (sym (fits-kept text kept.joins) ∙ kept.within)).1

-- names joined are UTF-8, as each of them is
joined-utf8 : (names : List (List ℕ)) → list_all is_component names ≡ true → is_utf8 (joined names) ≡ true
joined-utf8 [] named = is_utf8-nil
joined-utf8 (name ∷ names) named =
    let both = and_parts (is_component name) (list_all is_component names) named in
    let valid = (and_parts (is_utf8 name) (list_all is_name_octet name) (component-part name both.0)).0 in
    is_utf8-append (47 ∷ []) (name ++ joined names) slash-utf8 (is_utf8-append name (joined names) valid (joined-utf8 names both.1))

-- what a path is kept as is a path text, but for the root's
pub kept-path_text : (text : List ℕ) → IsKept text → 0 < length text → is_path_text text ≡ true
kept-path_text text kept some =
    let whole = kept.joins.whole in
    let valid : is_utf8 text ≡ true = ap is_utf8 (sym whole) ∙ joined-utf8 (names_of text) kept.joins.components in
    let octets : list_all is_path_octet text ≡ true = ap (list_all is_path_octet) (sym whole) ∙ joined-octets (names_of text) kept.joins.components in
    and_from _ _ (and_from _ _ (le-leb 1 (length text) some) (le-leb (length text) text_limit (kept-le text kept))) (and_from _ _ valid octets)

pub IsKept-none : IsKept []
unfolding names_of fits text_of
IsKept-none = record { joins = IsJoined-joined [] refl; within = refl }
