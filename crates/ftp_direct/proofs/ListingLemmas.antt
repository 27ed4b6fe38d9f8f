-- Names in a directory, and what is said of each.
use Rattle.std.proofs.Common.{◌≡◌, ℕ, zero, suc, ◌+◌, ◌<◌, ◌≤◌, Bool, true, false, not, ◌&&◌, ◌==◌, nat_le, eqb, List, [], ◌∷◌, ◌++◌, length, take, get_or, Option, Some, None, refl, ap, sym, ◌∙◌, arith, if◌then◌else◌}
use Rattle.std.specs.Prelude.{fold, map}
use Rattle.std.specs.Option.{option_to_list}
use Rattle.std.specs.List.{list_all, filter_map, cons_option, slice_split, onto_first, slice_get}
use Rattle.std.specs.Option.{option_map}
use Rattle.std.proofs.lemmas.Bool.{and_parts, and_from, cond-false, not-true}
use Rattle.std.proofs.lemmas.Bool.Decides.{nat_tests}
use Rattle.std.proofs.lemmas.List.{map-append, take_more}
use Rattle.std.proofs.lemmas.List.Elements.{filter_map-append}
use Rattle.std.proofs.lemmas.Option.{slice_get_within, get_or_from_slice_get}
use Rattle.std.proofs.lemmas.List.Folds.{list_all-append}
use Rattle.ftp_path.specs.Path.{is_slash, is_name_octet, is_part, is_here, is_above, is_component, is_name, is_rooted, followed, resolved, fits, Names}
use Rattle.ftp_tree.specs.Tree.{Table, node_at}
use Rattle.ftp_path.proofs.PathLemmas.{component-octets, name_octet-slash, followed-name}
use Rattle.ftp_path.proofs.TextLemmas.{name-text}
use Rattle.ftp_operation.specs.Answer.{Listed}
use Rattle.ftp_operation.specs.Operation.{is_path_text}
use Rattle.ftp_direct.specs.Direct.{behind, child, entry_at, entry_in, file_in, is_file, place}
use Rattle.ftp_direct.proofs.ResolveLemmas.{dot_here}

-- ---- a name is a path text, and leads from a directory to the path of that name in it

pub name_component : (name : List ℕ) → is_name name ≡ true → is_component name ≡ true
name_component name named = (and_parts (is_component name) (nat_le (length name) 255) named).0

pub name_text : (name : List ℕ) → is_name name ≡ true → is_path_text name ≡ true
name_text = name-text

uncut : (name : List ℕ) → list_all is_name_octet name ≡ true → slice_split is_slash name ≡ name ∷ []
uncut [] all = refl
uncut (octet ∷ name) all =
    let both = and_parts (is_name_octet octet) (list_all is_name_octet name) all in
    cond-false (is_slash octet) _ _ (name_octet-slash octet both.0) ∙ ap (onto_first octet) (uncut name both.1)

turned : (octet : ℕ) → is_slash octet ≡ false → eqb 47 octet ≡ false
turned octet other = grind (arith, nat_tests)

unrooted : (name : List ℕ) → list_all is_name_octet name ≡ true → is_rooted name ≡ false
unrooted [] all = refl
unrooted (octet ∷ name) all =
    let both = and_parts (is_name_octet octet) (list_all is_name_octet name) all in
    ap (λ b. b && true) (turned octet (name_octet-slash octet both.0))

steps : (path : Names) (name : List ℕ) → is_component name ≡ true → followed path name ≡ path ++ name ∷ []
steps path name named =
    let dots = and_parts (not (is_here name)) (not (is_above name)) (and_parts (not (is_here name) && not (is_above name)) (is_part name) named).0 in
    followed-name path name (not-true (is_here name) dots.0) (not-true (is_above name) dots.1)

pub child_is : (path : Names) (name : List ℕ) → is_name name ≡ true → resolved path name ≡ path ++ name ∷ []
unfolding resolved
child_is path name named =
    let octets = component-octets name (name_component name named) in
    ap (λ parts. fold followed (if is_rooted name then [] else path) parts) (uncut name octets)
    ∙ ap (λ b. followed (if b then [] else path) name) (unrooted name octets) ∙ steps path name (name_component name named)

pub place_here : (cwd : Names) (text : List ℕ) → (length text == 0) ≡ true → resolved cwd (46 ∷ []) ≡ place cwd text
place_here cwd text empty = dot_here cwd ∙ ap (λ b. if b then cwd else resolved cwd text) (sym empty)

-- ---- what is said of a name

module _ (table : Table) (path : Names) (name : List ℕ) (named : is_name name ≡ true) where
  pub entry_in_none : fits (resolved path name) ≡ false → None ≡ entry_in table path name
  entry_in_none long =
      ap (λ b. if b then Some (entry_at table (child path name) name) else None) (sym long ∙ ap fits (child_is path name named))

  pub file_in_none : (text : List ℕ) → fits (resolved path name) ≡ false → None ≡ file_in table path text name
  file_in_none text long =
      ap (λ b. if b && is_file (node_at table (child path name)) then Some (behind text name) else None) (sym long ∙ ap fits (child_is path name named))

  module _ (at : Names) (is : at ≡ resolved path name) (fit : fits at ≡ true) where
    at_is : at ≡ child path name
    at_is = is ∙ child_is path name named

    pub entry_in_some : (said : Listed) → said ≡ entry_at table at name → Some said ≡ entry_in table path name
    entry_in_some said same =
        ap Some (same ∙ ap (λ p. entry_at table p name) at_is)
        ∙ ap (λ b. if b then Some (entry_at table (child path name) name) else None) (sym fit ∙ ap fits at_is)

    pub file_in_is : (text : List ℕ) (file : Bool) → file ≡ is_file (node_at table at) → (if file then Some (behind text name) else None) ≡ file_in table path text name
    file_in_is text file same =
        ap (λ b. if b then Some (behind text name) else None) (same ∙ ap (λ p. is_file (node_at table p)) at_is)
        ∙ ap (λ b. if b && is_file (node_at table (child path name)) then Some (behind text name) else None) (sym fit ∙ ap fits at_is)

-- ---- names one by one

got : (all : List (List ℕ)) (n : ℕ) (name : List ℕ) → slice_get all n ≡ Some name → take (n + 1) all ≡ take n all ++ name ∷ []
got all n name is =
    take_more all n [] (slice_get_within all n name is) ∙ ap (λ x. take n all ++ x ∷ []) (get_or_from_slice_get all n name [] is)

pub names_more : (all names : List (List ℕ)) (n : ℕ) (name : List ℕ) → Some name ≡ slice_get all n → names ≡ take n all → names ++ name ∷ [] ≡ take (n + 1) all
names_more all names n name is so_far = ap (λ x. x ++ name ∷ []) so_far ∙ sym (got all n name (sym is))

pub names_named : (names : List (List ℕ)) (name : List ℕ) → list_all is_name names ≡ true → is_name name ≡ true → list_all is_name (names ++ name ∷ []) ≡ true
names_named names name all last = list_all-append is_name names (name ∷ []) ∙ and_from _ _ all (and_from _ _ last refl)

pub names_within : (all : List (List ℕ)) (n : ℕ) (name : List ℕ) → Some name ≡ slice_get all n → n < length all
names_within all n name is = slice_get_within all n name (sym is)

pub names_end : (all : List (List ℕ)) (n : ℕ) → None ≡ slice_get all n → length all ≤ n
names_end [] n none = omega arith
names_end (name ∷ all) zero none = absurd (cc)
names_end (name ∷ all) (suc n) none = omega (arith, names_end all n none)

one : {Y : Type 0} (said : Option Y) → option_to_list said ≡ cons_option said []
one None = refl
one (Some said) = refl

-- one more name of a directory, and what is said of it
pub said_more : {Y : Type 0} (h : List ℕ → Option Y) (names : List (List ℕ)) (n : ℕ) (d : List ℕ) → n < length names
    → (said : List Y) → said ≡ filter_map h (take n names) → (more : Option Y) → more ≡ h (get_or names n d)
    → said ++ option_to_list more ≡ filter_map h (take (n + 1) names)
said_more h names n d within said so_far more is =
    let name = get_or names n d in
    let last : option_to_list more ≡ filter_map h (name ∷ []) = ap option_to_list is ∙ one (h name) in
    ap (λ x. x ++ option_to_list more) so_far ∙ ap (λ x. filter_map h (take n names) ++ x) last
    ∙ sym (filter_map-append h (take n names) (name ∷ [])) ∙ ap (filter_map h) (sym (take_more names n d within))

map_option : {X Y : Type 0} (f : X → Y) (said : Option X) → map f (option_to_list said) ≡ option_to_list (option_map f said)
map_option f None = refl
map_option f (Some said) = refl

-- the same, of values
pub listed_more : {X Y : Type 0} (f : X → Y) (h : List ℕ → Option Y) (names : List (List ℕ)) (n : ℕ) (d : List ℕ) → n < length names
    → (said : List X) → map f said ≡ filter_map h (take n names) → (more : Option X) → option_map f more ≡ h (get_or names n d)
    → map f (said ++ option_to_list more) ≡ filter_map h (take (n + 1) names)
listed_more f h names n d within said so_far more is =
    map-append f said (option_to_list more) ∙ ap (λ x. map f said ++ x) (map_option f more)
    ∙ said_more h names n d within (map f said) so_far (option_map f more) is
