-- The lines of a listing, entry by entry.
use Rattle.std.proofs.Common.{◌≡◌, ℕ, zero, suc, ◌+◌, ◌-◌, ◌<◌, ◌≤◌, List, [], ◌∷◌, ◌++◌, length, take, drop, Bool, true, false, ◌&&◌, nat_le, nat_lt, Option, Some, None, refl, ap, sym, subst, ◌∙◌, arith, append_assoc, append-nil, length-append, length-drop}
use Rattle.std.specs.Prelude.{map, is_some, if◌then◌else◌}
use Rattle.std.specs.List.{filter_map, cons_option, slice_get}
use Rattle.std.specs.Option.{option_map, option_to_list, unwrap_or}
use Rattle.std.proofs.lemmas.Bool.{and_parts}
use Rattle.std.proofs.lemmas.Bool.Decides.{nat_tests}
use Rattle.std.proofs.lemmas.List.{drop_more, drop_all}
use Rattle.std.proofs.lemmas.Option.{get_or_from_slice_get, slice_get_within}
use Rattle.ftp_path.specs.Kept.{IsKept, names_of}
use Rattle.ftp_path.specs.Path.{Names, fits, is_component, is_name, joined, text_limit}
use Rattle.ftp_path.proofs.PathLemmas.{kept-le}
use Rattle.ftp_tree.specs.Map as maps
use Rattle.ftp_tree.specs.Map.{Node, Dir, File, of_node, shown_of}
use Rattle.ftp_tree.specs.Tree.{Table, node_at, children, entries_at, kind_at}
use Rattle.ftp_tree.proofs.TextLemmas.{fits-room, kept-place}
use Rattle.ftp_tree.specs.declared.tree.NodeKind.TheVariants as Kinds
use Rattle.ftp_wire.specs.Encoding.{still_to_give}
use Rattle.ftp_wire.specs.declared.encoder.Encoder.{Encoder}
use Rattle.ftp_wire.proofs.EncodingLemmas.{behind_front}
use Rattle.ftp_direct.proofs.NodeLineLemmas.{dir_lines, file_lines, none_lines}
use Rattle.ftp_direct.specs.Direct.{behind, child, entry_at, is_file, file_in, entry_in, entries_in, listed, names_for}
use Rattle.ftp_server_model.specs.Listing.{child_line, node_line, list_lines, last_name, lines_file, text_line}
use Rattle.ftp_server_model.specs.Entries.{listed_line}
use Rattle.ftp_facts.specs.declared.name.Facts.{Facts}
use Rattle.ftp_server_transfer.specs.Rest.{text_left}
use Rattle.ftp_server_transfer.specs.declared.line.What.{What}
use Rattle.ftp_server_transfer.specs.declared.listing.Listing.{Listing}
use Rattle.ftp_server_transfer.specs.Lines.{PutsLine, columns_of, entry_facts, line_of_entry, lines_from, lines_of, pathname_of}
use Rattle.ftp_server_transfer.specs.declared.line.What.TheVariants as Whats

-- ---- a line and its end

-- what was put, as lines
pub put_is : (o : Option (List ℕ)) (old new : List ℕ) → PutsLine o old new → new ≡ old ++ lines_file (option_to_list o)
put_is None old new put = put ∙ sym (append-nil old)
put_is (Some line) old new put = put ∙ ap (λ l. old ++ l) (sym (append-nil (text_line line)))

-- a line that was put in two steps
pub ended : (old mid new line : List ℕ) → mid ≡ old ++ line → new ≡ mid ++ 10 ∷ [] → new ≡ old ++ text_line line
ended old mid new line put end = end ∙ ap (λ l. l ++ 10 ∷ []) put ∙ append_assoc old line (10 ∷ [])

-- ---- whether a path is within the limits

-- the path of a name in a directory is within the limits where the name is short enough for what the path leaves
pub fits_child : (key : List ℕ) (path : Names) (name : List ℕ) → IsKept key → names_of key ≡ path → is_name name ≡ true → fits (child path name) ≡ nat_lt (length name) (text_limit - length key)
fits_child key path name kept is named =
    ap (λ p. fits (p ++ name ∷ [])) (sym is) ∙ fits-room key (name ∷ []) (kept-place key kept) (kept-le key kept)
    ∙ ap (λ b. (b && true) && nat_le (length (joined (name ∷ []))) (text_limit - length key)) (and_parts (is_component name) (nat_le (length name) 255) named).1
    ∙ ap (λ l. nat_le (suc (length l)) (text_limit - length key)) (append-nil name) ∙ less (length name) (text_limit - length key)
  where
    less : (a b : ℕ) → nat_le (suc a) b ≡ nat_lt a b
    less a b = grind (arith, nat_tests)

-- ---- entries one after another

lines_cons : (o : Option (List ℕ)) (lines : List (List ℕ)) → lines_file (cons_option o lines) ≡ lines_file (option_to_list o) ++ lines_file lines
lines_cons None lines = refl
lines_cons (Some line) lines = ap (λ l. l ++ lines_file lines) (sym (append-nil (text_line line)))

one_more : {X : Type 0} (f : X → Option (List ℕ)) (all : List X) (n : ℕ) (x : X) → Some x ≡ slice_get all n
    → lines_file (filter_map f (drop n all)) ≡ lines_file (option_to_list (f x)) ++ lines_file (filter_map f (drop (n + 1) all))
one_more f all n x is =
    ap (λ l. lines_file (filter_map f l)) (drop_more all n x (slice_get_within all n x (sym is)))
    ∙ ap (λ y. lines_file (filter_map f (y ∷ drop (n + 1) all))) (get_or_from_slice_get all n x x (sym is))
    ∙ lines_cons (f x) (filter_map f (drop (n + 1) all))

-- with the line of one more entry
pub with_line : {X : Type 0} (f : X → Option (List ℕ)) (all : List X) (n m : ℕ) (x : X) (whole old new : List ℕ) → Some x ≡ slice_get all n → n + 1 ≡ m → PutsLine (f x) old new
    → whole ≡ old ++ lines_file (filter_map f (drop n all)) → whole ≡ new ++ lines_file (filter_map f (drop m all))
with_line f all n m x whole old new is next put left =
    left ∙ ap (λ l. old ++ l) (one_more f all n x is) ∙ sym (append_assoc old (lines_file (option_to_list (f x))) (lines_file (filter_map f (drop (n + 1) all))))
    ∙ ap (λ l. l ++ lines_file (filter_map f (drop (n + 1) all))) (sym (put_is (f x) old new put)) ∙ ap (λ k. new ++ lines_file (filter_map f (drop k all))) next

ends : {X : Type 0} (all : List X) (n : ℕ) → None ≡ slice_get all n → length all ≤ n
ends [] n none = omega arith
ends (x ∷ all) zero none = absurd (cc)
ends (x ∷ all) (suc n) none = omega (arith, ends all n none)

pub no_more : {X : Type 0} (f : X → Option (List ℕ)) (all : List X) (n : ℕ) → None ≡ slice_get all n → lines_file (filter_map f (drop n all)) ≡ []
no_more f all n none = ap (λ l. lines_file (filter_map f l)) (drop_all n all (ends all n none))

-- ---- a file's own line

-- LIST: of a file its own line
pub first_own : (table : Table) (path : Names) (name old mid new : List ℕ) → Some Kinds.File ≡ kind_at table path → name ≡ last_name path → old ≡ []
    → mid ≡ old ++ node_line name (unwrap_or (node_at table path) Dir) → new ≡ mid ++ 10 ∷ [] → lines_file (list_lines table path) ≡ new
first_own table path name old mid new is last none put end =
    let line = node_line name (unwrap_or (node_at table path) Dir) in
    sym (ended old mid new line put end ∙ ap (λ l. l ++ text_line line) none ∙ sym (append-nil (text_line line))
    ∙ ap lines_file (file_lines table path name line is last refl))

-- and where nothing stands none
pub first_none : (table : Table) (path : Names) (old : List ℕ) → None ≡ kind_at table path → old ≡ [] → lines_file (list_lines table path) ≡ old
first_none table path old is none = sym (none ∙ ap lines_file (none_lines table path [] is refl))

-- NLST: of a file its text
pub first_name : (table : Table) (path : Names) (text old mid new : List ℕ) → is_file (node_at table path) ≡ true → old ≡ [] → mid ≡ old ++ text → new ≡ mid ++ 10 ∷ []
    → lines_file (names_for table path text) ≡ new
unfolding names_for
first_name table path text old mid new is none put end =
    ap (λ b. lines_file (if b then text ∷ [] else filter_map (file_in table path text) (children table path))) is ∙ append-nil (text_line text)
    ∙ sym (ended old mid new text put end ∙ ap (λ l. l ++ text_line text) none)

-- ---- the lines of a directory's names are those of its entries

lines_shown : {X Y Z : Type 0} (f : X → Option Z) (g : Y → Option Z) (h : X → Y) (xs : List X) → ((x : X) → f x ≡ g (h x))
    → filter_map f xs ≡ filter_map g (map h xs)
lines_shown f g h [] same = refl
lines_shown f g h (x ∷ xs) same = ap (λ o. cons_option o (filter_map f xs)) (same x) ∙ ap (cons_option (g (h x))) (lines_shown f g h xs same)

of_directory : {A : Type 0} (what : What A) (f : List ℕ → Option (List ℕ)) (table : Table) (path : Names)
    → ((name : List ℕ) → f name ≡ line_of_entry what path (name, of_node shown_of (node_at table (child path name))))
    → filter_map f (children table path) ≡ lines_from what path (entries_at table path) (Some 0)
unfolding entries_at children node_at maps.entries_at
of_directory what f table path same =
    lines_shown f (line_of_entry what path) (λ name. (name, of_node shown_of (node_at table (child path name)))) (children table path) same

-- of a name, whatever stands there
child_shown : (path : Names) (name : List ℕ) (node : Option Node)
    → (if fits (child path name) then Some (node_line name (unwrap_or node Dir)) else None)
    ≡ (if fits (child path name) then Some (columns_of (name, of_node shown_of node)) else None)
child_shown path name None = refl
child_shown path name (Some Dir) = refl
child_shown path name (Some (File octets moment)) = refl

file_shown : (fit : Bool) (text name : List ℕ) (node : Option Node)
    → (if fit && is_file node then Some (behind text name) else None) ≡ (if fit then pathname_of text (name, of_node shown_of node) else None)
file_shown false text name _ = refl
file_shown true text name None = refl
file_shown true text name (Some Dir) = refl
file_shown true text name (Some (File octets moment)) = refl

facts_shown : (path : Names) (name : List ℕ) (node : Option Node)
    → listed name (child path name) (unwrap_or node Dir) ≡ entry_facts (name, of_node shown_of node)
facts_shown [] name None = refl
facts_shown (first ∷ path) name None = refl
facts_shown [] name (Some node) = refl
facts_shown (first ∷ path) name (Some node) = refl

entry_shown : (fit : Bool) (facts : Facts) (path : Names) (name : List ℕ) (node : Option Node)
    → option_map (listed_line facts) (if fit then Some (listed name (child path name) (unwrap_or node Dir)) else None)
    ≡ (if fit then Some (listed_line facts (entry_facts (name, of_node shown_of node))) else None)
entry_shown false facts path name _ = refl
entry_shown true facts path name node = ap (λ said. Some (listed_line facts said)) (facts_shown path name node)

mapped : {X Y : Type 0} (f : X → Y) (o : Option X) (xs : List X) → map f (cons_option o xs) ≡ cons_option (option_map f o) (map f xs)
mapped f None xs = refl
mapped f (Some x) xs = refl

mapped_all : {X Y Z : Type 0} (f : Y → Z) (h : X → Option Y) (xs : List X) → map f (filter_map h xs) ≡ filter_map (λ x. option_map f (h x)) xs
mapped_all f h [] = refl
mapped_all f h (x ∷ xs) = mapped f (h x) (filter_map h xs) ∙ ap (cons_option (option_map f (h x))) (mapped_all f h xs)

-- LIST
pub of_lines : {A : Type 0} (what : What A) (table : Table) (path : Names) → what ≡ Whats.Lines → kind_at table path ≡ Some Kinds.Dir
    → lines_of what table path ≡ lines_from what path (entries_at table path) (Some 0)
unfolding kind_at
of_lines {A} what table path is dir =
    let P : What A → Type 0 = λ w. lines_of w table path ≡ lines_from w path (entries_at table path) (Some 0) in
    subst P (sym is)
    (sym (dir_lines table path (filter_map (child_line table path) (children table path)) (sym dir) refl)
    ∙ of_directory {A = A} Whats.Lines (child_line table path) table path (λ name. child_shown path name (node_at table (child path name))))

-- NLST
pub of_names : {A : Type 0} (what : What A) (table : Table) (path : Names) (text : List ℕ) → what ≡ Whats.Names text → is_file (node_at table path) ≡ false
    → lines_of what table path ≡ lines_from what path (entries_at table path) (Some 0)
unfolding names_for
of_names {A} what table path text is other =
    let P : What A → Type 0 = λ w. lines_of w table path ≡ lines_from w path (entries_at table path) (Some 0) in
    subst P (sym is)
    (ap (λ b. if b then text ∷ [] else filter_map (file_in table path text) (children table path)) other
    ∙ of_directory {A = A} (Whats.Names text) (file_in table path text) table path
    (λ name. file_shown (fits (child path name)) text name (node_at table (child path name))))

-- MLSD
pub of_entries : {A : Type 0} (what : What A) (facts : Facts) (table : Table) (path : Names) → what ≡ Whats.Entries facts
    → lines_of what table path ≡ lines_from what path (entries_at table path) (Some 0)
unfolding entries_in entry_at
of_entries {A} what facts table path is =
    let P : What A → Type 0 = λ w. lines_of w table path ≡ lines_from w path (entries_at table path) (Some 0) in
    subst P (sym is)
    (mapped_all (listed_line facts) (entry_in table path) (children table path)
    ∙ of_directory {A = A} (Whats.Entries facts) (λ name. option_map (listed_line facts) (entry_in table path name)) table path
    (λ name. entry_shown (fits (child path name)) facts path name (node_at table (child path name))))

-- ---- what is left of the text

empty_of : (xs : List ℕ) → length xs ≡ 0 → xs ≡ []
empty_of [] none = refl
empty_of (x ∷ xs) none = absurd (omega (arith, none))

over_from : {A : Type 0} (what : What A) (path : Names) (entries : List (List ℕ × Option (ℕ × ℕ))) (place : Option ℕ) (n : ℕ)
    → (is_some place ≡ true → 0 < n) → n ≡ 0 → lines_from what path entries place ≡ []
over_from what path entries None n known none = refl
over_from what path entries (Some place) n known none = absurd (omega (arith, known refl, none))

pub text_none : {A : Type 0} (l : Listing A) → l.given ≡ length l.lines.items → length l.ahead.items ≡ 0 → text_left l ≡ []
text_none l used none =
    let nothing : l.ahead.items ≡ [] = empty_of l.ahead.items none in
    let later = lines_file (lines_from l.what l.path l.entries l.place) in
    ap (λ k. k ++ (l.ahead.items ++ later)) (drop_all l.given l.lines.items (omega (arith, used)))
    ∙ ap (λ k. k ++ later) nothing
    ∙ ap lines_file (over_from l.what l.path l.entries l.place (length l.ahead.items) l.known none)

pub text_used : {A : Type 0} (l : Listing A) → text_left l ≡ [] → (l.given ≡ length l.lines.items) × (length l.ahead.items ≡ 0)
text_used l none =
    let later = lines_file (lines_from l.what l.path l.entries l.place) in
    let whole = length-append (drop l.given l.lines.items) (l.ahead.items ++ later) in
    let parts = length-append l.ahead.items later in
    let left = length-drop l.given l.lines.items in
    let nothing = ap length none in
    (omega (arith, whole, left, nothing, l.within), omega (arith, whole, parts, nothing))

-- ---- what is given, piece by piece

pub rest_same : (e f : Encoder) (s t : List ℕ) → e ≡ f → s ≡ t → still_to_give e s ≡ still_to_give f t
rest_same e f s t same text = ap (λ k. still_to_give k s) same ∙ ap (still_to_give f) text

pub gives_on : (whole mid rest room front back : List ℕ) (made n : ℕ) → made ≤ length room → front ≡ take made room
    → whole ≡ take made room ++ mid → mid ≡ take n back ++ rest → whole ≡ take (made + n) (front ++ back) ++ rest
gives_on whole mid rest room front back made n within is before step =
    before ∙ ap (λ l. take made room ++ l) step ∙ sym (append_assoc (take made room) (take n back) rest)
    ∙ ap (λ l. l ++ rest) (sym (behind_front room front back made n within is))
