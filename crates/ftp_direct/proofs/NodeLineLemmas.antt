-- The line of LIST of what stands at a path, and the last name of one.
use Rattle.std.proofs.Common.{◌≡◌, ℕ, suc, ◌+◌, ◌-◌, min, Bool, true, false, not, List, [], ◌∷◌, ◌++◌, length, take, drop, map, Option, Some, None, refl, ap, sym, ◌∙◌, arith, append_assoc, append-nil, length-append}
use Rattle.std.specs.Prelude.{codes, flat_map, if◌then◌else◌}
use Rattle.std.specs.List.{filter_map}
use Rattle.std.specs.Option.{option_map, unwrap_or}
use Rattle.std.proofs.lemmas.Bool.{and_parts}
use Rattle.ftp_path.specs.Path.{Names, fits, joined, parent}
use Rattle.ftp_operation.specs.Operation.{is_option, is_optional_text, may_be_listed}
use Rattle.ftp_operation.specs.declared.op.ListVerb.{ListVerb}
use Rattle.ftp_operation.specs.declared.op.ListVerb.TheVariants as Verbs
use Rattle.ftp_facts.specs.Entry.{entry_line, listed_of}
use Rattle.ftp_facts.specs.Line.{listed_line}
use Rattle.ftp_facts.specs.Name.{all_facts}
use Rattle.ftp_facts.specs.declared.entry.Entry.{Entry}
use Rattle.ftp_tree.specs.Map.{Node, Dir, File, of_node, shown_of}
use Rattle.ftp_tree.specs.Tree.{Table, node_at, children, kind_of, kind_at}
use Rattle.ftp_tree.specs.declared.tree.NodeKind.TheVariants as Kinds
use Rattle.ftp_direct.specs.Listing.{child, child_line, entries_in, entry_text, last_name, lines_file, list_line, list_lines, list_lines_at, listing_file, node_line}

-- ---- what stands at a path

-- of a file the line with its size and its moment
pub file_lined : (name : List ℕ) (node : Option Node) (size moment : ℕ) → Some (size, moment) ≡ of_node shown_of node
    → list_line (codes "-rw-r--r--") size moment name ≡ node_line name (unwrap_or node Dir)
file_lined name None size moment is = absurd (cc)
file_lined name (Some Dir) size moment is = absurd (cc)
file_lined name (Some (File octets at)) size moment is = ap (λ (shown : Option (ℕ × ℕ)). let file = unwrap_or shown (0, 0) in list_line (codes "-rw-r--r--") file.0 file.1 name) is

-- of all else that of a directory
pub dir_lined : (name : List ℕ) (node : Option Node) → None ≡ of_node shown_of node → list_line (codes "drwxr-xr-x") 0 0 name ≡ node_line name (unwrap_or node Dir)
dir_lined name None is = refl
dir_lined name (Some Dir) is = refl
dir_lined name (Some (File octets at)) is = absurd (cc)

-- ---- the last name

joined_last : (name : List ℕ) (names : Names) → joined (name ∷ names) ≡ joined (parent (name ∷ names)) ++ 47 ∷ last_name (name ∷ names)
unfolding parent
joined_last name [] = ap (λ l. 47 ∷ l) (append-nil name)
joined_last name (second ∷ names) =
    let shorter : suc (suc (length names)) - 1 ≡ suc (suc (length names) - 1) = omega arith in
    ap (λ l. 47 ∷ (name ++ l)) (joined_last second names)
    ∙ ap (λ l. 47 ∷ l) (sym (append_assoc name (joined (parent (second ∷ names))) (47 ∷ last_name (second ∷ names))))
    ∙ ap (λ k. joined (take k (name ∷ second ∷ names)) ++ 47 ∷ last_name (second ∷ names)) (sym shorter)

behind_seam : (xs : List ℕ) (c : ℕ) (ys : List ℕ) → drop (length xs + 1) (xs ++ c ∷ ys) ≡ ys
behind_seam [] c ys = refl
behind_seam (x ∷ xs) c ys = let more : suc (length xs) + 1 ≡ suc (length xs + 1) = omega arith in ap (λ k. drop k (x ∷ (xs ++ c ∷ ys))) more ∙ behind_seam xs c ys

pub last_cut : (path : Names) (key above : List ℕ) → joined path ≡ key → joined (parent path) ≡ above → drop (min (length above + 1) (length key)) key ≡ last_name path
last_cut [] key above is up =
    let none : min (length above + 1) (length key) ≡ 0 = omega (arith, ap length is) in
    ap (λ k. drop k key) none ∙ sym is
last_cut (name ∷ names) key above is up =
    let whole : key ≡ above ++ 47 ∷ last_name (name ∷ names) = sym is ∙ joined_last name names ∙ ap (λ l. l ++ 47 ∷ last_name (name ∷ names)) up in
    let long : min (length above + 1) (length key) ≡ length above + 1 = omega (arith, ap length whole, length-append above (47 ∷ last_name (name ∷ names))) in
    ap (λ k. drop k key) long ∙ ap (drop (length above + 1)) whole ∙ behind_seam above 47 (last_name (name ∷ names))

-- ---- the lines as they are put together

dir_lines_at : (node : Option Node) (table : Table) (path : Names) → option_map kind_of node ≡ Some Kinds.Dir
    → list_lines_at node table path ≡ filter_map (child_line table path) (children table path)
dir_lines_at None table path is = absurd (cc)
dir_lines_at (Some Dir) table path is = refl
dir_lines_at (Some (File octets at)) table path is = absurd (cc)

no_lines : (node : Option Node) (table : Table) (path : Names) → None ≡ option_map kind_of node → list_lines_at node table path ≡ []
no_lines None table path is = refl
no_lines (Some Dir) table path is = absurd (cc)
no_lines (Some (File octets at)) table path is = absurd (cc)

-- of a file
pub file_lines : (table : Table) (path : Names) (name line : List ℕ) → Some Kinds.File ≡ kind_at table path → name ≡ last_name path
    → line ≡ node_line name (unwrap_or (node_at table path) Dir) → line ∷ [] ≡ list_lines table path
unfolding kind_at
file_lines table path name line is last put = ap (λ l. l ∷ []) (put ∙ ap (λ n. node_line n (unwrap_or (node_at table path) Dir)) last) ∙ of_file (node_at table path) is
  where
    of_file : (node : Option Node) → Some Kinds.File ≡ option_map kind_of node → node_line (last_name path) (unwrap_or node Dir) ∷ [] ≡ list_lines_at node table path
    of_file None is = absurd (cc)
    of_file (Some Dir) is = absurd (cc)
    of_file (Some (File octets at)) is = refl

-- of a directory
pub dir_lines : (table : Table) (path : Names) (lines : List (List ℕ)) → Some Kinds.Dir ≡ kind_at table path
    → lines ≡ filter_map (child_line table path) (children table path) → lines ≡ list_lines table path
unfolding kind_at
dir_lines table path lines is put = put ∙ sym (dir_lines_at (node_at table path) table path (sym is))

-- of nothing
pub none_lines : (table : Table) (path : Names) (lines : List (List ℕ)) → None ≡ kind_at table path → lines ≡ [] → lines ≡ list_lines table path
unfolding kind_at
none_lines table path lines is put = put ∙ sym (no_lines (node_at table path) table path is)

-- ---- MLSD

-- an entry as it is written tells all its facts
pub written_line : {A : Type 0} (entry : Entry A) (old mid new : List ℕ) → mid ≡ old ++ entry_line entry → new ≡ mid ++ 10 ∷ [] → new ≡ old ++ entry_text entry
written_line entry old mid new put end = end ∙ ap (λ l. l ++ 10 ∷ []) put ∙ append_assoc old (entry_line entry) (10 ∷ [])

-- entries as a file
entries_as_file : {A : Type 0} (entries : List (Entry A)) → flat_map entry_text entries ≡ lines_file (map (listed_line all_facts) (map listed_of entries))
entries_as_file [] = refl
entries_as_file (entry ∷ entries) = ap (λ rest. entry_text entry ++ rest) (entries_as_file entries)

-- the entries of a directory as a file
pub facts_file : {A : Type 0} (entries : List (Entry A)) (table : Table) (path : Names) (text file : List ℕ) → map listed_of entries ≡ entries_in table path
    → file ≡ flat_map entry_text entries → file ≡ listing_file Verbs.Mlsd table path text
facts_file entries table path text file is put = put ∙ entries_as_file entries ∙ ap (λ listed. lines_file (map (listed_line all_facts) listed)) is

-- ---- a name in a directory

pub no_child_line : (table : Table) (path : Names) (name : List ℕ) → fits (child path name) ≡ false → None ≡ child_line table path name
no_child_line table path name long = ap (λ b. if b then Some (node_line name (unwrap_or (node_at table (child path name)) Dir)) else None) (sym long)

pub child_line_is : (table : Table) (path : Names) (name : List ℕ) (at : Names) (line : List ℕ) → at ≡ child path name → fits at ≡ true
    → line ≡ node_line name (unwrap_or (node_at table at) Dir) → Some line ≡ child_line table path name
child_line_is table path name at line is short put =
    ap Some (put ∙ ap (λ p. node_line name (unwrap_or (node_at table p) Dir)) is)
    ∙ ap (λ b. if b then Some (node_line name (unwrap_or (node_at table (child path name)) Dir)) else None) (sym short ∙ ap fits is)

-- ---- what can be listed

-- the text of a listing that a command can ask for is one that may be left out
pub optional_text : (verb : ListVerb) (text : List ℕ) → may_be_listed verb text ≡ true → is_optional_text text ≡ true
optional_text Verbs.Mlsd text may = may
optional_text Verbs.List text may = (and_parts (is_optional_text text) (not (is_option text)) may).0
optional_text Verbs.Nlst text may = (and_parts (is_optional_text text) (not (is_option text)) may).0
