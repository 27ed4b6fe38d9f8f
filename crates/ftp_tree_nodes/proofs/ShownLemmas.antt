-- What a directory shows, from its parts.
use Rattle.std.proofs.Common.{ℕ, ◌≡◌, true, cond, Option, Some, List, [], ◌∷◌, ◌++◌, refl, sym, ap, ◌∙◌, append_assoc}
use Rattle.std.specs.Prelude.{map}
use Rattle.std.specs.Cmp.{tied_itself}
use Rattle.std.specs.FinMap.{is_sorted}
use Rattle.std.specs.FinMap.Entries.{find, below_all}
use Rattle.std.specs.Ordering.{is_eq, is_lt}
use Rattle.std.proofs.lemmas.Bool.{and_parts}
use Rattle.ftp_path.specs.Path.{Names}
use Rattle.ftp_tree.specs.Map.{Node, Map, children, entries_at, node_at, of_node, shown_of, under}
use Rattle.ftp_tree_nodes.specs.Branch.{IsDirectory, NamedMap, file_alone, found, name_cmp, parts_table}
use Rattle.ftp_tree_nodes.specs.Store.{shown_part}
use Rattle.ftp_tree_nodes.proofs.BranchLemmas.{at-name, file-names, name_total, names-top}
use Rattle.ftp_tree.proofs.MapLemmas.{under-stands}
use Rattle.ftp_tree_nodes.proofs.NameLemmas.{after-before, less-from}
use Rattle.ftp_tree.proofs.RowLemmas.{names-below, none-named}
use Rattle.std.specs.FinMap as fin

module _ (shown : Option Map → Option (ℕ × ℕ)) where
  -- a name and what stands by it
  abbrev row : List ℕ → Option Map → List ℕ × Option (ℕ × ℕ)
  row name stands = (name, shown stands)

  -- a part whose name comes before them hides none of some names
  past-first : (e : NamedMap) (es xs : List NamedMap) → below_all name_cmp e.0 xs ≡ true
      → map (λ name. row name (find name_cmp name (e ∷ es))) (map (λ p. p.0) xs) ≡ map (λ name. row name (find name_cmp name es)) (map (λ p. p.0) xs)
  past-first e es [] below = refl
  past-first e es (x ∷ xs) below =
      let both = and_parts (is_lt (name_cmp e.0 x.0)) (below_all name_cmp e.0 xs) below in
      let first = ap (λ r. cond (is_eq r) (Some e.1) (find name_cmp x.0 es)) (after-before e.0 x.0 (less-from (name_cmp e.0 x.0) both.0)) in
      λ i. row x.0 (first i) ∷ past-first e es xs both.1 i

  -- each part is what stands by its name
  each-part : (ps : List NamedMap) → is_sorted name_cmp ps ≡ true → map (λ name. row name (find name_cmp name ps)) (map (λ p. p.0) ps) ≡ map (λ p. row p.0 (Some p.1)) ps
  each-part [] sorted = refl
  each-part (e ∷ es) sorted =
      let both = and_parts (below_all name_cmp e.0 es) (is_sorted name_cmp es) sorted in
      let first = ap (λ r. cond (is_eq r) (Some e.1) (find name_cmp e.0 es)) (tied_itself name_total e.0) in
      let others = past-first e es es both.0 ∙ each-part es both.1 in
      λ i. row e.0 (first i) ∷ others i

-- a name, and what a directory shows there
abbrev shown_by : Map → List ℕ → List ℕ × Option (ℕ × ℕ)
shown_by table name = (name, of_node shown_of (node_at table (name ∷ [])))

abbrev shown_with : List ℕ → Option Node → List ℕ × Option (ℕ × ℕ)
shown_with name node = (name, of_node shown_of node)

-- a directory shows each of its parts
pub entries-top : (ps : List NamedMap) (nodes octets : ℕ) → IsDirectory ps nodes octets → entries_at (parts_table ps) [] ≡ map shown_part ps
unfolding entries_at
entries-top ps nodes octets here =
    ap (map (shown_by (parts_table ps))) (names-top ps nodes octets here)
    ∙ (λ i. map (λ name. shown_with name (at-name ps here.sorted name [] i)) (map (λ p. p.0) ps))
    ∙ each-part (λ part. of_node shown_of (node_at (found part) [])) ps here.sorted

-- a file shows nothing
pub entries-file : (octets : List ℕ) (moment : ℕ) → entries_at (file_alone octets moment) [] ≡ []
unfolding entries_at
entries-file octets moment = ap (map (shown_by (file_alone octets moment))) (file-names octets moment)

-- what the directory at a path of a part shows is what the part there shows at its top
pub entries-below : (table : Map) (root path : Names) → entries_at (under table (root ++ path)) [] ≡ entries_at (under table root) path
unfolding entries_at
entries-below table root path =
    ap (map (shown_by (under table (root ++ path)))) (names-below table root path)
    ∙ (λ i. map (λ name. shown_with name (here name i)) (children (under table root) path))
  where
    here : (name : List ℕ) → node_at (under table (root ++ path)) (name ∷ []) ≡ node_at (under table root) (path ++ name ∷ [])
    here name =
        under-stands table (root ++ path) (name ∷ []) ∙ ap (node_at table) (append_assoc root path (name ∷ []))
        ∙ sym (under-stands table root (path ++ name ∷ []))

-- where nothing stands, nothing is shown
pub entries-none : (path : Names) → entries_at fin.empty path ≡ []
unfolding entries_at
entries-none path = ap (map (λ name. shown_with name (node_at fin.empty (path ++ name ∷ [])))) (none-named path)
