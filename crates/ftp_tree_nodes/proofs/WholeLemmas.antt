-- What a change of the part below a root, which nothing refuses, makes of the whole.
use Rattle.std.proofs.Common.{ℕ, ◌-◌, ◌≤◌, ◌≡◌, ◌⊎◌, inl, inr, Bool, true, false, not, cond, Option, Some, None, IfSome, is_some, IsSome, List, [], ◌∷◌, ◌++◌, length, drop, refl, sym, ap, ◌∙◌, subst, ◌&&◌, ◌||◌}
use Rattle.std.proofs.lemmas.Bool.{true≢false}
use Rattle.ftp_path.specs.Path.{Names, is_within, parent, path_cmp, fits, text_limit}
use Rattle.ftp_path.proofs.PathLemmas.{parent-last}
use Rattle.ftp_tree.specs.Map.{Node, Dir, File}
use Rattle.ftp_tree.specs.Tree.{Table, IsTree, children, node_at, under, with_part, made, removed, installed, root_within, file_refusal, delete_refusal, remove_answer, remove_refusal, room_answer, room_refusal, install_refusal, moves_fit}
use Rattle.std.specs.Prelude.{map}
use Rattle.std.specs.List.{list_all}
use Rattle.ftp_path.specs.Kept.{names_of}
use Rattle.ftp_tree.specs.Text.{is_within_room, IsPlace}
use Rattle.ftp_tree.specs.Rows.{Rows, all_moves_fit, rows_within}
use Rattle.ftp_tree.proofs.UnderLemmas.{entries-under, moves_fit-under, children-under, insert-under, remove-under}
use Rattle.ftp_tree.proofs.RowLemmas.{part_rows, no-entries}
use Rattle.ftp_tree_nodes.proofs.BranchLemmas.{same-tests}
use Rattle.ftp_tree.proofs.KeepLaws.{alone, is-dir, IsTree-insert, IsTree-remove, nothing}
use Rattle.ftp_tree.proofs.LawLemmas.{parent-append, under-stands}
use Rattle.ftp_tree.proofs.TableLemmas.{both-none}
use Rattle.ftp_tree.proofs.LeafLemmas.{IsLeaf, none-absent, none-empty, none-file, put-leaf, take-leaf}
use Rattle.ftp_tree.proofs.TextLemmas.{fits-room}
use Rattle.std.specs.FinMap as fin
use Rattle.ftp_tree.specs.Map as maps

-- ---- what each change keeps

-- the whole is a tree as before, and is this map
pub record Keeps (new table : Table) : Type 0 where
  pub tree : IsTree new
  pub is : new ≡ table

pub no-dir : (octets : List ℕ) (moment : ℕ) → ◌≡◌ {A = Option Node} (Some (File octets moment)) (Some Dir) → ⊥
no-dir octets moment e = cc

pub absent-dir : ◌≡◌ {A = Option Node} None (Some Dir) → ⊥
absent-dir e = cc

-- where nothing is and a directory is above
record IsFree (table : Table) (root path : Names) : Type 0 where
  absent : node_at table (root ++ path) ≡ None
  above : node_at table (parent (root ++ path)) ≡ Some Dir

pub parent-none : parent [] ≡ []
unfolding parent
parent-none = refl

free-from : (table : Table) (root path : Names) → node_at (under table root) path ≡ None → node_at (under table root) (parent path) ≡ Some Dir → IsFree table root path
free-from table root [] none dir = absurd (absent-dir (sym none ∙ ap (node_at (under table root)) (sym parent-none) ∙ dir))
free-from table root (name ∷ rest) none dir =
    record {
      absent = sym (under-stands table root (name ∷ rest)) ∙ none;
      above = ap (node_at table) (parent-append root name rest) ∙ sym (under-stands table root (parent (name ∷ rest))) ∙ dir;
    }

pub made-at : (table new : Table) (root path names : Names) → IsTree table → node_at (under table root) path ≡ None → node_at (under table root) (parent path) ≡ Some Dir → names ≡ root ++ path
    → new ≡ with_part table names (root_within table.limits) → Keeps new (with_part table root (made (under table root) path))
unfolding made root_within maps.root_alone
made-at table new root path names tree none dir named is =
    let free = free-from table root path none dir in
    let put = is ∙ ap (λ p. with_part table p (alone table.limits Dir)) named ∙ put-leaf table (root ++ path) Dir (none-absent table (root ++ path) tree free.absent) in
    record {
      tree = subst IsTree (sym put) (IsTree-insert table (root ++ path) Dir tree free.above (λ _. refl));
      is = put ∙ sym (insert-under table root path Dir);
    }

-- where a file can be put
record IsOpen (table : Table) (root path : Names) : Type 0 where
  leaf : IsLeaf table (root ++ path)
  above : node_at table (parent (root ++ path)) ≡ Some Dir
  other : node_at table (root ++ path) ≡ Some Dir → ⊥

open-from : (table : Table) (root path : Names) (node : Option Node) → IsTree table → node_at (under table root) path ≡ node → room_answer node (under table root) path ≡ None → IsOpen table root path
open-from table root path None tree there none =
    let place = both-none _ _ (both-none _ _ none).0 in
    let free = free-from table root path there (is-dir _ place.0) in
    record { leaf = none-absent table (root ++ path) tree free.absent; above = free.above; other = λ dir. absent-dir (sym free.absent ∙ dir) }
open-from table root path (Some Dir) tree there none = cc
open-from table root path (Some (File octets moment)) tree there none =
    let file = sym (under-stands table root path) ∙ there in
    record {
      leaf = none-file table (root ++ path) octets moment tree file;
      above = tree.parents (root ++ path) (ap is_some file);
      other = λ dir. no-dir octets moment (sym file ∙ dir);
    }

pub installed-at : (table new : Table) (root path names : Names) (octets : List ℕ) (moment : ℕ) → IsTree table → install_refusal (under table root) path (length octets) ≡ None → names ≡ root ++ path
    → new ≡ with_part table names (alone table.limits (File octets moment)) → Keeps new (with_part table root (installed (under table root) path octets moment))
unfolding install_refusal room_refusal installed
installed-at table new root path names octets moment tree none named is =
    let free = open-from table root path (node_at (under table root) path) tree refl (both-none _ _ none).0 in
    let put = is ∙ ap (λ p. with_part table p (alone table.limits (File octets moment))) named ∙ put-leaf table (root ++ path) (File octets moment) free.leaf in
    record {
      tree = subst IsTree (sym put) (IsTree-insert table (root ++ path) (File octets moment) tree free.above (λ dir. absurd (free.other dir)));
      is = put ∙ sym (insert-under table root path (File octets moment));
    }

-- what can be taken away
pub record IsLoose (table : Table) (path : Names) : Type 0 where
  pub leaf : IsLeaf table path
  pub some : path ≡ [] → ⊥

loose-file : (table : Table) (root path : Names) (node : Option Node) → IsTree table → node_at (under table root) path ≡ node → file_refusal node ≡ None → IsLoose table (root ++ path)
loose-file table root path None tree there none = cc
loose-file table root path (Some Dir) tree there none = cc
loose-file table root path (Some (File octets moment)) tree there none =
    let file = sym (under-stands table root path) ∙ there in
    record {
      leaf = none-file table (root ++ path) octets moment tree file;
      some = λ top. no-dir octets moment (sym file ∙ ap (node_at table) top ∙ tree.root);
    }

loose-dir : (table : Table) (root path : Names) (node : Option Node) (names : List (List ℕ)) → IsTree table → names ≡ children (under table root) path → remove_answer node names path ≡ None → IsLoose table (root ++ path)
loose-dir table root path None names tree are none = cc
loose-dir table root path (Some (File octets moment)) names tree are none = cc
loose-dir table root path (Some Dir) (name ∷ names) tree are none = cc
loose-dir table root [] (Some Dir) [] tree are none = cc
loose-dir table root (name ∷ rest) (Some Dir) [] tree are none =
    record {
      leaf = none-empty table (root ++ name ∷ rest) tree (sym (children-under table root (name ∷ rest)) ∙ sym are);
      some = λ top. by root top;
    }
  where
    by : (root : Names) → root ++ name ∷ rest ≡ [] → ⊥
    by [] top = cc
    by (first ∷ root) top = cc

pub loose-from : (table : Table) (root path : Names) → IsTree table → (delete_refusal (under table root) path ≡ None) ⊎ (remove_refusal (under table root) path ≡ None) → IsLoose table (root ++ path)
unfolding delete_refusal remove_refusal
loose-from table root path tree (inl free) = loose-file table root path (node_at (under table root) path) tree refl free
loose-from table root path tree (inr free) = loose-dir table root path (node_at (under table root) path) (children (under table root) path) tree refl free

pub removed-at : (table new : Table) (root path names : Names) → IsTree table → (delete_refusal (under table root) path ≡ None) ⊎ (remove_refusal (under table root) path ≡ None) → names ≡ root ++ path
    → new ≡ with_part table names (nothing table.limits) → Keeps new (with_part table root (removed (under table root) path))
unfolding removed
removed-at table new root path names tree none named is =
    let loose = loose-from table root path tree none in
    let taken = is ∙ ap (λ p. with_part table p (nothing table.limits)) named ∙ take-leaf table (root ++ path) loose.leaf in
    record {
      tree = subst IsTree (sym taken) (IsTree-remove table (root ++ path) tree loose.some (λ other some not_root up. below loose.leaf other some not_root up));
      is = taken ∙ sym (remove-under table root path);
    }
  where
    below : IsLeaf table (root ++ path) → (other : Names) → IsSome (node_at table other) → (other ≡ [] → ⊥) → parent other ≡ root ++ path → ⊥
    below leaf [] some not_root up = not_root refl
    below leaf (name ∷ rest) some not_root up =
        let last = parent-last name rest in
        true≢false (sym some ∙ ap (λ p. is_some (node_at table p)) (last.1 ∙ ap (λ p. p ++ last.0 ∷ []) up) ∙ ap is_some (leaf last.0 []))

-- what is so of a value is another thing that is so of it
pub some_as : {T : Type 0} (found : Option T) (P Q : T → Type 0) → ((x : T) → P x → Q x) → IfSome found P → IfSome found Q
some_as None P Q then is = tt
some_as (Some x) P Q then is = then x is

-- ---- texts of what is moved

-- all that is moved fits where the texts below fit into what the new path leaves
moves-rows : (above to : Names) (es : Rows) → all_moves_fit above to es ≡ list_all (λ q. fits (to ++ q)) (map (λ (e : Names × Node). e.0) (part_rows above es))
unfolding part_rows
moves-rows above to [] = refl
moves-rows above to (e ∷ es) =
    elim (is_within above e.0) as (λ b. ((not b || fits (to ++ drop (length above) e.0)) && all_moves_fit above to es) ≡ list_all (λ q. fits (to ++ q)) (map (λ (e : Names × Node). e.0) (map (λ (e : Names × Node). (drop (length above) e.0, e.1)) (cond b (e ∷ rows_within above es) (rows_within above es))))) [
      | true ↦ ap (λ b. fits (to ++ drop (length above) e.0) && b) (moves-rows above to es)
      | false ↦ moves-rows above to es
    ]

pub moves-below : (table : Table) (root from to : Names) → list_all (λ q. fits (to ++ q)) (fin.keys (under table (root ++ from)).map) ≡ moves_fit (under table root) from to
moves-below table root from to =
    sym (moves_fit-under table root from to ∙ moves-rows (root ++ from) to (fin.entries table.map)
    ∙ ap (λ (l : Rows). list_all (λ q. fits (to ++ q)) (map (λ (e : Names × Node). e.0) l)) (sym (entries-under table (root ++ from))))

pub moves-room : (table : Table) (root from to : Names) (text : List ℕ) → IsPlace text → names_of text ≡ to → length text ≤ text_limit
    → list_all (is_within_room (text_limit - length text)) (fin.keys (under table (root ++ from)).map) ≡ moves_fit (under table root) from to
moves-room table root from to text place named short =
    same-tests (is_within_room (text_limit - length text)) (λ q. fits (names_of text ++ q)) (λ q. sym (fits-room text q place short)) (fin.keys (under table (root ++ from)).map)
    ∙ ap (λ names. list_all (λ q. fits (names ++ q)) (fin.keys (under table (root ++ from)).map)) named ∙ moves-below table root from to

pub empty-keys : (f : Names → Bool) → list_all f (fin.keys (fin.empty {K = Names} {X = Node} {R = path_cmp})) ≡ true
empty-keys f = ap (λ (l : Rows). list_all f (map (λ (e : Names × Node). e.0) l)) no-entries
