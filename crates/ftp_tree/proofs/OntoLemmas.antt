-- A file in the place of another: what is freed for it is free, and nothing refuses the move.
use Rattle.std.proofs.Common.{◌≡◌, ◌≤◌, Bool, true, false, not, ◌||◌, cond, Option, Some, None, is_some, [], ◌∷◌, ◌++◌, length, drop, refl, sym, ap, ◌∙◌, subst, arith}
use Rattle.std.specs.Prelude.{map}
use Rattle.std.specs.List.{AllByRecursion, list_all}
use Rattle.std.specs.Option.{unwrap_or}
use Rattle.std.specs.FinMap.Entries.{find}
use Rattle.std.specs.Ordering.{eq_by_cmp}
use Rattle.std.proofs.lemmas.Bool.{and_from, and_parts, cond-true, cond-false, true≢false}
use Rattle.std.proofs.lemmas.List.{append-nil}
use Rattle.ftp_path.specs.Path.{Names, fits, is_name, is_within, moved_path, parent, path_cmp}
use Rattle.ftp_path.proofs.KeyLemmas.{within-parts}
use Rattle.ftp_tree.specs.Laws.{MovesAll, OntoMovesAll}
use Rattle.ftp_tree.specs.Sound.{IsSoundTable, IsSoundTree, is_sound_entry, is_sound_node}
use Rattle.ftp_tree.specs.Rows.{Rows}
use Rattle.ftp_tree.specs.Map.{Node, Dir, File, octets_of, of_node}
use Rattle.ftp_tree.specs.Tree.{IsTree, Table, delete_refusal, directory_refusal, file_refusal, freed, moved, moves_fit, node_at, octets_at, octets_or_none, onto_refusal, or_else, removed, rename_refusal, source_answer, source_refusal, takes_place, target_refusal, under, whenever}
use Rattle.ftp_tree.specs.declared.fault.TreeFault.{TreeFault}
use Rattle.ftp_tree.specs.declared.fault.TreeFault.TheVariants.{Exists, TooBig, WrongKind}
use Rattle.ftp_tree.proofs.KeepLaws.{at-remove, beside-other, by-freed, file-below, file-stands, nothing, onto-takes, root-inside, takes-freed, takes-parts, vacant}
use Rattle.ftp_tree.proofs.LawLemmas.{each-found, get-node, moves-where, under-stands}
use Rattle.ftp_tree.proofs.MapLemmas.{same}
use Rattle.ftp_tree.proofs.LeafLemmas.{IsLeaf, none-file, outside, root-dir, take-leaf}
use Rattle.ftp_tree.proofs.PartLemmas.{parts-trees}
use Rattle.ftp_tree.proofs.SoundLemmas.{sound-empty, sound-part}
use Rattle.std.specs.FinMap as fin

-- ---- what is refused of no file that is moved onto another

-- two reasons of which neither applies
both-of : (first second : Option TreeFault) → first ≡ None → second ≡ None → or_else first second ≡ None
both-of first second none one = ap (λ f. or_else f second) none ∙ one

source-of : (node : Option Node) (path : Names) → is_some node ≡ true → (path ≡ [] → ⊥) → source_answer node path ≡ None
source-of None path some below = absurd (true≢false (sym some))
source-of (Some node) [] some below = absurd (below refl)
source-of (Some node) (name ∷ rest) some below = refl

-- nothing stands below a file
file-leaf : (table : Table) (path : Names) (node : Option Node) → IsTree table → node_at table path ≡ node → file_refusal node ≡ None → IsLeaf table path
file-leaf table path None tree there none = cc
file-leaf table path (Some Dir) tree there none = cc
file-leaf table path (Some (File octets moment)) tree there none = none-file table path octets moment tree there

-- another path is as before
removed-node : (table : Table) (path other : Names) → eq_by_cmp path_cmp other path ≡ false → node_at (removed table path) other ≡ node_at table other
unfolding removed
removed-node table path other apart = at-remove table path other ∙ cond-false (eq_by_cmp path_cmp other path) None (node_at table other) apart

all-keys : (f : Names → Bool) (es : Rows) → AllByRecursion (λ e. f e.0 ≡ true) es → list_all f (map (λ e. e.0) es) ≡ true
all-keys f [] all = refl
all-keys f (e ∷ es) all = and_from (f e.0) (list_all f (map (λ e. e.0) es)) all.0 (all-keys f es all.1)

goes : (from to path : Names) → is_within from path ≡ true → moved_path from to path ≡ to ++ drop (length from) path
unfolding moved_path
goes from to path inside = cond-true (is_within from path) (to ++ drop (length from) path) path inside

-- a path that has nothing below it is moved alone, and fits where the new path does
leaf-fits : (table : Table) (from to : Names) → IsLeaf table from → fits to ≡ true → moves_fit table from to ≡ true
unfolding moves_fit
leaf-fits table from to leaf fit =
    all-keys (λ path. not (is_within from path) || fits (moved_path from to path)) (fin.entries table.map)
    (each-found (λ path. (not (is_within from path) || fits (moved_path from to path)) ≡ true) (fin.entries table.map) (λ path found. by path (ap is_some (sym
    (get-node table path)) ∙ found)))
  where
    within : (path rest : Names) → path ≡ from ++ rest → is_some (node_at table path) ≡ true → fits (to ++ rest) ≡ true
    within path [] is some = ap fits (append-nil to) ∙ fit
    within path (name ∷ rest) is some = absurd (true≢false (sym some ∙ ap (λ p. is_some (node_at table p)) is ∙ ap is_some (leaf name rest)))

    by : (path : Names) → is_some (node_at table path) ≡ true → (not (is_within from path) || fits (moved_path from to path)) ≡ true
    by path some =
        elim (is_within from path) as (λ b. is_within from path ≡ b → (not b || fits (moved_path from to path)) ≡ true) [
          | true ↦ λ inside. ap fits (goes from to path inside) ∙ within path (drop (length from) path) (within-parts from path inside) some
          | false ↦ λ _. refl
        ] refl

-- A file that takes the place of another is refused nothing once that is gone, if the path of the other is within the limits.
pub free-onto : (table : Table) (from to : Names) → IsTree table → fits to ≡ true → takes_place table from to ≡ true
    → rename_refusal (removed table to) from to ≡ None
unfolding rename_refusal source_refusal target_refusal
free-onto table from to tree fit takes =
    let parts = takes-parts table from to takes in
    let free = vacant table to tree parts.target in
    let new = removed table to in
    let same : node_at new from ≡ node_at table from = removed-node table to from (ap (λ p. eq_by_cmp path_cmp p to) (sym (append-nil from))
    ∙ beside-other from to [] parts.beside) in
    let leaf = file-leaf new from (node_at new from) free.tree refl (ap file_refusal same ∙ parts.source) in
    both-of (source_answer (node_at new from) from) _ (source-of (node_at new from) from (ap is_some same
    ∙ file-stands (node_at table from) parts.source) (file-below table from tree parts.source))
    (both-of (whenever (is_some (node_at new to)) Exists) _ (ap (λ node. whenever (is_some node) Exists) free.absent)
    (both-of (whenever (is_within from to) WrongKind) _ (ap (λ b. whenever b WrongKind) parts.beside)
    (both-of (directory_refusal (node_at new (parent to))) _ (ap directory_refusal free.above)
    (ap (λ b. whenever (not b) TooBig) (leaf-fits new from to leaf fit)))))

pub free-freed : (table : Table) (from to : Names) → IsTree table → fits to ≡ true → takes_place table from to ≡ true
    → rename_refusal (freed true table from to) from to ≡ None
free-freed table from to tree fit takes = ap (λ t. rename_refusal t from to) (takes-freed table from to takes) ∙ free-onto table from to tree fit takes

-- ---- the same below a root

-- where files stand below a root, one of them not at it, the part there is a tree
pub part-tree : (table : Table) (root from to : Names) → IsTree table → takes_place (under table root) from to ≡ true → IsTree (under table root)
part-tree table root from to tree takes =
    let parts = takes-parts (under table root) from to takes in
    let some : from ≡ [] → ⊥ = λ none. true≢false (sym (root-inside to) ∙ ap (λ p. is_within p to) (sym none) ∙ parts.beside) in
    parts-trees.taking table root tree (root-dir table root from tree some (ap is_some (sym (under-stands table root from))
    ∙ file-stands (node_at (under table root) from) parts.source))

pub onto-loose : (table : Table) (from to : Names) → onto_refusal table from to ≡ None → delete_refusal table to ≡ None
unfolding delete_refusal
onto-loose table from to none = (takes-parts table from to (onto-takes table from to none)).target

pub onto-free : (table : Table) (root from to : Names) → IsTree table → fits to ≡ true → onto_refusal (under table root) from to ≡ None
    → rename_refusal (removed (under table root) to) from to ≡ None
onto-free table root from to tree fit none =
    let takes = onto-takes (under table root) from to none in
    free-onto (under table root) from to (part-tree table root from to tree takes) fit takes

-- ---- what is moved onto a file

pub onto-moves : OntoMovesAll
onto-moves table from to tree none =
    let takes = onto-takes table from to none in
    let parts = takes-parts table from to takes in
    let free = vacant table to tree parts.target in
    let all = moves-where (removed table to) from to free.tree (ap is_some free.absent) parts.beside in
    subst (λ t. MovesAll table (moved t from to) from to) (sym (takes-freed table from to takes))
    (record {
      comes = λ rest. all.comes rest ∙ removed-node table to (from ++ rest) (beside-other from to rest parts.beside);
      goes = all.goes;
      stays = λ path out_from out_to. all.stays path out_from out_to ∙ removed-node table to path (outside to path out_to);
    })

-- ---- what stands stays sound

-- the names of a path at which something stands are names
named-found : (path : Names) (rows : Rows) → list_all is_sound_entry rows ≡ true → is_some (find path_cmp path rows) ≡ true → list_all is_name path ≡ true
named-found path [] all some = absurd (true≢false (sym some))
named-found path (row ∷ rows) all some =
    let both = and_parts (is_sound_entry row) (list_all is_sound_entry rows) all in
    elim (eq_by_cmp path_cmp path row.0) as (λ b. eq_by_cmp path_cmp path row.0 ≡ b → is_some (cond b (Some row.1) (find path_cmp path rows)) ≡ true
    → list_all is_name path ≡ true) [
      | true ↦ λ equal _. ap (list_all is_name) (same path row.0 equal) ∙ (and_parts (list_all is_name row.0) (is_sound_node row.1) both.0).0
      | false ↦ λ _ some. named-found path rows both.1 some
    ] refl some

pub freed-sound : (onto : Bool) (table : Table) (from to : Names) → IsSoundTree table → IsSoundTree (freed onto table from to)
unfolding removed
freed-sound onto table from to sound =
    by-freed IsSoundTree onto table from to sound (λ takes.
    let target = (takes-parts table from to takes).target in
    let named = named-found to (fin.entries table.map) sound.entries (ap is_some (get-node table to) ∙ file-stands (node_at table to) target) in
    record {
      tree = (vacant table to sound.tree target).tree;
      entries = subst IsSoundTable (take-leaf table to (file-leaf table to (node_at table to) sound.tree refl target))
          (sound-part table to (nothing table.limits) named sound.entries sound-empty);
    })

-- no file gets longer
pub freed-octets : (onto : Bool) (table : Table) (from to path : Names)
    → length (octets_or_none (freed onto table from to) path) ≤ length (octets_or_none table path)
unfolding removed octets_or_none octets_at
freed-octets onto table from to path =
    by-freed (λ t. length (octets_or_none t path) ≤ length (octets_or_none table path)) onto table from to (omega arith) (λ _.
    elim (eq_by_cmp path_cmp path to) as (λ b. eq_by_cmp path_cmp path to ≡ b
    → length (octets_or_none (removed table to) path) ≤ length (octets_or_none table path)) [
      | true ↦ λ equal.
          let none : octets_or_none (removed table to) path ≡ [] = ap (λ node. unwrap_or (of_node octets_of node) []) (at-remove table to path
          ∙ cond-true (eq_by_cmp path_cmp path to) None (node_at table path) equal) in
          let count = ap length none in omega (arith, count)
      | false ↦ λ other.
          let kept : octets_or_none (removed table to) path ≡ octets_or_none table path = ap (λ node. unwrap_or (of_node octets_of node) [])
          (removed-node table to path other) in
          let count = ap length kept in omega (arith, count)
    ] refl)
