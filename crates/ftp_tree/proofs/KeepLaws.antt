-- Each change that is not refused keeps a tree one.
use Rattle.std.proofs.Common.{ℕ, ◌-◌, ◌<◌, ◌≡◌, Bool, true, false, not, ◌&&◌, cond, Option, Some, None, IsSome, is_some, is_none, List, [], ◌∷◌, ◌++◌, length, drop, refl, sym, ap, ◌∙◌, subst, arith}
use Rattle.std.specs.List.{Contains}
use Rattle.std.specs.Cmp.{tied_itself}
use Rattle.std.specs.Ordering.{eq_by_cmp, is_eq}
use Rattle.std.proofs.lemmas.Bool.{and_parts, cond-true, cond-false, true≢false}
use Rattle.std.proofs.lemmas.List.{append-nil, append_assoc, length-append, length-take}
use Rattle.ftp_path.specs.Path.{parent, Names, path_cmp, is_within}
use Rattle.ftp_tree.specs.declared.limits.Limits.{Limits}
use Rattle.ftp_tree.specs.Map.{Node, Dir, File}
use Rattle.ftp_tree.specs.Tree.{Table, default_limits, node_at, children, root_alone, root_within, made, removed, installed, moved, IsTree, whenever, freed, takes_place, onto_refusal, directory_refusal, place_refusal, nodes_refusal, make_refusal, file_refusal, delete_refusal, empty_refusal, remove_answer, remove_refusal, source_answer, source_refusal, rename_refusal, room_answer, room_refusal, octets_refusal, install_refusal}
use Rattle.ftp_tree.specs.declared.fault.TreeFault.{TreeFault}
use Rattle.ftp_tree.specs.declared.fault.TreeFault.TheVariants.{Exists, WrongKind}
use Rattle.ftp_tree.specs.Laws.{ChangesKeepTrees, MovesAll}
use Rattle.ftp_path.proofs.PathLemmas.{parent-last}
use Rattle.ftp_tree.proofs.EntryLemmas.{path_total}
use Rattle.ftp_path.proofs.KeyLemmas.{within-parts, within-append}
use Rattle.ftp_tree.proofs.TableLemmas.{both-none, held}
use Rattle.ftp_tree.proofs.MapLemmas.{same, false-where}
use Rattle.ftp_tree.proofs.LawLemmas.{parent-append, target-parts, moves-where, children-stand}
use Rattle.std.specs.FinMap as fin
use Rattle.ftp_tree.specs.Map as maps
use Rattle.ftp_tree.proofs.MapLemmas as on_map

-- a table with a node at a path, and without what stands there
abbrev pub with_node : Table → Names → Node → Table
with_node table path node = record table { map = fin.insert table.map path node }

abbrev pub but_node : Table → Names → Table
but_node table path = record table { map = fin.remove table.map path }

pub at-insert : (table : Table) (path : Names) (node : Node) (other : Names) → node_at (with_node table path node) other ≡ cond (eq_by_cmp path_cmp other path) (Some node) (node_at table other)
unfolding node_at
at-insert table path node other = on_map.at-insert table.map path node other

pub at-remove : (table : Table) (path other : Names) → node_at (but_node table path) other ≡ cond (eq_by_cmp path_cmp other path) None (node_at table other)
unfolding node_at
at-remove table path other = on_map.at-remove table.map path other

-- a node alone, and nothing at all, within some limits
abbrev pub alone : Limits → Node → Table
alone limits node = record { limits = limits; map = fin.insert fin.empty [] node }

abbrev pub nothing : Limits → Table
nothing limits = record { limits = limits; map = fin.empty }

pub nothing-at : (limits : Limits) (path : Names) → node_at (nothing limits) path ≡ None
unfolding node_at
nothing-at limits path = on_map.empty-at path

parent-none : parent [] ≡ []
unfolding parent
parent-none = refl

pub parent-shorter : (name : List ℕ) (names : Names) → length (parent (name ∷ names)) < length (name ∷ names)
unfolding parent
parent-shorter name names = omega (arith, length-take (length (name ∷ names) - 1) (name ∷ names))

pub is-dir : (node : Option Node) → directory_refusal node ≡ None → node ≡ Some Dir
is-dir None none = cc
is-dir (Some Dir) none = refl
is-dir (Some (File octets moment)) none = cc

-- a node that comes below a directory, and in the place of no directory unless it is one
pub IsTree-insert : (table : Table) (path : Names) (node : Node) → IsTree table → node_at table (parent path) ≡ Some Dir → (node_at table path ≡ Some Dir → node ≡ Dir) → IsTree (with_node table path node)
IsTree-insert table path node tree above keeps =
    record {
      root = at-insert table path node [] ∙ put [] tree.root;
      parents = λ other some. at-insert table path node (parent other) ∙ put (parent other) (up other some);
    }
  where
    put : (other : Names) → node_at table other ≡ Some Dir → cond (eq_by_cmp path_cmp other path) (Some node) (node_at table other) ≡ Some Dir
    put other stands =
        elim (eq_by_cmp path_cmp other path) as (λ b. eq_by_cmp path_cmp other path ≡ b → cond b (Some node) (node_at table other) ≡ Some Dir) [
          | true ↦ λ equal. ap Some (keeps (ap (node_at table) (sym (same other path equal)) ∙ stands))
          | false ↦ λ other_path. stands
        ] refl

    up : (other : Names) → IsSome (node_at (with_node table path node) other) → node_at table (parent other) ≡ Some Dir
    up other some =
        elim (eq_by_cmp path_cmp other path) as (λ b. eq_by_cmp path_cmp other path ≡ b → node_at table (parent other) ≡ Some Dir) [
          | true ↦ λ equal. ap (λ p. node_at table (parent p)) (same other path equal) ∙ above
          | false ↦ λ other_path. tree.parents other (subst (λ o. IsSome o) (at-insert table path node other ∙ cond-false (eq_by_cmp path_cmp other path) _ _ other_path) some)
        ] refl

-- a node that is not the root and has nothing below it goes
pub IsTree-remove : (table : Table) (path : Names) → IsTree table → (path ≡ [] → ⊥) → ((other : Names) → IsSome (node_at table other) → (other ≡ [] → ⊥) → parent other ≡ path → ⊥) → IsTree (but_node table path)
IsTree-remove table path tree not_root none_below =
    record {
      root = at-remove table path [] ∙ cond-false (eq_by_cmp path_cmp [] path) None (node_at table []) (false-where _ (λ equal. not_root (sym (same [] path equal)))) ∙ tree.root;
      parents = λ other some. up other some;
    }
  where
    stood : (other : Names) → IsSome (node_at (but_node table path) other) → IsSome (node_at table other)
    stood other some =
        elim (eq_by_cmp path_cmp other path) as (λ b. eq_by_cmp path_cmp other path ≡ b → IsSome (node_at table other)) [
          | true ↦ λ equal. absurd (true≢false (sym (ap is_some (sym (at-remove table path other ∙ cond-true (eq_by_cmp path_cmp other path) None (node_at table other) equal)) ∙ some)))
          | false ↦ λ other_path. subst (λ o. IsSome o) (at-remove table path other ∙ cond-false (eq_by_cmp path_cmp other path) None (node_at table other) other_path) some
        ] refl

    up : (other : Names) → IsSome (node_at (but_node table path) other) → node_at (but_node table path) (parent other) ≡ Some Dir
    up [] some =
        ap (node_at (but_node table path)) parent-none ∙ at-remove table path [] ∙ cond-false (eq_by_cmp path_cmp [] path) None (node_at table []) (false-where _ (λ equal. not_root (sym (same [] path equal)))) ∙ tree.root
    up (name ∷ names) some =
        let there = stood (name ∷ names) some in
        at-remove table path (parent (name ∷ names))
        ∙ cond-false (eq_by_cmp path_cmp (parent (name ∷ names)) path) None (node_at table (parent (name ∷ names)))
        (false-where _ (λ equal. none_below (name ∷ names) there (λ e. cc) (same (parent (name ∷ names)) path equal)))
        ∙ tree.parents (name ∷ names) there

pub at-root_within : (limits : Limits) (path : Names) → node_at (root_within limits) path ≡ cond (eq_by_cmp path_cmp path []) (Some Dir) None
unfolding node_at maps.node_at root_within maps.root_alone
at-root_within limits path = fin.get-insert path_total fin.empty [] Dir path ∙ ap (cond (eq_by_cmp path_cmp path []) (Some Dir)) (fin.get-empty path_cmp path)

pub at-root_alone : (path : Names) → node_at root_alone path ≡ cond (eq_by_cmp path_cmp path []) (Some Dir) None
unfolding root_alone
at-root_alone path = at-root_within default_limits path

pub within-tree : (limits : Limits) → IsTree (root_within limits)
within-tree limits =
    record {
      root = at-root_within limits [];
      parents = λ path some. up path (subst (λ o. IsSome o) (at-root_within limits path) some);
    }
  where
    up : (path : Names) → IsSome (cond (eq_by_cmp path_cmp path []) (Some Dir) None) → node_at (root_within limits) (parent path) ≡ Some Dir
    up [] some = ap (node_at (root_within limits)) parent-none ∙ at-root_within limits []
    up (name ∷ names) some = absurd (true≢false (sym some))

pub root-tree : IsTree root_alone
unfolding root_alone
root-tree = within-tree default_limits

keeps-made : (table : Table) (path : Names) → IsTree table → make_refusal table path ≡ None → IsTree (made table path)
unfolding make_refusal made
keeps-made table path tree none =
    let parts = both-none (whenever (is_some (node_at table path)) Exists) _ none in
    let place = both-none (place_refusal table path) (nodes_refusal table) parts.1 in
    let above = both-none (directory_refusal (node_at table (parent path))) _ place.0 in
    IsTree-insert table path Dir tree (is-dir (node_at table (parent path)) above.0) (λ _. refl)

room-parts : (table : Table) (path : Names) (node : Option Node) → IsTree table → node_at table path ≡ node → room_answer node table path ≡ None → (node_at table (parent path) ≡ Some Dir) × (node_at table path ≡ Some Dir → ⊥)
room-parts table path None tree there none =
    let place = both-none (place_refusal table path) (nodes_refusal table) none in
    let above = both-none (directory_refusal (node_at table (parent path))) _ place.0 in
    (is-dir (node_at table (parent path)) above.0, λ dir. true≢false (ap is_some (sym dir ∙ there)))
room-parts table path (Some Dir) tree there none = cc
room-parts table path (Some (File octets moment)) tree there none =
    (tree.parents path (ap is_some there), λ dir. files (sym dir ∙ there))
  where
    files : ◌≡◌ {A = Option Node} (Some Dir) (Some (File octets moment)) → ⊥
    files e = cc

keeps-installed : (table : Table) (path : Names) (octets : List ℕ) (moment : ℕ) → IsTree table → install_refusal table path (length octets) ≡ None → IsTree (installed table path octets moment)
unfolding install_refusal room_refusal installed
keeps-installed table path octets moment tree none =
    let parts = both-none (room_answer (node_at table path) table path) (octets_refusal table path (length octets)) none in
    let room = room-parts table path (node_at table path) tree refl parts.0 in
    IsTree-insert table path (File octets moment) tree room.0 (λ dir. absurd (room.1 dir))

keeps-deleted : (table : Table) (path : Names) → IsTree table → delete_refusal table path ≡ None → IsTree (removed table path)
unfolding delete_refusal removed
keeps-deleted table path tree none =
    IsTree-remove table path tree (λ root. no_dir (ap (node_at table) root ∙ tree.root)) (λ other some not_root up. no_dir (ap (node_at table) (sym up) ∙ tree.parents other some))
  where
    kinds : ◌≡◌ {A = Option TreeFault} (Some WrongKind) None → ⊥
    kinds e = cc

    no_dir : node_at table path ≡ Some Dir → ⊥
    no_dir dir = kinds (ap file_refusal (sym dir) ∙ none)

keeps-removed : (table : Table) (path : Names) → IsTree table → remove_refusal table path ≡ None → IsTree (removed table path)
unfolding remove_refusal removed
keeps-removed table path tree none =
    IsTree-remove table path tree (λ root. busy (children table path) (ap (λ node. remove_answer node (children table path) path) (sym (ap (node_at table) root ∙ tree.root)) ∙ none) root)
    (λ other some not_root up. below other some not_root up)
  where
    busy : (names : List (List ℕ)) → empty_refusal names path ≡ None → path ≡ [] → ⊥
    busy names e root = by names (ap (empty_refusal names) (sym root) ∙ e)
      where
        by : (names : List (List ℕ)) → empty_refusal names [] ≡ None → ⊥
        by [] e = cc
        by (name ∷ names) e = cc

    empty : (node : Option Node) (names : List (List ℕ)) → remove_answer node names path ≡ None → names ≡ []
    empty None names e = cc
    empty (Some (File octets moment)) names e = cc
    empty (Some Dir) [] e = refl
    empty (Some Dir) (name ∷ names) e = cc

    below : (other : Names) → IsSome (node_at table other) → (other ≡ [] → ⊥) → parent other ≡ path → ⊥
    below [] some not_root up = not_root refl
    below (name ∷ names) some not_root up =
        let last = parent-last name names in
        let there : IsSome (node_at table (path ++ last.0 ∷ [])) = subst (λ p. IsSome (node_at table p)) (last.1 ∙ ap (λ p. p ++ last.0 ∷ []) up) some in
        let found = (children-stand table path last.0).1 there in
        let found_none : Contains [] last.0 = subst (λ l. Contains l last.0) (empty (node_at table path) (children table path) none) found in
        absurd (omega (arith, found_none.1))

within-up : (above path : Names) → is_within above (parent path) ≡ true → is_within above path ≡ true
unfolding parent
within-up above [] inside = inside
within-up above (name ∷ names) inside =
    let last = parent-last name names in
    let rest = drop (length above) (parent (name ∷ names)) in
    let whole : name ∷ names ≡ above ++ (rest ++ last.0 ∷ []) = last.1 ∙ ap (λ p. p ++ last.0 ∷ []) (within-parts above (parent (name ∷ names)) inside) ∙ append_assoc above rest (last.0 ∷ []) in
    ap (is_within above) whole ∙ within-append above (rest ++ last.0 ∷ [])

outside-up : (above path : Names) → is_within above path ≡ false → is_within above (parent path) ≡ false
outside-up above path outside = false-where (is_within above (parent path)) (λ inside. true≢false (sym (within-up above path inside) ∙ outside))

root-outside : (name : List ℕ) (names : Names) → is_within (name ∷ names) [] ≡ false
unfolding is_within
root-outside name names = refl

pub root-inside : (path : Names) → is_within [] path ≡ true
unfolding is_within
root-inside path = refl

module _ (table : Table) (from to : Names) (tree : IsTree table) (absent : is_some (node_at table to) ≡ false) (beside : is_within from to ≡ false) (above : node_at table (parent to) ≡ Some Dir) where
  all : MovesAll table (moved table from to) from to
  all = moves-where table from to tree absent beside

  root-not_from : is_within from [] ≡ false
  root-not_from = by from beside
    where
      by : (from : Names) → is_within from to ≡ false → is_within from [] ≡ false
      by [] outside = absurd (true≢false (sym (root-inside to) ∙ outside))
      by (name ∷ names) outside = root-outside name names

  root-not_to : is_within to [] ≡ false
  root-not_to = by to absent
    where
      by : (to : Names) → is_some (node_at table to) ≡ false → is_within to [] ≡ false
      by [] free = absurd (true≢false (ap is_some (sym tree.root) ∙ free))
      by (name ∷ names) free = root-outside name names

  -- the parent of the new path stays where it is
  parent-stays : node_at (moved table from to) (parent to) ≡ Some Dir
  parent-stays =
      all.stays (parent to) (outside-up from to beside) (by to root-not_to)
      ∙ above
    where
      by : (to : Names) → is_within to [] ≡ false → is_within to (parent to) ≡ false
      by [] outside = ap (is_within []) parent-none ∙ outside
      by (name ∷ names) outside =
          false-where _ (λ inside.
          let long = ap length (within-parts (name ∷ names) (parent (name ∷ names)) inside) ∙ length-append (name ∷ names) (drop (length (name ∷ names)) (parent (name ∷ names))) in
          absurd (omega (arith, parent-shorter name names)))

  below-new : (rest : Names) → IsSome (node_at table (from ++ rest)) → node_at (moved table from to) (parent (to ++ rest)) ≡ Some Dir
  below-new [] some = ap (λ p. node_at (moved table from to) (parent p)) (append-nil to) ∙ parent-stays
  below-new (name ∷ rest) some =
      ap (node_at (moved table from to)) (parent-append to name rest) ∙ all.comes (parent (name ∷ rest))
      ∙ ap (node_at table) (sym (parent-append from name rest)) ∙ tree.parents (from ++ name ∷ rest) some

  up : (path : Names) → IsSome (node_at (moved table from to) path) → (b : Bool) → is_within to path ≡ b → (c : Bool) → is_within from path ≡ c → node_at (moved table from to) (parent path) ≡ Some Dir
  up path some true inside c below =
      let rest = drop (length to) path in
      let whole = within-parts to path inside in
      ap (λ p. node_at (moved table from to) (parent p)) whole
      ∙ below-new rest (subst (λ o. IsSome o) (ap (node_at (moved table from to)) whole ∙ all.comes rest) some)
  up path some false outside true below = absurd (true≢false (sym (ap is_some (sym (all.goes path below outside)) ∙ some)))
  up path some false outside false apart =
      all.stays (parent path) (outside-up from path apart) (outside-up to path outside)
      ∙ tree.parents path (subst (λ o. IsSome o) (all.stays path apart outside) some)

  keeps-there : IsTree (moved table from to)
  keeps-there =
      record {
        root = all.stays [] root-not_from root-not_to ∙ tree.root;
        parents = λ path some. up path some (is_within to path) refl (is_within from path) refl;
      }

keeps-moved : (table : Table) (from to : Names) → IsTree table → rename_refusal table from to ≡ None → IsTree (moved table from to)
keeps-moved table from to tree none =
    let parts = target-parts table from to none in
    keeps-there table from to tree parts.0 parts.1 (is-dir _ parts.2)

-- ---- a file in the place of another

-- files stand at both paths, and the second is not the first
pub record TakesPlace (table : Table) (from to : Names) : Type 0 where
  pub source : file_refusal (node_at table from) ≡ None
  pub target : file_refusal (node_at table to) ≡ None
  pub beside : is_within from to ≡ false

no-fault : (o : Option TreeFault) → is_none o ≡ true → o ≡ None
no-fault None none = refl
no-fault (Some fault) none = absurd (true≢false (sym none))

no-true : (b : Bool) → not b ≡ true → b ≡ false
no-true true held_not = absurd (true≢false (sym held_not))
no-true false held_not = refl

pub takes-parts : (table : Table) (from to : Names) → takes_place table from to ≡ true → TakesPlace table from to
unfolding takes_place
takes-parts table from to takes =
    let both = and_parts (is_none (file_refusal (node_at table from))) (is_none (file_refusal (node_at table to)) && not (is_within from to)) takes in
    let rest = and_parts (is_none (file_refusal (node_at table to))) (not (is_within from to)) both.1 in
    record { source = no-fault _ both.0; target = no-fault _ rest.0; beside = no-true _ rest.1 }

-- a file is moved onto another just where it may take its place
pub onto-takes : (table : Table) (from to : Names) → onto_refusal table from to ≡ None → takes_place table from to ≡ true
unfolding onto_refusal
onto-takes table from to none = held (takes_place table from to) WrongKind none

pub takes-onto : (table : Table) (from to : Names) → takes_place table from to ≡ true → onto_refusal table from to ≡ None
unfolding onto_refusal
takes-onto table from to takes = ap (λ b. whenever (not b) WrongKind) takes

-- a file is something, and no directory
pub file-stands : (node : Option Node) → file_refusal node ≡ None → is_some node ≡ true
file-stands None none = cc
file-stands (Some node) none = refl

pub file-below : (table : Table) (path : Names) → IsTree table → file_refusal (node_at table path) ≡ None → path ≡ [] → ⊥
file-below table path tree file root = kinds (ap file_refusal (sym (ap (node_at table) root ∙ tree.root)) ∙ file)
  where
    kinds : ◌≡◌ {A = Option TreeFault} (Some WrongKind) None → ⊥
    kinds e = cc

pub not-own : (path : Names) → (path ≡ [] → ⊥) → parent path ≡ path → ⊥
not-own [] some own = some refl
not-own (name ∷ rest) some own = let less = parent-shorter name rest in let long = ap length own in absurd (omega (arith, less, long))

-- once the file at a path is gone, nothing stands there, and above it a directory as before
pub record IsVacant (table : Table) (path : Names) : Type 0 where
  pub tree : IsTree table
  pub absent : node_at table path ≡ None
  pub above : node_at table (parent path) ≡ Some Dir

pub vacant : (table : Table) (path : Names) → IsTree table → file_refusal (node_at table path) ≡ None → IsVacant (removed table path) path
unfolding removed delete_refusal
vacant table path tree file =
    record {
      tree = keeps-deleted table path tree file;
      absent = at-remove table path path ∙ cond-true (eq_by_cmp path_cmp path path) None (node_at table path) (ap is_eq (tied_itself path_total path));
      above =
          at-remove table path (parent path)
          ∙ cond-false (eq_by_cmp path_cmp (parent path) path) None (node_at table (parent path)) (false-where _ (λ equal. not-own path
          (file-below table path tree file) (same (parent path) path equal)))
          ∙ tree.parents path (file-stands (node_at table path) file);
    }

-- the map without the file whose place is taken, where files may be replaced so; else the map
pub takes-freed : (table : Table) (from to : Names) → takes_place table from to ≡ true → freed true table from to ≡ removed table to
unfolding freed
takes-freed table from to takes = cond-true (takes_place table from to) (removed table to) table takes

pub not-freed : (table : Table) (from to : Names) → freed false table from to ≡ table
unfolding freed
not-freed table from to = refl

pub stays-freed : (onto : Bool) (table : Table) (from to : Names) → takes_place table from to ≡ false → freed onto table from to ≡ table
unfolding freed
stays-freed true table from to stays = cond-false (takes_place table from to) (removed table to) table stays
stays-freed false table from to stays = refl

-- what holds of the map, and of it without a file whose place is taken, holds of it once a place is freed
pub by-freed : (P : Table → Type 0) (onto : Bool) (table : Table) (from to : Names) → P table → (takes_place table from to ≡ true → P (removed table to))
    → P (freed onto table from to)
by-freed P false table from to whole without = subst P (sym (not-freed table from to)) whole
by-freed P true table from to whole without =
    elim (takes_place table from to) as (λ b. takes_place table from to ≡ b → P (freed true table from to)) [
      | true ↦ λ takes. subst P (sym (takes-freed table from to takes)) (without takes)
      | false ↦ λ stays. subst P (sym (stays-freed true table from to stays)) whole
    ] refl

-- a tree stays one
pub freed-tree : (onto : Bool) (table : Table) (from to : Names) → IsTree table → IsTree (freed onto table from to)
freed-tree onto table from to tree =
    by-freed IsTree onto table from to tree (λ takes. (vacant table to tree (takes-parts table from to takes).target).tree)

-- no other path changes, and what stands at the path that is freed goes
pub freed-node : (onto : Bool) (table : Table) (from to path : Names) → eq_by_cmp path_cmp path to ≡ false
    → node_at (freed onto table from to) path ≡ node_at table path
unfolding removed
freed-node onto table from to path other =
    by-freed (λ t. node_at t path ≡ node_at table path) onto table from to refl (λ takes. at-remove table to path
    ∙ cond-false (eq_by_cmp path_cmp path to) None (node_at table path) other)

pub freed-at : (table : Table) (from to : Names) → takes_place table from to ≡ true → node_at (freed true table from to) to ≡ None
unfolding removed
freed-at table from to takes =
    ap (λ t. node_at t to) (takes-freed table from to takes) ∙ at-remove table to to
    ∙ cond-true (eq_by_cmp path_cmp to to) None (node_at table to) (ap is_eq (tied_itself path_total to))

-- paths of which the second is not within the first are two
pub beside-other : (from to : Names) (rest : Names) → is_within from to ≡ false → eq_by_cmp path_cmp (from ++ rest) to ≡ false
beside-other from to rest beside = false-where _ (λ equal. true≢false (sym (within-append from rest) ∙ ap (is_within from) (same (from ++ rest) to equal)
    ∙ beside))

-- what is moved stands as before
pub freed-from : (onto : Bool) (table : Table) (from to rest : Names) → node_at (freed onto table from to) (from ++ rest) ≡ node_at table (from ++ rest)
unfolding removed
freed-from onto table from to rest =
    by-freed (λ t. node_at t (from ++ rest) ≡ node_at table (from ++ rest)) onto table from to refl
    (λ takes. at-remove table to (from ++ rest)
    ∙ cond-false (eq_by_cmp path_cmp (from ++ rest) to) None (node_at table (from ++ rest)) (beside-other from to rest
    (takes-parts table from to takes).beside))

-- so what is refused of it is as before
pub freed-source : (onto : Bool) (table : Table) (from to : Names) → source_refusal (freed onto table from to) from ≡ source_refusal table from
unfolding source_refusal
freed-source onto table from to =
    ap (λ node. source_answer node from)
    (ap (node_at (freed onto table from to)) (sym (append-nil from)) ∙ freed-from onto table from to [] ∙ ap (node_at table) (append-nil from))

keeps-replaced : (table : Table) (from to : Names) → IsTree table → onto_refusal table from to ≡ None → IsTree (moved (freed true table from to) from to)
keeps-replaced table from to tree none =
    let takes = onto-takes table from to none in
    let parts = takes-parts table from to takes in
    let free = vacant table to tree parts.target in
    subst (λ t. IsTree (moved t from to)) (sym (takes-freed table from to takes)) (keeps-there (removed table to) from to free.tree
    (ap is_some free.absent) parts.beside free.above)

pub changes-keep : ChangesKeepTrees
changes-keep =
    record {
      alone = root-tree;
      making = keeps-made;
      removing = keeps-removed;
      deleting = keeps-deleted;
      moving = keeps-moved;
      replacing = keeps-replaced;
      installing = keeps-installed;
    }
