-- What stands in a tree stays sound: a part that is taken, put or left out is.
use Rattle.std.proofs.Common.{◌≡◌, ℕ, Bool, true, false, not, cond, List, [], ◌∷◌, ◌++◌, length, drop, refl, sym, ap, ◌∙◌}
use Rattle.std.specs.Prelude.{map}
use Rattle.std.specs.FinMap.Entries.{by_order, put}
use Rattle.std.specs.List.{filter, list_all}
use Rattle.std.specs.declared.cmp.Ordering.TheVariants.{Less, Equal, Greater}
use Rattle.std.proofs.lemmas.Bool.{and_parts, and_from}
use Rattle.std.proofs.lemmas.List.Folds.{list_all-append}
use Rattle.ftp_path.specs.Kept.{names_of}
use Rattle.ftp_path.specs.Path.{Names, is_component, is_name, is_within, path_cmp}
use Rattle.ftp_tree.specs.Sound.{IsSoundMap, IsSoundTable, is_sound_entry, is_sound_node}
use Rattle.ftp_tree.specs.Text.{IsPlace, is_short}
use Rattle.ftp_tree.specs.Rows.{Rows}
use Rattle.ftp_tree.specs.Map.{Node}
use Rattle.ftp_tree.specs.Tree.{Table, default_limits, root_alone, root_within, under, with_part}
use Rattle.ftp_tree.specs.declared.limits.Limits.{Limits}
use Rattle.ftp_tree.proofs.RowLemmas.{no-entries}
use Rattle.ftp_tree.proofs.TextLemmas.{all-drop}
use Rattle.ftp_tree.proofs.TableLemmas.{entries-all, entries-table, put_all, table_of-none}
use Rattle.std.specs.FinMap as fin
use Rattle.ftp_tree.specs.Map as maps

-- names that are joined, each short, are names
pub place-names : (text : List ℕ) → IsPlace text → list_all is_name (names_of text) ≡ true
place-names text place = by (names_of text) place.joins.components place.short
  where
    by : (names : Names) → list_all is_component names ≡ true → list_all is_short names ≡ true → list_all is_name names ≡ true
    by [] named short = refl
    by (name ∷ names) named short =
        let one = and_parts (is_component name) (list_all is_component names) named in
        let two = and_parts (is_short name) (list_all is_short names) short in
        and_from (is_name name) (list_all is_name names) (and_from (is_component name) (is_short name) one.0 two.0) (by names one.1 two.1)

-- ---- rows

-- a sound row that is put in its place
sound-put : (path : Names) (node : Node) (rows : Rows) → is_sound_entry (path, node) ≡ true → list_all is_sound_entry rows ≡ true → list_all is_sound_entry (put path_cmp path node rows) ≡ true
sound-put path node [] one all = and_from (is_sound_entry (path, node)) true one refl
sound-put path node (row ∷ rows) one all =
    let first = and_parts (is_sound_entry row) (list_all is_sound_entry rows) all in
    let named = and_parts (list_all is_name row.0) (is_sound_node row.1) first.0 in
    let node_sound = and_parts (list_all is_name path) (is_sound_node node) one in
    elim (path_cmp path row.0) as (λ o. list_all is_sound_entry (by_order o ((path, node) ∷ row ∷ rows) ((row.0, node) ∷ rows) (row ∷ put path_cmp path node rows)) ≡ true) [
      | Less ↦ and_from (is_sound_entry (path, node)) (list_all is_sound_entry (row ∷ rows)) one all
      | Equal ↦ and_from (is_sound_entry (row.0, node)) (list_all is_sound_entry rows) (and_from (list_all is_name row.0) (is_sound_node node) named.0 node_sound.1) first.1
      | Greater ↦ and_from (is_sound_entry row) (list_all is_sound_entry (put path_cmp path node rows)) first.0 (sound-put path node rows one first.1)
    ]

-- sound rows that are put one by one
sound-all : (rows : Rows) → list_all is_sound_entry rows ≡ true → list_all is_sound_entry (put_all rows) ≡ true
sound-all [] all = refl
sound-all (row ∷ rows) all =
    let both = and_parts (is_sound_entry row) (list_all is_sound_entry rows) all in
    sound-put row.0 row.1 (put_all rows) both.0 (sound-all rows both.1)

sound-from : (rows : Rows) → list_all is_sound_entry rows ≡ true → IsSoundMap (fin.from_entries {R = path_cmp} rows)
sound-from rows all = ap (list_all is_sound_entry) (entries-all rows) ∙ sound-all rows all

-- those of some rows that pass a test
sound-some : (test : Names × Node → Bool) (rows : Rows) → list_all is_sound_entry rows ≡ true → list_all is_sound_entry (filter test rows) ≡ true
sound-some test [] all = refl
sound-some test (row ∷ rows) all =
    let both = and_parts (is_sound_entry row) (list_all is_sound_entry rows) all in
    let rest = sound-some test rows both.1 in
    elim (test row) as (λ b. list_all is_sound_entry (cond b (row ∷ filter test rows) (filter test rows)) ≡ true) [
      | true ↦ and_from (is_sound_entry row) (list_all is_sound_entry (filter test rows)) both.0 rest
      | false ↦ rest
    ]

-- rows behind names
sound-behind : (root : Names) (rows : Rows) → list_all is_name root ≡ true → list_all is_sound_entry rows ≡ true → list_all is_sound_entry (map (λ entry. (root ++ entry.0, entry.1)) rows) ≡ true
sound-behind root [] named all = refl
sound-behind root (row ∷ rows) named all =
    let both = and_parts (is_sound_entry row) (list_all is_sound_entry rows) all in
    let parts = and_parts (list_all is_name row.0) (is_sound_node row.1) both.0 in
    let whole : list_all is_name (root ++ row.0) ≡ true = list_all-append is_name root row.0 ∙ and_from (list_all is_name root) (list_all is_name row.0) named parts.0 in
    and_from (is_sound_entry (root ++ row.0, row.1)) _ (and_from (list_all is_name (root ++ row.0)) (is_sound_node row.1) whole parts.1) (sound-behind root rows named both.1)

-- rows without so many of their first names
sound-rest : (count : ℕ) (rows : Rows) → list_all is_sound_entry rows ≡ true → list_all is_sound_entry (map (λ entry. (drop count entry.0, entry.1)) rows) ≡ true
sound-rest count [] all = refl
sound-rest count (row ∷ rows) all =
    let both = and_parts (is_sound_entry row) (list_all is_sound_entry rows) all in
    let parts = and_parts (list_all is_name row.0) (is_sound_node row.1) both.0 in
    and_from (is_sound_entry (drop count row.0, row.1)) _ (and_from (list_all is_name (drop count row.0)) (is_sound_node row.1) (all-drop is_name count row.0 parts.0) parts.1) (sound-rest count rows both.1)

-- ---- maps

pub sound-empty : IsSoundMap fin.empty
sound-empty = ap (list_all is_sound_entry) no-entries

pub sound-root : IsSoundMap maps.root_alone
sound-root = ap (λ all. list_all is_sound_entry (fin.entries all)) (sym table_of-none) ∙ ap (list_all is_sound_entry) (entries-table [] refl)

pub sound-within : (limits : Limits) → IsSoundTable (root_within limits)
unfolding root_within
sound-within limits = sound-root

pub sound-alone : IsSoundTable root_alone
unfolding root_alone
sound-alone = sound-within default_limits

-- a part
pub sound-under : (table : Table) (root : Names) → IsSoundTable table → IsSoundTable (under table root)
unfolding under maps.under
sound-under table root all =
    sound-from _ (sound-rest (length root) _ (sound-some (λ entry. is_within root entry.0) (fin.entries table.map) all))

-- a map with another part in the place of one
pub sound-part : (table : Table) (root : Names) (part : Table) → list_all is_name root ≡ true → IsSoundTable table → IsSoundTable part → IsSoundTable (with_part table root part)
unfolding with_part maps.with_part
sound-part table root part named all below =
    let outside = filter (λ entry. not (is_within root entry.0)) (fin.entries table.map) in
    let behind = map (λ entry. (root ++ entry.0, entry.1)) (fin.entries part.map) in
    sound-from _ (list_all-append is_sound_entry outside behind
    ∙ and_from (list_all is_sound_entry outside) (list_all is_sound_entry behind)
    (sound-some (λ entry. not (is_within root entry.0)) (fin.entries table.map) all) (sound-behind root (fin.entries part.map) named below))
