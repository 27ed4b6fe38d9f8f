-- The part below a root, as the rows that are kept have it, and what a change of it makes of the whole.
use Rattle.std.proofs.Common.{◌≡◌, Bool, true, false, not, ◌&&◌, ◌||◌, cond, Some, None, ◌∷◌, [], ◌++◌, length, drop, refl, sym, ap, ◌∙◌, append_assoc}
use Rattle.std.specs.Prelude.{map}
use Rattle.std.specs.List.{list_all}
use Rattle.std.specs.Ordering.{eq_by_cmp}
use Rattle.std.specs.FinMap.Entries.{find}
use Rattle.std.proofs.lemmas.Bool.{cond-true, cond-false, true≢false}
use Rattle.ftp_path.specs.Path.{fits, Names, path_cmp, is_within, moved_path}
use Rattle.ftp_tree.specs.Map.{Node}
use Rattle.ftp_tree.specs.Tree.{Table, node_at, under, with_part, children, moves_fit, moved}
use Rattle.ftp_tree.specs.Rows.{Rows, rows_within, all_moves_fit}
use Rattle.ftp_path.proofs.KeyLemmas.{within-parts, within-append}
use Rattle.ftp_tree.proofs.MapLemmas.{false-where, same, apart-back, eq-fronts}
use Rattle.ftp_tree.proofs.LawLemmas.{get-moved, get-node, under-stands}
use Rattle.ftp_tree.proofs.KeepLaws.{at-insert, at-remove, but_node, with_node}
use Rattle.ftp_tree.proofs.PartLemmas.{as-part, under-limits}
use Rattle.ftp_tree.proofs.RowLemmas.{drop-both, part_rows, within-inside, within-outside}
use Rattle.std.specs.FinMap as fin
use Rattle.ftp_tree.proofs.RowLemmas as rows

-- ---- what is read of a part

pub entries-under : (table : Table) (root : Names) → fin.entries (under table root).map ≡ part_rows root (fin.entries table.map)
unfolding under
entries-under table root = rows.entries-under table.map root

pub children-under : (table : Table) (root path : Names) → children (under table root) path ≡ children table (root ++ path)
unfolding children under
children-under table root path = rows.children-under table.map root path

one-fits : (from to path : Names) (b : Bool) → is_within from path ≡ b → (not (is_within from path) || fits (moved_path from to path)) ≡ (not (is_within from path) || fits (to ++ drop (length from) path))
unfolding moved_path
one-fits from to path true is = ap (λ p. not (is_within from path) || fits p) (cond-true (is_within from path) _ _ is)
one-fits from to path false is = ap (λ b. not b || fits (moved_path from to path)) is ∙ sym (ap (λ b. not b || fits (to ++ drop (length from) path)) is)

fits-rows : (root from to : Names) (es : Rows)
    → list_all (λ path. not (is_within from path) || fits (moved_path from to path)) (map (λ e. e.0) (part_rows root es)) ≡ all_moves_fit (root ++ from) to es
unfolding part_rows
fits-rows root from to [] = refl
fits-rows root from to (e ∷ es) =
    let allowed = λ (path : Names). not (is_within from path) || fits (moved_path from to path) in
    let rest = fits-rows root from to es in
    elim (is_within root e.0) as (λ b. is_within root e.0 ≡ b
    → list_all allowed (map (λ (e : Names × Node). e.0) (map (λ (e : Names × Node). (drop (length root) e.0, e.1)) (cond b (e ∷ rows_within root es) (rows_within root es))))
    ≡ ((not (is_within (root ++ from) e.0) || fits (to ++ drop (length (root ++ from)) e.0)) && all_moves_fit (root ++ from) to es)) [
      | true ↦ λ here.
          ap (λ b. allowed (drop (length root) e.0) && b) rest
          ∙ ap (λ b. b && all_moves_fit (root ++ from) to es) (one-fits from to (drop (length root) e.0) (is_within from (drop (length root) e.0)) refl
          ∙ ap (λ p. not (is_within from (drop (length root) e.0)) || fits (to ++ p)) (sym (drop-both root from e.0))
          ∙ ap (λ b. not b || fits (to ++ drop (length (root ++ from)) e.0)) (sym (within-inside root from e.0 here)))
      | false ↦ λ out. rest ∙ ap (λ b. (not b || fits (to ++ drop (length (root ++ from)) e.0)) && all_moves_fit (root ++ from) to es) (sym (within-outside root from e.0 out))
    ] refl

pub moves_fit-under : (table : Table) (root from to : Names) → moves_fit (under table root) from to ≡ all_moves_fit (root ++ from) to (fin.entries table.map)
unfolding moves_fit
moves_fit-under table root from to =
    ap (λ (l : Rows). list_all (λ path. not (is_within from path) || fits (moved_path from to path)) (map (λ e. e.0) l)) (entries-under table root)
    ∙ fits-rows root from to (fin.entries table.map)

-- ---- changes of a part

apart-front : (root path other : Names) → is_within root other ≡ false → eq_by_cmp path_cmp other (root ++ path) ≡ false
apart-front root path other out = false-where _ (λ equal. true≢false (sym (within-append root path) ∙ ap (is_within root) (sym (same other (root ++ path) equal)) ∙ out))

pub insert-under : (table : Table) (root path : Names) (node : Node) → with_part table root (with_node (under table root) path node) ≡ with_node table (root ++ path) node
insert-under table root path node =
    as-part table root (with_node (under table root) path node) (with_node table (root ++ path) node) (sym (under-limits table root))
    (λ other.
    at-insert table (root ++ path) node (root ++ other)
    ∙ ap (λ b. cond b (Some node) (node_at table (root ++ other))) (eq-fronts root [] other path)
    ∙ ap (cond (eq_by_cmp path_cmp other path) (Some node)) (sym (under-stands table root other)) ∙ sym (at-insert (under table root) path node other))
    (λ other out. at-insert table (root ++ path) node other ∙ cond-false (eq_by_cmp path_cmp other (root ++ path)) _ _ (apart-front root path other out))

pub remove-under : (table : Table) (root path : Names) → with_part table root (but_node (under table root) path) ≡ but_node table (root ++ path)
remove-under table root path =
    as-part table root (but_node (under table root) path) (but_node table (root ++ path)) (sym (under-limits table root))
    (λ other.
    at-remove table (root ++ path) (root ++ other)
    ∙ ap (λ b. cond b None (node_at table (root ++ other))) (eq-fronts root [] other path)
    ∙ ap (cond (eq_by_cmp path_cmp other path) None) (sym (under-stands table root other)) ∙ sym (at-remove (under table root) path other))
    (λ other out. at-remove table (root ++ path) other ∙ cond-false (eq_by_cmp path_cmp other (root ++ path)) _ _ (apart-front root path other out))

module _ (root from to : Names) where
  abbrev all : Rows → Rows
  all = map (λ e. (moved_path (root ++ from) (root ++ to) e.0, e.1))

  abbrev ours : Rows → Rows
  ours = map (λ e. (moved_path from to e.0, e.1))

  moved-inside : (path : Names) → is_within root path ≡ true → moved_path (root ++ from) (root ++ to) path ≡ root ++ moved_path from to (drop (length root) path)
  unfolding moved_path
  moved-inside path inside =
      ap (λ b. cond b ((root ++ to) ++ drop (length (root ++ from)) path) path) (within-inside root from path inside)
      ∙ elim (is_within from (drop (length root) path)) as (λ b. cond b ((root ++ to) ++ drop (length (root ++ from)) path) path ≡ root ++ cond b (to ++ drop (length from) (drop (length root) path)) (drop (length root) path)) [
        | true ↦ ap (λ rest. (root ++ to) ++ rest) (drop-both root from path) ∙ append_assoc root to _
        | false ↦ within-parts root path inside
      ]

  moved-outside : (path : Names) → is_within root path ≡ false → moved_path (root ++ from) (root ++ to) path ≡ path
  unfolding moved_path
  moved-outside path out = cond-false (is_within (root ++ from) path) _ _ (within-outside root from path out)

  moved-comes : (path : Names) (es : Rows) → find path_cmp (root ++ path) (all es) ≡ find path_cmp path (ours (part_rows root es))
  unfolding part_rows
  moved-comes path [] = refl
  moved-comes path (e ∷ es) =
      let rest = moved-comes path es in
      elim (is_within root e.0) as (λ b. is_within root e.0 ≡ b
      → cond (eq_by_cmp path_cmp (root ++ path) (moved_path (root ++ from) (root ++ to) e.0)) (Some e.1) (find path_cmp (root ++ path) (all es))
      ≡ find path_cmp path (ours (map (λ e. (drop (length root) e.0, e.1)) (cond b (e ∷ rows_within root es) (rows_within root es))))) [
        | true ↦ λ here.
            ap (cond (eq_by_cmp path_cmp (root ++ path) (moved_path (root ++ from) (root ++ to) e.0)) (Some e.1)) rest
            ∙ ap (λ b. cond b (Some e.1) (find path_cmp path (ours (part_rows root es))))
            (ap (eq_by_cmp path_cmp (root ++ path)) (moved-inside e.0 here) ∙ eq-fronts root [] path (moved_path from to (drop (length root) e.0)))
        | false ↦ λ out.
            cond-false (eq_by_cmp path_cmp (root ++ path) (moved_path (root ++ from) (root ++ to) e.0)) _ _
            (ap (eq_by_cmp path_cmp (root ++ path)) (moved-outside e.0 out) ∙ apart-back root (root ++ path) e.0 (within-append root path) out) ∙ rest
      ] refl

  moved-stays : (path : Names) → is_within root path ≡ false → (es : Rows) → find path_cmp path (all es) ≡ find path_cmp path es
  moved-stays path out [] = refl
  moved-stays path out (e ∷ es) =
      let rest = moved-stays path out es in
      elim (is_within root e.0) as (λ b. is_within root e.0 ≡ b
      → cond (eq_by_cmp path_cmp path (moved_path (root ++ from) (root ++ to) e.0)) (Some e.1) (find path_cmp path (all es)) ≡ cond (eq_by_cmp path_cmp path e.0) (Some e.1) (find path_cmp path es)) [
        | true ↦ λ here.
            cond-false (eq_by_cmp path_cmp path (moved_path (root ++ from) (root ++ to) e.0)) _ _
            (ap (eq_by_cmp path_cmp path) (moved-inside e.0 here) ∙ apart-front root (moved_path from to (drop (length root) e.0)) path out)
            ∙ rest ∙ sym (cond-false (eq_by_cmp path_cmp path e.0) _ _ (ap (eq_by_cmp path_cmp path) (within-parts root e.0 here) ∙ apart-front root (drop (length root) e.0) path out))
        | false ↦ λ other.
            ap (λ p. cond (eq_by_cmp path_cmp path p) (Some e.1) (find path_cmp path (all es))) (moved-outside e.0 other) ∙ ap (cond (eq_by_cmp path_cmp path e.0) (Some e.1)) rest
      ] refl

-- what is moved stays within its limits
pub moved-limits : (table : Table) (from to : Names) → (moved table from to).limits ≡ table.limits
unfolding moved
moved-limits table from to = refl

pub moved-under : (table : Table) (root from to : Names) → with_part table root (moved (under table root) from to) ≡ moved table (root ++ from) (root ++ to)
moved-under table root from to =
    let es = fin.entries table.map in
    as-part table root (moved (under table root) from to) (moved table (root ++ from) (root ++ to)) (moved-limits table (root ++ from) (root ++ to) ∙ sym (moved-limits (under table root) from to ∙ under-limits table root))
    (λ path.
    get-moved table (root ++ from) (root ++ to) (root ++ path) ∙ moved-comes root from to path es
    ∙ ap (λ (l : Rows). find path_cmp path (map (λ e. (moved_path from to e.0, e.1)) l)) (sym (entries-under table root)) ∙ sym (get-moved (under table root) from to path))
    (λ path out. get-moved table (root ++ from) (root ++ to) path ∙ moved-stays root from to path out es ∙ get-node table path)
