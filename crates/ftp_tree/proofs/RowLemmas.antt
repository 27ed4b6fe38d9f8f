-- The part of a map below a root, as its rows: what is read of it.
use Rattle.std.proofs.Common.{ℕ, ◌≡◌, Bool, true, false, ◌&&◌, cond, None, nat_eq, List, [], ◌∷◌, ◌++◌, length, drop, refl, sym, ap, ◌∙◌}
use Rattle.std.specs.Prelude.{map}
use Rattle.std.specs.List.{filter_map, cons_option}
use Rattle.std.specs.Ordering.{is_lt}
use Rattle.std.specs.Cmp.Lexicographic.{pointwise}
use Rattle.std.specs.FinMap.{is_sorted}
use Rattle.std.specs.FinMap.Entries.{put, below_all, by_order}
use Rattle.std.proofs.lemmas.Bool.{and_parts, and_from, cond-false}
use Rattle.std.proofs.lemmas.List.{append-nil, length-append, drop-drop}
use Rattle.ftp_path.specs.Path.{Names, path_cmp, is_within, only_name, name_in}
use Rattle.ftp_tree.specs.Map.{Node, Map, node_at, under, children}
use Rattle.ftp_tree.specs.Rows.{Rows, rows_within}
use Rattle.ftp_path.proofs.KeyLemmas.{within-parts}
use Rattle.ftp_tree.proofs.EntryLemmas.{true-from, less-from}
use Rattle.ftp_tree.proofs.MapLemmas.{cmp-front, empty-at, under-stands}
use Rattle.ftp_tree.proofs.TableLemmas.{entries-all, none-left, put_all}
use Rattle.std.specs.FinMap as fin

-- ---- paths behind a root

pub and-assoc : (a b c : Bool) → (a && (b && c)) ≡ ((a && b) && c)
and-assoc true b c = refl
and-assoc false b c = refl

-- within a root and a path behind it: within the root, and the rest within the path
pub within-front : (root path other : Names) → is_within (root ++ path) other ≡ (is_within root other && is_within path (drop (length root) other))
unfolding is_within
within-front [] path other = refl
within-front (x ∷ root) path [] = refl
within-front (x ∷ root) path (y ∷ other) = ap (λ b. first x y && b) (within-front root path other) ∙ and-assoc (first x y) (is_within root other) _
  where
    first : List ℕ → List ℕ → Bool
    first = pointwise nat_eq

pub within-inside : (root path other : Names) → is_within root other ≡ true → is_within (root ++ path) other ≡ is_within path (drop (length root) other)
within-inside root path other inside = within-front root path other ∙ ap (λ b. b && is_within path (drop (length root) other)) inside

pub within-outside : (root path other : Names) → is_within root other ≡ false → is_within (root ++ path) other ≡ false
within-outside root path other out = within-front root path other ∙ ap (λ b. b && is_within path (drop (length root) other)) out

pub drop-both : (root path other : Names) → drop (length (root ++ path)) other ≡ drop (length path) (drop (length root) other)
drop-both root path other =
    ap (λ n. drop n other) (length-append root path) ∙ sym (drop-drop (length path) (length root) other)

name_in-inside : (root path other : Names) → is_within root other ≡ true → name_in (root ++ path) other ≡ name_in path (drop (length root) other)
unfolding name_in
name_in-inside root path other inside =
    ap (λ b. cond b (only_name (drop (length (root ++ path)) other)) None) (within-inside root path other inside)
    ∙ ap (λ rest. cond (is_within path (drop (length root) other)) (only_name rest) None) (drop-both root path other)

name_in-outside : (root path other : Names) → is_within root other ≡ false → name_in (root ++ path) other ≡ None
unfolding name_in
name_in-outside root path other out = cond-false (is_within (root ++ path) other) _ _ (within-outside root path other out)

-- ---- the rows of a part

unfoldable pub part_rows : Names → Rows → Rows
part_rows root es = map (λ e. (drop (length root) e.0, e.1)) (rows_within root es)

below-part : (root x : Names) (es : Rows) → is_within root x ≡ true → below_all path_cmp x es ≡ true → below_all path_cmp (drop (length root) x) (part_rows root es) ≡ true
unfolding part_rows
below-part root x [] inside below = refl
below-part root x (e ∷ es) inside below =
    let both = and_parts (is_lt (path_cmp x e.0)) (below_all path_cmp x es) below in
    let rest = below-part root x es inside both.1 in
    elim (is_within root e.0) as (λ b. is_within root e.0 ≡ b → below_all path_cmp (drop (length root) x) (map (λ e. (drop (length root) e.0, e.1)) (cond b (e ∷ rows_within root es) (rows_within root es))) ≡ true) [
      | true ↦ λ here.
          let less : path_cmp (drop (length root) x) (drop (length root) e.0) ≡ path_cmp x e.0 =
          sym (cmp-front root (drop (length root) x) (drop (length root) e.0)) ∙ ap (λ p. path_cmp p (root ++ drop (length root) e.0)) (sym (within-parts root x inside))
          ∙ ap (path_cmp x) (sym (within-parts root e.0 here)) in
          and_from (is_lt (path_cmp (drop (length root) x) (drop (length root) e.0))) _ (ap is_lt less ∙ both.0) rest
      | false ↦ λ _. rest
    ] refl

sorted-part : (root : Names) (es : Rows) → is_sorted path_cmp es ≡ true → is_sorted path_cmp (part_rows root es) ≡ true
unfolding part_rows
sorted-part root [] sorted = refl
sorted-part root (e ∷ es) sorted =
    let both = and_parts (below_all path_cmp e.0 es) (is_sorted path_cmp es) sorted in
    let rest = sorted-part root es both.1 in
    elim (is_within root e.0) as (λ b. is_within root e.0 ≡ b → is_sorted path_cmp (map (λ e. (drop (length root) e.0, e.1)) (cond b (e ∷ rows_within root es) (rows_within root es))) ≡ true) [
      | true ↦ λ here. and_from (below_all path_cmp (drop (length root) e.0) (part_rows root es)) _ (below-part root e.0 es here both.0) rest
      | false ↦ λ _. rest
    ] refl

put-first : (e : Names × Node) (es : Rows) → below_all path_cmp e.0 es ≡ true → put path_cmp e.0 e.1 es ≡ e ∷ es
put-first e [] below = refl
put-first e (f ∷ es) below =
    let both = and_parts (is_lt (path_cmp e.0 f.0)) (below_all path_cmp e.0 es) below in
    ap (λ r. by_order r (e ∷ f ∷ es) ((f.0, e.1) ∷ es) (f ∷ put path_cmp e.0 e.1 es)) (less-from (path_cmp e.0 f.0) both.0)

put_all-sorted : (es : Rows) → is_sorted path_cmp es ≡ true → put_all es ≡ es
put_all-sorted [] sorted = refl
put_all-sorted (e ∷ es) sorted =
    let both = and_parts (below_all path_cmp e.0 es) (is_sorted path_cmp es) sorted in
    ap (put path_cmp e.0 e.1) (put_all-sorted es both.1) ∙ put-first e es both.0

pub entries-under : (table : Map) (root : Names) → fin.entries (under table root) ≡ part_rows root (fin.entries table)
unfolding under part_rows
entries-under table root =
    entries-all (part_rows root (fin.entries table))
    ∙ put_all-sorted (part_rows root (fin.entries table)) (sorted-part root (fin.entries table) (true-from _ (fin.entries_sorted table)))

-- ---- what is read of a part

children-rows : (root path : Names) (es : Rows) → filter_map (name_in path) (map (λ e. e.0) (part_rows root es)) ≡ filter_map (name_in (root ++ path)) (map (λ e. e.0) es)
unfolding part_rows
children-rows root path [] = refl
children-rows root path (e ∷ es) =
    let rest = children-rows root path es in
    elim (is_within root e.0) as (λ b. is_within root e.0 ≡ b
    → filter_map (name_in path) (map (λ (e : Names × Node). e.0) (map (λ (e : Names × Node). (drop (length root) e.0, e.1)) (cond b (e ∷ rows_within root es) (rows_within root es))))
    ≡ cons_option (name_in (root ++ path) e.0) (filter_map (name_in (root ++ path)) (map (λ e. e.0) es))) [
      | true ↦ λ here. ap (cons_option (name_in path (drop (length root) e.0))) rest
          ∙ ap (λ o. cons_option o (filter_map (name_in (root ++ path)) (map (λ e. e.0) es))) (sym (name_in-inside root path e.0 here))
      | false ↦ λ out. rest ∙ ap (λ o. cons_option o (filter_map (name_in (root ++ path)) (map (λ e. e.0) es))) (sym (name_in-outside root path e.0 out))
    ] refl

pub children-under : (table : Map) (root path : Names) → children (under table root) path ≡ children table (root ++ path)
unfolding children
children-under table root path =
    ap (λ (l : Rows). filter_map (name_in path) (map (λ e. e.0) l)) (entries-under table root) ∙ children-rows root path (fin.entries table)

-- ---- what stands at the top of a part, and below a directory

-- what stands at the top of what is below a path
pub under-top : (table : Map) (path : Names) → node_at (under table path) [] ≡ node_at table path
under-top table path = under-stands table path [] ∙ ap (node_at table) (append-nil path)

pub none-under : (table : Map) (path : Names) → under table path ≡ fin.empty → node_at table path ≡ None
none-under table path none = sym (under-top table path) ∙ ap (λ t. node_at t []) none ∙ empty-at []

pub no-entries : fin.entries (fin.empty {K = Names} {X = Node} {R = path_cmp}) ≡ []
no-entries = none-left _ (sym (fin.len-entries {R = path_cmp} fin.empty) ∙ fin.len-empty path_cmp Node)

pub none-named : (path : Names) → children fin.empty path ≡ []
unfolding children
none-named path = ap (λ (l : Rows). filter_map (name_in path) (map (λ e. e.0) l)) no-entries

pub empty-names : children fin.empty [] ≡ []
empty-names = none-named []

-- the names at the top of a part are those of the directory that it is a part of
pub names-here : (part : Map) (path : Names) → children (under part path) [] ≡ children part path
names-here part path = children-under part path [] ∙ ap (children part) (append-nil path)

pub names-below : (table : Map) (root path : Names) → children (under table (root ++ path)) [] ≡ children (under table root) path
names-below table root path = names-here table (root ++ path) ∙ sym (children-under table root path)
