-- The table that some rows are, and what a change of the rows makes of it.
use Rattle.std.proofs.Common.{ℕ, suc, ◌<◌, ◌≡◌, Bool, true, false, not, cond, Option, Some, None, is_some, List, [], ◌∷◌, length, refl, sym, ap, ◌∙◌, arith}
use Rattle.std.specs.Prelude.{map}
use Rattle.std.specs.List.{filter_map, sum_by, cons_option}
use Rattle.std.specs.Ordering.{eq_by_cmp}
use Rattle.std.specs.FinMap.Entries.{find, put}
use Rattle.std.proofs.lemmas.Bool.{true≢false}
use Rattle.ftp_path.specs.Path.{joined, Names, path_cmp, name_in, is_within}
use Rattle.ftp_tree.specs.Map.{Node, Dir, node_at, length_of, octets_in, children, root_alone}
use Rattle.ftp_tree.specs.Tree.{or_else, whenever}
use Rattle.ftp_tree.specs.declared.fault.TreeFault.{TreeFault}
use Rattle.ftp_tree.specs.Rows.{Rows, is_in_order, octets_of_rows, table_of}
use Rattle.ftp_tree.proofs.EntryLemmas.{path_total, T-from}
use Rattle.std.specs.FinMap as fin

-- ---- what a table holds

pub entries-table : (es : Rows) → is_in_order es ≡ true → fin.entries (table_of es) ≡ ([], Dir) ∷ es
unfolding table_of
entries-table es sorted = fin.entries-from_sorted path_cmp (([], Dir) ∷ es) (T-from _ sorted)

get-table : (es : Rows) → is_in_order es ≡ true → (p : Names) → fin.get (table_of es) p ≡ cond (eq_by_cmp path_cmp p []) (Some Dir) (find path_cmp p es)
unfolding table_of
get-table es sorted p = fin.get-from_sorted path_cmp (([], Dir) ∷ es) p (T-from _ sorted)

pub node_at-root : (es : Rows) → is_in_order es ≡ true → node_at (table_of es) [] ≡ Some Dir
unfolding node_at
node_at-root es sorted = get-table es sorted []

pub node_at-name : (es : Rows) → is_in_order es ≡ true → (name : List ℕ) (names : Names) → node_at (table_of es) (name ∷ names) ≡ find path_cmp (name ∷ names) es
unfolding node_at
node_at-name es sorted name names = get-table es sorted (name ∷ names)

-- by the names joined
pub node_at-none : (es : Rows) → is_in_order es ≡ true → (names : Names) (key : List ℕ) → joined names ≡ key → length key ≡ 0 → node_at (table_of es) names ≡ Some Dir
node_at-none es sorted [] key whole none = node_at-root es sorted
node_at-none es sorted (name ∷ names) key whole none = absurd (omega (arith, ap length whole))

pub node_at-some : (es : Rows) → is_in_order es ≡ true → (names : Names) (key : List ℕ) → joined names ≡ key → 0 < length key → node_at (table_of es) names ≡ find path_cmp names es
node_at-some es sorted [] key whole some = absurd (omega (arith, ap length whole))
node_at-some es sorted (name ∷ names) key whole some = node_at-name es sorted name names

pub len-table : (es : Rows) → is_in_order es ≡ true → fin.len (table_of es) ≡ suc (length es)
len-table es sorted = fin.len-entries (table_of es) ∙ ap length (entries-table es sorted)

pub octets-table : (es : Rows) → is_in_order es ≡ true → octets_in (table_of es) ≡ octets_of_rows es
unfolding octets_in
octets-table es sorted = ap (sum_by (λ entry. length_of entry.1)) (entries-table es sorted)

name_in-root : (path : Names) → name_in path [] ≡ None
unfolding name_in is_within
name_in-root [] = refl
name_in-root (name ∷ names) = refl

filter_map-keys : (f : Names → Option (List ℕ)) (es : Rows) → filter_map f (map (λ e. e.0) es) ≡ filter_map (λ e. f e.0) es
filter_map-keys f [] = refl
filter_map-keys f (e ∷ es) = ap (cons_option (f e.0)) (filter_map-keys f es)

pub children-table : (es : Rows) → is_in_order es ≡ true → (path : Names) → children (table_of es) path ≡ filter_map (λ row. name_in path row.0) es
unfolding children
children-table es sorted path =
    ap (λ (l : Rows). filter_map (name_in path) (map (λ e. e.0) l)) (entries-table es sorted)
    ∙ ap (λ o. cons_option o (filter_map (name_in path) (map (λ e. e.0) es))) (name_in-root path)
    ∙ filter_map-keys (name_in path) es

within-root : (name : List ℕ) (names : Names) → is_within (name ∷ names) [] ≡ false
unfolding is_within
within-root name names = refl

-- ---- rows that are put one by one

-- the last first
abbrev pub put_all : Rows → Rows
put_all [] = []
put_all (entry ∷ entries) = put path_cmp entry.0 entry.1 (put_all entries)

pub none-left : (es : Rows) → length es ≡ 0 → es ≡ []
none-left [] none = refl
none-left (e ∷ es) none = absurd (omega arith)

pub entries-all : (es : Rows) → fin.entries (fin.from_entries {R = path_cmp} es) ≡ put_all es
entries-all [] = none-left _ (sym (fin.len-entries {R = path_cmp} fin.empty) ∙ fin.len-empty path_cmp Node)
entries-all (e ∷ es) = fin.entries-insert path_total (fin.from_entries es) e.0 e.1 ∙ ap (put path_cmp e.0 e.1) (entries-all es)

pub table_of-none : table_of [] ≡ root_alone
unfolding root_alone
table_of-none =
    fin.same_entries_map _ _ (entries-table [] refl
    ∙ sym (fin.entries-insert path_total fin.empty [] Dir ∙ ap (put path_cmp [] Dir) (none-left _ (sym (fin.len-entries {R = path_cmp} fin.empty) ∙ fin.len-empty path_cmp Node))))

-- ---- the first refusal that applies

pub both-none : (a b : Option TreeFault) → or_else a b ≡ None → (a ≡ None) × (b ≡ None)
both-none None b none = (refl, none)
both-none (Some fault) b none = cc

pub not-held : (b : Bool) (fault : TreeFault) → whenever b fault ≡ None → b ≡ false
not-held true fault none = cc
not-held false fault none = refl

pub held : (b : Bool) (fault : TreeFault) → whenever (not b) fault ≡ None → b ≡ true
held true fault none = refl
held false fault none = cc

pub not-some : (o : Option Node) → is_some o ≡ false → o ≡ None
not-some None none = refl
not-some (Some node) none = absurd (true≢false none)
