-- Every change of the map leaves each file within the limit of a file.
use Rattle.std.proofs.Common.{◌≡◌, ℕ, ◌+◌, ◌≤◌, List, [], ◌∷◌, ◌++◌, Bool, true, false, not, cond, Option, Some, None, refl, sym, ap, subst, ◌∙◌, arith, length, append-nil, take, map, zero, suc}
use Rattle.std.specs.Prelude.{nat_le, ◌==◌, ◌&&◌, ◌||◌}
use Rattle.std.specs.FinMap as fin
use Rattle.std.specs.FinMap.{is_sorted}
use Rattle.std.specs.FinMap.Entries.{below_all, find}
use Rattle.std.specs.List.{AllByRecursion, find as find_first, range_with_len}
use Rattle.std.specs.Option.{is_some, unwrap_or}
use Rattle.std.specs.Ordering.{eq_by_cmp, is_eq, is_lt}
use Rattle.std.proofs.lemmas.Bool.{and_parts, cond_both, leb-true}
use Rattle.ftp_path.specs.Path.{Names, moved_path, path_cmp}
use Rattle.ftp_tree.specs.Rows.{Rows}
use Rattle.ftp_tree.specs.Map.{Node, Dir, File, octets_of, of_node}
use Rattle.ftp_tree.specs.Tree.{Table, file_limit, most_octets, node_at, octets_at, octets_or_none, octets_refusal, or_else, room_at, room_refusal, whenever, made, removed, installed, freed, moved, takes_place, under, with_part}
use Rattle.ftp_direct.specs.Direct.{State, counted_place, is_counted, limited, or_refused, part, place_in, put_refusal, refused_octets, refused_room, size_in}
use Rattle.ftp_direct.specs.declared.refusal.Refusal.{Refusal}
use Rattle.ftp_settings.specs.declared.representation.Kind.{Kind}
use Rattle.ftp_tree.specs.declared.fault.TreeFault.{TreeFault}
use Rattle.ftp_tree.specs.declared.fault.TreeFault.TheVariants.{TooBig, Full}
use Rattle.ftp_tree.proofs.EntryLemmas.{less-from, true-from}
use Rattle.ftp_tree.proofs.KeepLaws.{at-insert, at-remove, but_node, by-freed, with_node}
use Rattle.ftp_tree.proofs.MapLemmas.{cmp-front, same}
use Rattle.ftp_tree.proofs.LawLemmas.{get-moved, get-node, under-stands}
use Rattle.ftp_tree.proofs.PartLemmas.{part-taken, put_again}
use Rattle.ftp_tree.proofs.UnderLemmas.{insert-under, remove-under, moved-under}
use Rattle.ftp_server_model.specs.Held.{HasShortFiles}

-- what stands at a path, as a file within the limit, or as none
abbrev pub IsShortNode : Option Node → Type 0
IsShortNode node = length (unwrap_or (of_node octets_of node) []) ≤ most_octets

nodes_short : (table : Table) → HasShortFiles table → (path : Names) → IsShortNode (node_at table path)
unfolding octets_at
nodes_short table short path = short path

files_short : (table : Table) → ((path : Names) → IsShortNode (node_at table path)) → HasShortFiles table
unfolding octets_at
files_short table short path = short path

-- ---- one path changes

insert_short : (table : Table) (path : Names) (node : Node) → IsShortNode (Some node) → HasShortFiles table → HasShortFiles (with_node table path node)
insert_short table path node one short =
    files_short (with_node table path node)
    (λ other. subst IsShortNode (sym (at-insert table path node other))
    (cond_both (eq_by_cmp path_cmp other path) (Some node) (node_at table other) IsShortNode (λ is. one) (λ is. nodes_short table short other)))

remove_short : (table : Table) (path : Names) → HasShortFiles table → HasShortFiles (but_node table path)
remove_short table path short =
    files_short (but_node table path)
    (λ other. subst IsShortNode (sym (at-remove table path other))
    (cond_both (eq_by_cmp path_cmp other path) None (node_at table other) IsShortNode (λ is. omega arith) (λ is. nodes_short table short other)))

-- ---- paths move

abbrev AreShortRows : Rows → Type 0
AreShortRows es = AllByRecursion (λ e. IsShortNode (Some e.1)) es

none_before : (path : Names) (es : Rows) → below_all path_cmp path es ≡ true → find path_cmp path es ≡ None
none_before path [] below = refl
none_before path (e ∷ es) below =
    let both = and_parts (is_lt (path_cmp path e.0)) (below_all path_cmp path es) below in
    let apart : eq_by_cmp path_cmp path e.0 ≡ false = ap is_eq (less-from (path_cmp path e.0) both.0) in
    ap (λ b. cond b (Some e.1) (find path_cmp path es)) apart ∙ none_before path es both.1

same_path : (path : Names) → eq_by_cmp path_cmp path path ≡ true
same_path path = subst (λ p. eq_by_cmp path_cmp p p ≡ true) (append-nil path) (ap is_eq (cmp-front path [] []))

-- what is found at every path is short, and so is every row
rows_short : (es : Rows) → is_sorted path_cmp es ≡ true → ((path : Names) → IsShortNode (find path_cmp path es)) → AreShortRows es
rows_short [] sorted short = tt
rows_short (e ∷ es) sorted short =
    let both = and_parts (below_all path_cmp e.0 es) (is_sorted path_cmp es) sorted in
    let first : find path_cmp e.0 (e ∷ es) ≡ Some e.1 = ap (λ b. cond b (Some e.1) (find path_cmp e.0 es)) (same_path e.0) in
    (subst IsShortNode first (short e.0), rows_short es both.1 (λ path. behind path both.0 (eq_by_cmp path_cmp path e.0) refl))
  where
    behind : (path : Names) → below_all path_cmp e.0 es ≡ true → (b : Bool) → eq_by_cmp path_cmp path e.0 ≡ b → IsShortNode (find path_cmp path es)
    behind path below true is =
        let gone : find path_cmp path es ≡ None = ap (λ p. find path_cmp p es) (same path e.0 is) ∙ none_before e.0 es below in
        subst IsShortNode (sym gone) (omega arith)
    behind path below false is =
        let next : find path_cmp path (e ∷ es) ≡ find path_cmp path es = ap (λ b. cond b (Some e.1) (find path_cmp path es)) is in
        subst IsShortNode next (short path)

found_short : (from to path : Names) (es : Rows) → AreShortRows es → IsShortNode (find path_cmp path (map (λ e. (moved_path from to e.0, e.1)) es))
found_short from to path [] short = omega arith
found_short from to path (e ∷ es) short =
    cond_both (eq_by_cmp path_cmp path (moved_path from to e.0)) (Some e.1) (find path_cmp path (map (λ e. (moved_path from to e.0, e.1)) es)) IsShortNode
    (λ is. short.0) (λ is. found_short from to path es short.1)

moved_short : (table : Table) (from to : Names) → HasShortFiles table → HasShortFiles (moved table from to)
moved_short table from to short =
    let rows = rows_short (fin.entries table.map) (true-from _ (fin.entries_sorted table.map)) (λ path. subst IsShortNode (sym (get-node table path)) (nodes_short table short path)) in
    files_short (moved table from to) (λ path. subst IsShortNode (sym (get-moved table from to path)) (found_short from to path (fin.entries table.map) rows))

-- ---- the part that a session sees changes

pub made_short : (table : Table) (root path : Names) → HasShortFiles table → HasShortFiles (with_part table root (made (under table root) path))
unfolding made
made_short table root path short = subst HasShortFiles (sym (insert-under table root path Dir)) (insert_short table (root ++ path) Dir (omega arith) short)

pub removed_short : (table : Table) (root path : Names) → HasShortFiles table → HasShortFiles (with_part table root (removed (under table root) path))
unfolding removed
removed_short table root path short = subst HasShortFiles (sym (remove-under table root path)) (remove_short table (root ++ path) short)

pub installed_short : (table : Table) (root path : Names) (octets : List ℕ) (moment : ℕ) → length octets ≤ most_octets → HasShortFiles table
    → HasShortFiles (with_part table root (installed (under table root) path octets moment))
unfolding installed
installed_short table root path octets moment few short =
    subst HasShortFiles (sym (insert-under table root path (File octets moment))) (insert_short table (root ++ path) (File octets moment) few short)

moves_short : (table : Table) (root from to : Names) → HasShortFiles table → HasShortFiles (with_part table root (moved (under table root) from to))
moves_short table root from to short = subst HasShortFiles (sym (moved-under table root from to)) (moved_short table (root ++ from) (root ++ to) short)

-- the same where a file's place is freed first
pub renamed_short : (onto : Bool) (table : Table) (root from to : Names) → HasShortFiles table → HasShortFiles (with_part table root (moved (freed onto (under table root) from to) from to))
renamed_short onto table root from to short =
    let part = removed (under table root) to in
    let without = with_part table root part in
    by-freed (λ part. HasShortFiles (with_part table root (moved part from to))) onto (under table root) from to (moves_short table root from to short)
    (λ takes. subst HasShortFiles (ap (λ part. with_part without root (moved part from to)) (part-taken table root part) ∙ put_again table root part (moved part from to))
    (moves_short without root from to (removed_short table root to short)))

-- a file of it is within the limit
pub seen_short : (table : Table) (root path : Names) → HasShortFiles table → length (octets_or_none (under table root) path) ≤ most_octets
unfolding octets_at
seen_short table root path short = subst IsShortNode (sym (under-stands table root path)) (nodes_short table short (root ++ path))

-- ---- its limits stay

pub made-limits : (table : Table) (path : Names) → (made table path).limits ≡ table.limits
unfolding made
made-limits table path = refl

pub removed-limits : (table : Table) (path : Names) → (removed table path).limits ≡ table.limits
unfolding removed
removed-limits table path = refl

pub installed-limits : (table : Table) (path : Names) (octets : List ℕ) (moment : ℕ) → (installed table path octets moment).limits ≡ table.limits
unfolding installed
installed-limits table path octets moment = refl

pub freed-limits : (onto : Bool) (table : Table) (from to : Names) → (freed onto table from to).limits ≡ table.limits
unfolding freed
freed-limits onto table from to =
    cond_both (onto && takes_place table from to) (removed table to) table (λ (t : Table). t.limits ≡ table.limits) (λ is. removed-limits table to) (λ is. refl)

-- ---- the limit of a file

few_by : (table : Table) (small : Bool) (count : ℕ) (why : Option TreeFault) → nat_le count (file_limit table) ≡ small → is_some (or_else (whenever (not small) TooBig) why) ≡ false → count ≤ most_octets
few_by table true count why is none = omega (arith, leb-true count (file_limit table) is)
few_by table false count why is none = absurd (let e : true ≡ false = none in cc)

-- so many octets pass no limit of octets
pub not_over : (table : Table) (path : Names) (count : ℕ) → is_some (octets_refusal table path count) ≡ false → count ≤ most_octets
not_over table path count none = few_by table (nat_le count (file_limit table)) count (whenever (not (nat_le count (room_at table path))) Full) refl none

-- nor does one that may be put
pub second_is_none : (first second : Option Refusal) → or_refused first second ≡ None → second ≡ None
second_is_none None second is = is
second_is_none (Some why) second is = absurd (cc)

octets_fit : (fault : Option TreeFault) → refused_octets fault ≡ None → is_some fault ≡ false
octets_fit None is = refl
octets_fit (Some fault) is = absurd (cc)

pub put_fits : (state : State) (path : Names) (count : ℕ) → put_refusal state path count ≡ None → count ≤ most_octets
put_fits state path count none =
    let few = second_is_none (refused_room (limited path (room_refusal (part state) path))) _ none in
    not_over (part state) path count (octets_fit (octets_refusal (part state) path count) few)

-- ---- where an upload begins

place_before : (test : ℕ → Bool) (count from most : ℕ) → from + count ≤ most + 1 → unwrap_or (find_first test (range_with_len from count)) 0 ≤ most
place_before test zero from most within = omega arith
place_before test (suc count) from most within =
    cond_both (test from) (Some from) (find_first test (range_with_len (from + 1) count)) (λ o. unwrap_or o 0 ≤ most) (λ is. omega (arith, within))
    (λ is. place_before test count (from + 1) most (omega (arith, within)))

-- the place that an offset leads to is within the file
place_few : (kind : Kind) (octets : List ℕ) (offset : ℕ) → unwrap_or (place_in kind octets offset) 0 ≤ length octets
unfolding place_in
place_few kind octets offset = place_before (λ place. size_in kind (take place octets) == offset) (length octets + 1) 0 (length octets) (omega arith)

-- an offset skips no more octets than the file has
pub skips_few : (kind : Kind) (octets : List ℕ) (offset : ℕ) → unwrap_or (counted_place kind octets offset) 0 ≤ length octets
skips_few kind octets offset =
    cond_both (is_counted kind (length octets) || (offset == 0)) (place_in kind octets offset) None (λ o. unwrap_or o 0 ≤ length octets)
    (λ is. place_few kind octets offset) (λ is. omega arith)
