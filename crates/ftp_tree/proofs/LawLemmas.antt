-- Laws of the tree's definitions, path by path.
use Rattle.std.proofs.Common.{ℕ, zero, suc, ◌+◌, ◌-◌, ◌<◌, ◌≤◌, ◌≡◌, Bool, true, false, cond, Option, Some, None, is_some, List, [], ◌∷◌, ◌++◌, length, take, drop, get_or, refl, sym, ap, ◌∙◌, subst, arith}
use Rattle.std.specs.Prelude.{map}
use Rattle.std.specs.List.{filter_map, cons_option, slice_get, AllByRecursion, Contains}
use Rattle.std.specs.Ordering.{eq_by_cmp, is_eq, is_lt, nat_cmp, ordering_then}
use Rattle.std.specs.declared.cmp.Ordering.{Ordering}
use Rattle.std.specs.declared.cmp.Ordering.TheVariants.{Less, Equal, Greater}
use Rattle.std.specs.Cmp.{tied_itself}
use Rattle.std.specs.Cmp.Lexicographic.{slice_cmp}
use Rattle.std.specs.FinMap.{is_sorted}
use Rattle.std.specs.FinMap.Entries.{find, below_all}
use Rattle.std.proofs.lemmas.Bool.{and_parts, cond-true, cond-false, true≢false}
use Rattle.std.proofs.lemmas.List.{append-nil, length-append, length-take, drop_at}
use Rattle.ftp_path.specs.Path.{parent, Names, path_cmp, is_within, only_name, name_in, moved_path}
use Rattle.ftp_tree.specs.Rows.{Rows}
use Rattle.ftp_tree.specs.Map.{Node}
use Rattle.ftp_tree.specs.Tree.{Table, node_at, children, under, moved, IsTree, whenever, directory_refusal, source_refusal, target_refusal, rename_refusal}
use Rattle.ftp_tree.specs.declared.fault.TreeFault.TheVariants.{Exists, WrongKind}
use Rattle.ftp_tree.specs.Laws.{MovesAll, UnderStandsBelow, RenameMovesAll, ChildrenStand, NamesRise}
use Rattle.ftp_tree.proofs.EntryLemmas.{path_total, less-from, true-from}
use Rattle.ftp_path.proofs.KeyLemmas.{within-parts, within-append}
use Rattle.ftp_tree.proofs.TableLemmas.{both-none, not-held}
use Rattle.ftp_tree.proofs.MapLemmas.{cmp-front, same, false-where, apart, apart-back, eq-fronts}
use Rattle.std.specs.FinMap as fin
use Rattle.ftp_tree.specs.Map as maps
use Rattle.ftp_tree.proofs.MapLemmas as on_map

-- ---- below a path

pub under-stands : UnderStandsBelow
unfolding node_at under
under-stands table root path = on_map.under-stands table.map root path

-- ---- all that stands

-- what holds of each path that is found holds of each entry
pub each-found : (P : Names → Type 0) (es : Rows) → ((p : Names) → is_some (find path_cmp p es) ≡ true → P p) → AllByRecursion (λ e. P e.0) es
each-found P [] all = tt
each-found P (e ∷ es) all = (
  all e.0 (ap (λ r. is_some (cond (is_eq r) (Some e.1) (find path_cmp e.0 es))) (tied_itself path_total e.0)),
  each-found P es (λ p found. all p (either (eq_by_cmp path_cmp p e.0) (find path_cmp p es) found)),
)
  where
    either : (b : Bool) (o : Option Node) → is_some o ≡ true → is_some (cond b (Some e.1) o) ≡ true
    either true o found = refl
    either false o found = found

pub parent-append : (above : Names) (name : List ℕ) (rest : Names) → parent (above ++ name ∷ rest) ≡ above ++ parent (name ∷ rest)
unfolding parent
parent-append [] name rest = refl
parent-append (first ∷ above) name rest =
    let long : length (above ++ name ∷ rest) ≡ length above + suc (length rest) = length-append above (name ∷ rest) in
    let less : length ((first ∷ above) ++ name ∷ rest) - 1 ≡ suc (length (above ++ name ∷ rest) - 1) = omega arith in
    ap (λ n. take n (first ∷ (above ++ name ∷ rest))) less ∙ ap (λ p. first ∷ p) (parent-append above name rest)

pub parent-length : (path : Names) → length (parent path) ≤ length path - 1
unfolding parent
parent-length path = omega (arith, length-take (length path - 1) path)

-- where a path stands in a tree, so does each above it
pub stands-above : (table : Table) → IsTree table → (n : ℕ) (above rest : Names) → length rest ≤ n → is_some (node_at table (above ++ rest)) ≡ true → is_some (node_at table above) ≡ true
stands-above table tree n above [] short some = ap (λ p. is_some (node_at table p)) (sym (append-nil above)) ∙ some
stands-above table tree zero above (name ∷ rest) short some = absurd (omega arith)
stands-above table tree (suc n) above (name ∷ rest) short some =
    let shorter : length (parent (name ∷ rest)) ≤ n = omega (arith, parent-length (name ∷ rest)) in
    stands-above table tree n above (parent (name ∷ rest)) shorter
    (ap (λ p. is_some (node_at table p)) (sym (parent-append above name rest)) ∙ ap is_some (tree.parents (above ++ name ∷ rest) some))

-- ---- moves

module _ (from to : Names) (apart_from : is_within from to ≡ false) where
  abbrev all : Rows → Rows
  all = map (λ e. (moved_path from to e.0, e.1))

  abbrev Free : Rows → Type 0
  Free = AllByRecursion (λ e. is_within to e.0 ≡ false)

  moved-in : (path : Names) → is_within from path ≡ true → moved_path from to path ≡ to ++ drop (length from) path
  unfolding moved_path
  moved-in path inside = cond-true (is_within from path) (to ++ drop (length from) path) path inside

  moved-out : (path : Names) → is_within from path ≡ false → moved_path from to path ≡ path
  unfolding moved_path
  moved-out path outside = cond-false (is_within from path) (to ++ drop (length from) path) path outside

  comes : (rest : Names) (es : Rows) → Free es → find path_cmp (to ++ rest) (all es) ≡ find path_cmp (from ++ rest) es
  comes rest [] free = refl
  comes rest (e ∷ es) free =
      let next = comes rest es free.1 in
      elim (is_within from e.0) as (λ b. is_within from e.0 ≡ b
      → cond (eq_by_cmp path_cmp (to ++ rest) (moved_path from to e.0)) (Some e.1) (find path_cmp (to ++ rest) (all es)) ≡ cond (eq_by_cmp path_cmp (from ++ rest) e.0) (Some e.1) (find path_cmp (from ++ rest) es)) [
        | true ↦ λ inside.
            ap (cond (eq_by_cmp path_cmp (to ++ rest) (moved_path from to e.0)) (Some e.1)) next
            ∙ ap (λ b. cond b (Some e.1) (find path_cmp (from ++ rest) es)) (ap (eq_by_cmp path_cmp (to ++ rest)) (moved-in e.0 inside)
            ∙ eq-fronts to from rest (drop (length from) e.0) ∙ ap (eq_by_cmp path_cmp (from ++ rest)) (sym (within-parts from e.0 inside)))
        | false ↦ λ outside.
            cond-false (eq_by_cmp path_cmp (to ++ rest) (moved_path from to e.0)) _ _ (ap (eq_by_cmp path_cmp (to ++ rest)) (moved-out e.0 outside) ∙ apart-back to (to ++ rest) e.0 (within-append to rest) free.0)
            ∙ next ∙ sym (cond-false (eq_by_cmp path_cmp (from ++ rest) e.0) _ _ (apart-back from (from ++ rest) e.0 (within-append from rest) outside))
      ] refl

  within-moved : (path : Names) → is_within from path ≡ true → is_within to (moved_path from to path) ≡ true
  within-moved path inside = ap (is_within to) (moved-in path inside) ∙ within-append to (drop (length from) path)

  goes : (path : Names) → is_within from path ≡ true → is_within to path ≡ false → (es : Rows) → find path_cmp path (all es) ≡ None
  goes path inside outside [] = refl
  goes path inside outside (e ∷ es) =
      cond-false (eq_by_cmp path_cmp path (moved_path from to e.0)) _ _ (elim (is_within from e.0) as (λ b. is_within from e.0 ≡ b → eq_by_cmp path_cmp path (moved_path from to e.0) ≡ false) [
        | true ↦ λ in_e. apart to path (moved_path from to e.0) outside (within-moved e.0 in_e)
        | false ↦ λ out_e. ap (eq_by_cmp path_cmp path) (moved-out e.0 out_e) ∙ apart-back from path e.0 inside out_e
      ] refl) ∙ goes path inside outside es

  stays : (path : Names) → is_within from path ≡ false → is_within to path ≡ false → (es : Rows) → find path_cmp path (all es) ≡ find path_cmp path es
  stays path out_from out_to [] = refl
  stays path out_from out_to (e ∷ es) =
      let next = stays path out_from out_to es in
      elim (is_within from e.0) as (λ b. is_within from e.0 ≡ b
      → cond (eq_by_cmp path_cmp path (moved_path from to e.0)) (Some e.1) (find path_cmp path (all es)) ≡ cond (eq_by_cmp path_cmp path e.0) (Some e.1) (find path_cmp path es)) [
        | true ↦ λ in_e.
            cond-false (eq_by_cmp path_cmp path (moved_path from to e.0)) _ _ (apart to path (moved_path from to e.0) out_to (within-moved e.0 in_e))
            ∙ next ∙ sym (cond-false (eq_by_cmp path_cmp path e.0) _ _ (apart from path e.0 out_from in_e))
        | false ↦ λ out_e. ap (λ p. cond (eq_by_cmp path_cmp path p) (Some e.1) (find path_cmp path (all es))) (moved-out e.0 out_e) ∙ ap (cond (eq_by_cmp path_cmp path e.0) (Some e.1)) next
      ] refl

pub get-moved : (table : Table) (from to path : Names) → node_at (moved table from to) path ≡ find path_cmp path (map (λ e. (moved_path from to e.0, e.1)) (fin.entries table.map))
unfolding node_at maps.node_at moved
get-moved table from to path = fin.get-from_entries path_total (map (λ e. (moved_path from to e.0, e.1)) (fin.entries table.map)) path

pub get-node : (table : Table) (path : Names) → find path_cmp path (fin.entries table.map) ≡ node_at table path
unfolding node_at
get-node table path = on_map.get-node table.map path

-- what a rename that is not refused asks of the new path
pub target-parts : (table : Table) (from to : Names) → rename_refusal table from to ≡ None
    → (is_some (node_at table to) ≡ false) × (is_within from to ≡ false) × (directory_refusal (node_at table (parent to)) ≡ None)
unfolding rename_refusal target_refusal
target-parts table from to none =
    let first = both-none (source_refusal table from) _ none in
    let second = both-none (whenever (is_some (node_at table to)) Exists) _ first.1 in
    let third = both-none (whenever (is_within from to) WrongKind) _ second.1 in
    let fourth = both-none (directory_refusal (node_at table (parent to))) _ third.1 in
    (not-held (is_some (node_at table to)) Exists second.0, not-held (is_within from to) WrongKind third.0, fourth.0)

-- nothing stands at or below the new path
pub free-to : (table : Table) (to : Names) → IsTree table → is_some (node_at table to) ≡ false → (path : Names) → is_some (node_at table path) ≡ true → is_within to path ≡ false
free-to table to tree none path some =
    false-where (is_within to path) (λ inside.
    true≢false (sym (stands-above table tree (length (drop (length to) path)) to (drop (length to) path) (omega arith)
    (ap (λ p. is_some (node_at table p)) (sym (within-parts to path inside)) ∙ some)) ∙ none))

pub moves-where : (table : Table) (from to : Names) → IsTree table → is_some (node_at table to) ≡ false → is_within from to ≡ false → MovesAll table (moved table from to) from to
moves-where table from to tree absent beside =
    let es = fin.entries table.map in
    let free = each-found (λ p. is_within to p ≡ false) es (λ p found. free-to table to tree absent p (ap is_some (sym (get-node table p)) ∙ found)) in
    record {
      comes = λ rest. get-moved table from to (to ++ rest) ∙ comes from to beside rest es free ∙ get-node table (from ++ rest);
      goes = λ path inside outside. get-moved table from to path ∙ goes from to beside path inside outside es;
      stays = λ path out_from out_to. get-moved table from to path ∙ stays from to beside path out_from out_to es ∙ get-node table path;
    }

pub rename-moves : RenameMovesAll
rename-moves table from to tree none =
    let parts = target-parts table from to none in
    moves-where table from to tree parts.0 parts.1

-- ---- children

name_in-of : (path : Names) (name : List ℕ) → name_in path (path ++ name ∷ []) ≡ Some name
unfolding name_in
name_in-of path name =
    cond-true (is_within path (path ++ name ∷ [])) (only_name (drop (length path) (path ++ name ∷ []))) None (within-append path (name ∷ []))
    ∙ ap only_name (drop_at path (name ∷ []) (length path) refl)

only : (rest : Names) (name : List ℕ) → only_name rest ≡ Some name → rest ≡ name ∷ []
only [] name is = cc
only (first ∷ []) name is = cc
only (first ∷ second ∷ rest) name is = cc

pub of-name_in : (path other : Names) (name : List ℕ) → name_in path other ≡ Some name → other ≡ path ++ name ∷ []
unfolding name_in
of-name_in path other name is =
    elim (is_within path other) as (λ b. is_within path other ≡ b → (cond b (only_name (drop (length path) other)) None) ≡ Some name → other ≡ path ++ name ∷ []) [
      | true ↦ λ inside is. within-parts path other inside ∙ ap (λ rest. path ++ rest) (only (drop (length path) other) name is)
      | false ↦ λ outside is. cc
    ] refl is

names : Names → Rows → List (List ℕ)
names path [] = []
names path (e ∷ es) = cons_option (name_in path e.0) (names path es)

names-keys : (path : Names) (es : Rows) → filter_map (name_in path) (map (λ e. e.0) es) ≡ names path es
unfolding names
names-keys path [] = refl
names-keys path (e ∷ es) = ap (cons_option (name_in path e.0)) (names-keys path es)

contains-later : {X : Type 0} (x y : X) (xs : List X) → Contains xs x → Contains (y ∷ xs) x
contains-later x y xs found = (suc found.0, omega (arith, found.1), found.2)

contains-option : {X : Type 0} (x : X) (o : Option X) (xs : List X) → Contains xs x → Contains (cons_option o xs) x
contains-option x None xs found = found
contains-option x (Some y) xs found = contains-later x y xs found

named-found : (path : Names) (name : List ℕ) (es : Rows) → is_some (find path_cmp (path ++ name ∷ []) es) ≡ true → Contains (names path es) name
unfolding names
named-found path name [] found = absurd (true≢false (sym found))
named-found path name (e ∷ es) found =
    elim (eq_by_cmp path_cmp (path ++ name ∷ []) e.0) as (λ b. eq_by_cmp path_cmp (path ++ name ∷ []) e.0 ≡ b → is_some (cond b (Some e.1) (find path_cmp (path ++ name ∷ []) es)) ≡ true → Contains (cons_option (name_in path e.0) (names path es)) name) [
      | true ↦ λ equal _.
          let here : name_in path e.0 ≡ Some name = ap (name_in path) (sym (same (path ++ name ∷ []) e.0 equal)) ∙ name_in-of path name in
          subst (λ o. Contains (cons_option o (names path es)) name) (sym here) (0, omega arith, refl)
      | false ↦ λ other found. contains-option name (name_in path e.0) (names path es) (named-found path name es found)
    ] refl found

found-named : (path : Names) (name : List ℕ) (es : Rows) → Contains (names path es) name → is_some (find path_cmp (path ++ name ∷ []) es) ≡ true
unfolding names
found-named path name [] found = absurd (omega (arith, found.1))
found-named path name (e ∷ es) found =
    elim (name_in path e.0) as (λ o. name_in path e.0 ≡ o → Contains (cons_option o (names path es)) name → is_some (cond (eq_by_cmp path_cmp (path ++ name ∷ []) e.0) (Some e.1) (find path_cmp (path ++ name ∷ []) es)) ≡ true) [
      | None ↦ λ other found. either (eq_by_cmp path_cmp (path ++ name ∷ []) e.0) (found-named path name es found)
      | Some first ↦ λ here found. by (λ later. found-named path name es later) first here found.0 found.1 found.2
    ] refl found
  where
    either : (b : Bool) → is_some (find path_cmp (path ++ name ∷ []) es) ≡ true → is_some (cond b (Some e.1) (find path_cmp (path ++ name ∷ []) es)) ≡ true
    either true found = refl
    either false found = found

    by : (Contains (names path es) name → is_some (find path_cmp (path ++ name ∷ []) es) ≡ true) → (first : List ℕ) → name_in path e.0 ≡ Some first → (k : ℕ) → k < length (first ∷ names path es) → get_or (first ∷ names path es) k name ≡ name
        → is_some (cond (eq_by_cmp path_cmp (path ++ name ∷ []) e.0) (Some e.1) (find path_cmp (path ++ name ∷ []) es)) ≡ true
    by more first here zero within is =
        let there : e.0 ≡ path ++ name ∷ [] = of-name_in path e.0 first here ∙ ap (λ n. path ++ n ∷ []) is in
        let equal : eq_by_cmp path_cmp (path ++ name ∷ []) e.0 ≡ true = ap (eq_by_cmp path_cmp (path ++ name ∷ [])) there ∙ ap is_eq (tied_itself path_total (path ++ name ∷ [])) in
        ap (λ b. is_some (cond b (Some e.1) (find path_cmp (path ++ name ∷ []) es))) equal
    by more first here (suc k) within is = either (eq_by_cmp path_cmp (path ++ name ∷ []) e.0) (more (k, omega arith, is))

pub children-stand : ChildrenStand
unfolding children maps.children
children-stand table path name =
    let here : children table path ≡ names path (fin.entries table.map) = names-keys path (fin.entries table.map) in (
      λ found. ap is_some (sym (get-node table (path ++ name ∷ []))) ∙ found-named path name (fin.entries table.map) (subst (λ l. Contains l name) here found),
      λ some. subst (λ l. Contains l name) (sym here) (named-found path name (fin.entries table.map) (ap is_some (get-node table (path ++ name ∷ [])) ∙ some)),
    )

-- ---- their order

then-equal : (r : Ordering) → ordering_then r Equal ≡ r
then-equal Less = refl
then-equal Equal = refl
then-equal Greater = refl

-- what is listed behind a path is named behind it
named-behind : (x path : Names) (es : Rows) (place : ℕ) (name : List ℕ) → below_all path_cmp x es ≡ true → slice_get (names path es) place ≡ Some name → path_cmp x (path ++ name ∷ []) ≡ Less
unfolding names
named-behind x path [] place name below is = cc
named-behind x path (e ∷ es) place name below is =
    let both = and_parts (is_lt (path_cmp x e.0)) (below_all path_cmp x es) below in
    let rest = λ (place : ℕ) (is : slice_get (names path es) place ≡ Some name). named-behind x path es place name both.1 is in
    elim (name_in path e.0) as (λ o. name_in path e.0 ≡ o → slice_get (cons_option o (names path es)) place ≡ Some name → path_cmp x (path ++ name ∷ []) ≡ Less) [
      | None ↦ λ other is. rest place is
      | Some first ↦ λ here is. (elim place as (λ place. slice_get (first ∷ names path es) place ≡ Some name → path_cmp x (path ++ name ∷ []) ≡ Less) [
        | zero ↦ λ is. ap (path_cmp x) (sym (of-name_in path e.0 name (here ∙ is))) ∙ less-from (path_cmp x e.0) both.0
        | suc place ↦ λ is. rest place is
      ]) is
    ] refl is

AreRising : List (List ℕ) → Type 0
AreRising names = (place later : ℕ) (name other : List ℕ) → place < later → slice_get names place ≡ Some name → slice_get names later ≡ Some other → slice_cmp nat_cmp name other ≡ Less

-- a name before names that rise
rising-first : (first : List ℕ) (names : List (List ℕ)) → ((place : ℕ) (name : List ℕ) → slice_get names place ≡ Some name → slice_cmp nat_cmp first name ≡ Less) → AreRising names → AreRising (first ∷ names)
unfolding AreRising
rising-first first names before rest place zero name other less is at = absurd (omega arith)
rising-first first names before rest zero (suc later) name other less is at =
    ap (λ n. slice_cmp nat_cmp n other) (sym (some-is first name is)) ∙ before later other at
  where
    some-is : (a b : List ℕ) → ◌≡◌ {A = Option (List ℕ)} (Some a) (Some b) → a ≡ b
    some-is a b is = cc
rising-first first names before rest (suc place) (suc later) name other less is at = rest place later name other (omega arith) is at

names-rise-rows : (path : Names) (es : Rows) → is_sorted path_cmp es ≡ true → AreRising (names path es)
unfolding names AreRising
names-rise-rows path [] sorted = λ place later name other less is at. cc
names-rise-rows path (e ∷ es) sorted =
    let both = and_parts (below_all path_cmp e.0 es) (is_sorted path_cmp es) sorted in
    let rest = names-rise-rows path es both.1 in
    elim (name_in path e.0) as (λ o. name_in path e.0 ≡ o → AreRising (cons_option o (names path es))) [
      | None ↦ λ none. rest
      | Some first ↦ λ here. rising-first first (names path es) (λ place name is.
          sym (then-equal (slice_cmp nat_cmp first name)) ∙ sym (cmp-front path (first ∷ []) (name ∷ []))
          ∙ ap (λ p. path_cmp p (path ++ name ∷ [])) (sym (of-name_in path e.0 first here)) ∙ named-behind e.0 path es place name both.0 is) rest
    ] refl

pub names-rise : NamesRise
unfolding children maps.children AreRising
names-rise table path place later name other less is at =
    let here : children table path ≡ names path (fin.entries table.map) = names-keys path (fin.entries table.map) in
    names-rise-rows path (fin.entries table.map) (true-from _ (fin.entries_sorted table.map)) place later name other less (ap (λ l. slice_get l place) (sym here) ∙ is) (ap (λ l. slice_get l later) (sym here) ∙ at)
