-- A part of a map: taken, changed and put back.
use Rattle.std.proofs.Common.{ℕ, ◌≡◌, true, false, Some, IsSome, is_some, List, [], ◌∷◌, ◌++◌, length, drop, refl, sym, ap, ◌∙◌, subst, arith}
use Rattle.std.proofs.lemmas.Bool.{true≢false}
use Rattle.std.proofs.lemmas.List.{append-nil, append_assoc, length-append}
use Rattle.ftp_path.specs.Path.{parent, Names, is_within}
use Rattle.ftp_tree.specs.Rows.{whole}
use Rattle.ftp_tree.specs.declared.limits.Limits.{Limits}
use Rattle.ftp_tree.specs.Map.{Dir, Map}
use Rattle.ftp_tree.specs.Tree.{Table, node_at, under, with_part, IsTree}
use Rattle.ftp_tree.specs.Laws.{PartsArePut, PartsComeBack, PartsAreTrees}
use Rattle.ftp_path.proofs.PathLemmas.{parent-last}
use Rattle.ftp_path.proofs.KeyLemmas.{within-parts, within-append}
use Rattle.ftp_tree.proofs.MapLemmas.{false-where, same}
use Rattle.ftp_tree.proofs.LawLemmas.{parent-append, parent-length, under-stands}
use Rattle.ftp_tree.specs.Map as maps
use Rattle.ftp_tree.proofs.MapLemmas as on_map

-- ---- what stands once a part is put

pub part-comes : (table : Table) (root : Names) (part : Table) (path : Names) → node_at (with_part table root part) (root ++ path) ≡ node_at part path
unfolding node_at with_part
part-comes table root part path = on_map.part-comes table.map root part.map path

pub part-stays : (table : Table) (root : Names) (part : Table) (path : Names) → is_within root path ≡ false → node_at (with_part table root part) path ≡ node_at table path
unfolding node_at with_part
part-stays table root part path out = on_map.part-stays table.map root part.map path out

-- a part has the limits of its table, and a table with a part those of the part
pub under-limits : (table : Table) (root : Names) → (under table root).limits ≡ table.limits
unfolding under
under-limits table root = refl

pub part-limits : (table : Table) (root : Names) (part : Table) → (with_part table root part).limits ≡ part.limits
unfolding with_part
part-limits table root part = refl

-- what a map becomes with a part, or a part of it is, that is so of tables within the same limits
pub put-whole : (limits : Limits) (old part new : Map) (names : Names) → new ≡ maps.with_part old names part → whole limits new ≡ with_part (whole limits old) names (whole limits part)
unfolding with_part
put-whole limits old part new names is = ap (whole limits) is

pub taken-whole : (limits : Limits) (old part : Map) (names : Names) → part ≡ maps.under old names → whole limits part ≡ under (whole limits old) names
unfolding under
taken-whole limits old part names is = ap (whole limits) is

-- tables of the same limits, at whose paths the same stands, are one
pub same-nodes : (one other : Table) → one.limits ≡ other.limits → ((path : Names) → node_at one path ≡ node_at other path) → one ≡ other
unfolding node_at
same-nodes one other limits all =
    let maps = on_map.same-nodes one.map other.map all in
    λ i. record { limits = limits i; map = maps i }

pub part-taken : (table : Table) (root : Names) (part : Table) → under (with_part table root part) root ≡ part
part-taken table root part =
    same-nodes _ _ (under-limits (with_part table root part) root ∙ part-limits table root part)
    (λ path. under-stands (with_part table root part) root path ∙ part-comes table root part path)

pub parts-put : PartsArePut
parts-put table root part =
    record {
      comes = part-comes table root part;
      stays = part-stays table root part;
      taken = part-taken table root part;
    }

-- a map in which the part stands at the root, and all else as before, is the map with that part, where it has its limits
pub as-part : (table : Table) (root : Names) (part new : Table) → new.limits ≡ part.limits → ((path : Names) → node_at new (root ++ path) ≡ node_at part path)
    → ((path : Names) → is_within root path ≡ false → node_at new path ≡ node_at table path) → with_part table root part ≡ new
as-part table root part new limits comes stays =
    same-nodes _ _ (part-limits table root part ∙ sym limits) (λ path. elim (is_within root path) as (λ b. is_within root path ≡ b → node_at (with_part table root part) path ≡ node_at new path) [
      | true ↦ λ inside.
          let is = within-parts root path inside in
          ap (node_at (with_part table root part)) is ∙ part-comes table root part (drop (length root) path) ∙ sym (comes (drop (length root) path)) ∙ ap (node_at new) (sym is)
      | false ↦ λ out. part-stays table root part path out ∙ sym (stays path out)
    ] refl)

-- a part put twice is the last
pub put_again : (table : Table) (root : Names) (one other : Table) → with_part (with_part table root one) root other ≡ with_part table root other
put_again table root one other =
    sym (as-part table root other (with_part (with_part table root one) root other) (part-limits (with_part table root one) root other) (part-comes (with_part table root one) root other)
    (λ path out. part-stays (with_part table root one) root other path out ∙ part-stays table root one path out))

within-all : (path : Names) → is_within [] path ≡ true
within-all path = within-append [] path

pub under_all : (table : Table) → under table [] ≡ table
under_all table = same-nodes _ _ (under-limits table []) (λ path. under-stands table [] path)

pub part-back : (table : Table) (root : Names) → with_part table root (under table root) ≡ table
part-back table root = as-part table root (under table root) table (sym (under-limits table root)) (λ path. sym (under-stands table root path)) (λ path out. refl)

pub part_whole : (table part : Table) → with_part table [] part ≡ part
part_whole table part = as-part table [] part part refl (λ path. refl) (λ path out. absurd (true≢false (sym (within-all path) ∙ out)))

pub parts-back : PartsComeBack
parts-back =
    record {
      back = part-back;
      all = under_all;
      whole = part_whole;
    }

-- ---- trees

parent-top : parent [] ≡ []
unfolding parent
parent-top = refl

taken-tree : (table : Table) (root : Names) → IsTree table → node_at table root ≡ Some Dir → IsTree (under table root)
taken-tree table root tree dir =
    record {
      root = here;
      parents = up;
    }
  where
    here : node_at (under table root) [] ≡ Some Dir
    here = under-stands table root [] ∙ ap (node_at table) (append-nil root) ∙ dir

    up : (path : Names) → IsSome (node_at (under table root) path) → node_at (under table root) (parent path) ≡ Some Dir
    up [] some = ap (node_at (under table root)) parent-top ∙ here
    up (name ∷ names) some =
        under-stands table root (parent (name ∷ names)) ∙ ap (node_at table) (sym (parent-append root name names))
        ∙ tree.parents (root ++ name ∷ names) (subst (λ o. IsSome o) (under-stands table root (name ∷ names)) some)

-- the parent of a path outside is outside
out-up : (root path : Names) → is_within root path ≡ false → is_within root (parent path) ≡ false
out-up root [] out = ap (is_within root) parent-top ∙ out
out-up root (name ∷ names) out =
    false-where _ (λ inside.
    let rest = drop (length root) (parent (name ∷ names)) in
    let last = parent-last name names in
    let whole : name ∷ names ≡ root ++ (rest ++ last.0 ∷ []) = last.1 ∙ ap (λ p. p ++ last.0 ∷ []) (within-parts root (parent (name ∷ names)) inside) ∙ append_assoc root rest (last.0 ∷ []) in
    true≢false (sym (within-append root (rest ++ last.0 ∷ [])) ∙ ap (is_within root) (sym whole) ∙ out))

-- a path is not within a longer one
not_up : (name : List ℕ) (names : Names) → is_within (name ∷ names) (parent (name ∷ names)) ≡ false
not_up name names =
    false-where _ (λ inside.
    let whole = ap length (within-parts (name ∷ names) (parent (name ∷ names)) inside) in
    let more = length-append (name ∷ names) (drop (length (name ∷ names)) (parent (name ∷ names))) in
    let less = parent-length (name ∷ names) in
    absurd (omega arith))

put-tree : (table : Table) (root : Names) (part : Table) → IsTree table → node_at table root ≡ Some Dir → IsTree part → IsTree (with_part table root part)
put-tree table root part tree dir below =
    record {
      root = by_within [] (λ rest is. top rest (sym is)) (λ out. part-stays table root part [] out ∙ tree.root);
      parents = up;
    }
  where
    new : Table
    new = with_part table root part

    by_within : (path : Names) {X : Type 0} → ((rest : Names) → path ≡ root ++ rest → X) → (is_within root path ≡ false → X) → X
    by_within path {X} inside out =
        elim (is_within root path) as (λ b. is_within root path ≡ b → X) [
          | true ↦ λ is. inside (drop (length root) path) (within-parts root path is)
          | false ↦ λ is. out is
        ] refl

    at_root : node_at new root ≡ Some Dir
    at_root = ap (node_at new) (sym (append-nil root)) ∙ part-comes table root part [] ∙ below.root

    top : (rest : Names) → root ++ rest ≡ [] → node_at new [] ≡ Some Dir
    top rest is = by root rest is at_root
      where
        by : (root rest : Names) → root ++ rest ≡ [] → node_at new root ≡ Some Dir → node_at new [] ≡ Some Dir
        by [] rest is stands = stands
        by (name ∷ names) rest is stands = absurd (omega (arith, ap length is))

    up : (path : Names) → IsSome (node_at new path) → node_at new (parent path) ≡ Some Dir
    up path some = by_within path (inside path some) outside_up
      where
        inside : (path : Names) → IsSome (node_at new path) → (rest : Names) → path ≡ root ++ rest → node_at new (parent path) ≡ Some Dir
        inside path some [] is =
            ap (λ p. node_at new (parent p)) (is ∙ append-nil root) ∙ above_root root refl
          where
            above_root : (front : Names) → root ≡ front → node_at new (parent front) ≡ Some Dir
            above_root [] is = ap (node_at new) (parent-top ∙ sym is) ∙ at_root
            above_root (name ∷ names) is =
                part-stays table root part (parent (name ∷ names)) (ap (λ r. is_within r (parent (name ∷ names))) is ∙ not_up name names)
                ∙ tree.parents (name ∷ names) (ap (λ p. is_some (node_at table p)) (sym is) ∙ ap is_some dir)
        inside path some (name ∷ rest) is =
            ap (λ p. node_at new (parent p)) is ∙ ap (node_at new) (parent-append root name rest) ∙ part-comes table root part (parent (name ∷ rest))
            ∙ below.parents (name ∷ rest) (subst (λ o. IsSome o) (ap (node_at new) is ∙ part-comes table root part (name ∷ rest)) some)

        outside_up : is_within root path ≡ false → node_at new (parent path) ≡ Some Dir
        outside_up out =
            part-stays table root part (parent path) (out-up root path out) ∙ tree.parents path (subst (λ o. IsSome o) (part-stays table root part path out) some)

pub parts-trees : PartsAreTrees
parts-trees =
    record {
      taking = taken-tree;
      putting = put-tree;
    }
