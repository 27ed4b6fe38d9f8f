-- A move as the code does it: a place is had, what is moved is taken out, and put into the place.
use Rattle.std.proofs.Common.{◌≡◌, true, false, Option, Some, None, is_some, [], ◌∷◌, ◌++◌, length, drop, refl, sym, ap, ◌∙◌, subst}
use Rattle.std.proofs.lemmas.Bool.{true≢false}
use Rattle.std.proofs.lemmas.List.{append-nil}
use Rattle.std.proofs.Math.Seq.{drop-append_seam}
use Rattle.ftp_path.specs.Path.{Names, is_within}
use Rattle.ftp_path.proofs.KeyLemmas.{within-append, within-parts}
use Rattle.ftp_tree.specs.Map.{Node, Dir}
use Rattle.ftp_tree.specs.Tree.{Table, IsTree, node_at, under, with_part, moved, source_answer, source_refusal, rename_refusal}
use Rattle.ftp_tree.specs.Laws.{MovesAll}
use Rattle.ftp_tree.proofs.KeepLaws.{alone, at-insert, changes-keep, nothing, nothing-at}
use Rattle.ftp_tree.proofs.LawLemmas.{moves-where, target-parts, under-stands}
use Rattle.ftp_tree_nodes.proofs.WholeLemmas.{Keeps}
use Rattle.ftp_tree.proofs.LeafLemmas.{none-absent, root-dir}
use Rattle.ftp_tree.proofs.PartLemmas.{part-comes, part-limits, part-stays, same-nodes, parts-trees, under-limits}
use Rattle.ftp_tree.proofs.TableLemmas.{both-none, not-some}
use Rattle.ftp_tree.proofs.UnderLemmas.{moved-limits, moved-under}
use Rattle.ftp_tree.proofs.RowLemmas.{within-inside}

module _ (table : Table) (from to : Names) (node : Node) (tree : IsTree table) (absent : is_some (node_at table to) ≡ false) (beside : is_within from to ≡ false) where
  -- a node alone, and the table with it in the place
  abbrev one : Table
  one = alone table.limits node

  abbrev placed : Table
  placed = with_part table to one

  -- the table without what is moved
  abbrev left : Table
  left = with_part placed from (nothing table.limits)

  -- what is moved is as it was when the place is had
  pub still : (rest : Names) → node_at placed (from ++ rest) ≡ node_at table (from ++ rest)
  still rest = elim (is_within to (from ++ rest)) as (λ b. is_within to (from ++ rest) ≡ b → node_at placed (from ++ rest) ≡ node_at table (from ++ rest)) [
    | true ↦ λ inside. by (drop (length to) (from ++ rest)) (within-parts to (from ++ rest) inside)
    | false ↦ λ out. part-stays table to one (from ++ rest) out
  ] refl
    where
      by : (more : Names) → from ++ rest ≡ to ++ more → node_at placed (from ++ rest) ≡ node_at table (from ++ rest)
      by [] is = absurd (true≢false (sym (within-append from rest) ∙ ap (is_within from) (is ∙ append-nil to) ∙ beside))
      by (name ∷ more) is =
          ap (node_at placed) is ∙ part-comes table to one (name ∷ more) ∙ at-insert (nothing table.limits) [] node (name ∷ more) ∙ nothing-at table.limits (name ∷ more)
          ∙ sym (none-absent table to tree (not-some _ absent) name more) ∙ ap (node_at table) (sym is)

  pub place-stands : node_at placed to ≡ Some node
  place-stands = ap (node_at placed) (sym (append-nil to)) ∙ part-comes table to one [] ∙ at-insert (nothing table.limits) [] node []

  pub moved-so : with_part left to (under placed from) ≡ moved table from to
  moved-so = same-nodes _ _ (part-limits left to (under placed from) ∙ under-limits placed from ∙ part-limits table to one ∙ sym (moved-limits table from to)) (λ path. elim (is_within to path) as (λ b. is_within to path ≡ b → node_at (with_part left to (under placed from)) path ≡ node_at (moved table from to) path) [
    | true ↦ λ inside.
        let rest = drop (length to) path in
        let is = within-parts to path inside in
        ap (node_at (with_part left to (under placed from))) is ∙ part-comes left to (under placed from) rest
        ∙ under-stands placed from rest ∙ still rest ∙ sym (all.comes rest) ∙ ap (node_at (moved table from to)) (sym is)
    | false ↦ λ out. part-stays left to (under placed from) path out ∙ outside path out
  ] refl)
    where
      all : MovesAll table (moved table from to) from to
      all = moves-where table from to tree absent beside

      outside : (path : Names) → is_within to path ≡ false → node_at left path ≡ node_at (moved table from to) path
      outside path out = elim (is_within from path) as (λ b. is_within from path ≡ b → node_at left path ≡ node_at (moved table from to) path) [
        | true ↦ λ inside.
            let rest = drop (length from) path in
            let is = within-parts from path inside in
            ap (node_at left) is ∙ part-comes placed from (nothing table.limits) rest ∙ nothing-at table.limits rest ∙ sym (all.goes path inside out)
        | false ↦ λ beside_from. part-stays placed from (nothing table.limits) path beside_from ∙ part-stays table to one path out ∙ sym (all.stays path beside_from out)
      ] refl

-- what a rename below a root asks, of the whole
pub record IsMovable (table : Table) (root from to : Names) : Type 0 where
  pub absent : is_some (node_at table (root ++ to)) ≡ false
  pub beside : is_within (root ++ from) (root ++ to) ≡ false
  pub stands : is_some (node_at table (root ++ from)) ≡ true
  pub some : root ++ from ≡ [] → ⊥
  pub dir : node_at table root ≡ Some Dir

source-parts : (node : Option Node) (from : Names) → source_answer node from ≡ None → (is_some node ≡ true) × (from ≡ [] → ⊥)
source-parts None from none = cc
source-parts (Some node) [] none = cc
source-parts (Some node) (name ∷ rest) none = (refl, λ e. cc)

pub some-append : (root from : Names) → (from ≡ [] → ⊥) → root ++ from ≡ [] → ⊥
some-append [] from some none = some none
some-append (name ∷ root) from some none = cc

pub movable : (table : Table) (root from to : Names) → IsTree table → rename_refusal (under table root) from to ≡ None → IsMovable table root from to
unfolding rename_refusal source_refusal
movable table root from to tree none =
    let parts = target-parts (under table root) from to none in
    let source = source-parts (node_at (under table root) from) from (both-none _ _ none).0 in
    let stands = ap is_some (sym (under-stands table root from)) ∙ source.0 in
    record {
      absent = ap is_some (sym (under-stands table root to)) ∙ parts.0;
      beside = within-inside root from (root ++ to) (within-append root to) ∙ ap (is_within from) (drop-append_seam root to) ∙ parts.1;
      stands = stands;
      some = some-append root from source.1;
      dir = root-dir table root from tree source.1 stands;
    }

pub moved-at : (table new : Table) (root from to : Names) → IsTree table → rename_refusal (under table root) from to ≡ None → new ≡ moved table (root ++ from) (root ++ to)
    → Keeps new (with_part table root (moved (under table root) from to))
moved-at table new root from to tree none is =
    let can = movable table root from to tree none in
    let whole = is ∙ sym (moved-under table root from to) in
    record {
      tree = subst IsTree (sym whole) (parts-trees.putting table root (moved (under table root) from to) tree can.dir
          (changes-keep.moving (under table root) from to (parts-trees.taking table root tree can.dir) none));
      is = whole;
    }
