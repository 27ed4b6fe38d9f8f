-- What is left of a tree once a path and all below it are cut off.
use Rattle.std.proofs.Common.{◌≡◌, true, false, None, IsSome, is_some, [], ◌∷◌, ◌++◌, length, drop, refl, sym, ap, ◌∙◌, subst}
use Rattle.std.proofs.lemmas.Bool.{true≢false}
use Rattle.std.proofs.lemmas.List.{append_assoc}
use Rattle.ftp_path.specs.Path.{Names, is_within, parent}
use Rattle.ftp_path.proofs.KeyLemmas.{within-append, within-parts}
use Rattle.ftp_path.proofs.PathLemmas.{parent-last}
use Rattle.ftp_tree.specs.Tree.{Table, IsTree, node_at, with_part}
use Rattle.ftp_tree.proofs.KeepLaws.{nothing, nothing-at}
use Rattle.ftp_tree.proofs.MapLemmas.{false-where}
use Rattle.ftp_tree.proofs.PartLemmas.{part-comes, part-stays}
use Rattle.ftp_tree_nodes.specs.Store.{cut_at}
use Rattle.ftp_tree_nodes.proofs.WholeLemmas.{parent-none}

top-outside : (path : Names) → (path ≡ [] → ⊥) → is_within path [] ≡ false
unfolding is_within
top-outside [] some = absurd (some refl)
top-outside (name ∷ names) some = refl

module _ (table : Table) (path : Names) (tree : IsTree table) where
  -- what is left
  abbrev left : Table
  left = with_part table path (nothing table.limits)

  -- nothing is left at the path or below it
  gone : (other : Names) → is_within path other ≡ true → node_at left other ≡ None
  gone other inside =
      let rest = drop (length path) other in
      ap (node_at left) (within-parts path other inside) ∙ part-comes table path (nothing table.limits) rest ∙ nothing-at table.limits rest

  outside : (other : Names) → IsSome (node_at left other) → is_within path other ≡ false
  outside other some = false-where _ (λ inside. true≢false (sym some ∙ ap is_some (gone other inside)))

  -- what stands above what is left is left
  above : (other : Names) → is_within path other ≡ false → is_within path (parent other) ≡ false
  above [] out = ap (is_within path) parent-none ∙ out
  above (name ∷ names) out =
      let last = parent-last name names in
      let up = parent (name ∷ names) in
      false-where _ (λ inside.
      let rest = drop (length path) up in
      let all = last.1 ∙ ap (λ p. p ++ last.0 ∷ []) (within-parts path up inside) ∙ append_assoc path rest (last.0 ∷ []) in
      true≢false (sym (ap (is_within path) all ∙ within-append path (rest ++ last.0 ∷ [])) ∙ out))

  pub cut-tree : (path ≡ [] → ⊥) → IsTree left
  cut-tree some =
      record {
        root = part-stays table path (nothing table.limits) [] (top-outside path some) ∙ tree.root;
        parents = λ other stands.
            let out = outside other stands in
            part-stays table path (nothing table.limits) (parent other) (above other out)
            ∙ tree.parents other (subst (λ o. IsSome o) (part-stays table path (nothing table.limits) other out) stands);
      }

-- a cut of a path that is not the root's
pub cut-so : (table new : Table) (root path : Names) → (path ≡ [] → ⊥) → new ≡ with_part table (root ++ path) (nothing table.limits) → new ≡ cut_at table root path
unfolding with_part
cut-so table new root [] some is = absurd (some refl)
cut-so table new root (name ∷ names) some is = is
