-- What stands below a name is less than the directory.
use Rattle.std.specs.Prelude.{◌≡◌, ◌≤◌, suc, max, Bool, true, ℕ, List, [], ◌∷◌, length, Box}
use Rattle.std.proofs.Common.{arith, sym, ap, subst, ◌∙◌, T}
use Rattle.std.proofs.lemmas.List.{length-append, length-map}
use Rattle.std.specs.FinMap as fin
use Rattle.std.specs.declared.alloc.Allocator.{Ghosts}
use Rattle.ftp_path.specs.Path.{path_cmp}
use Rattle.ftp_tree.specs.Rows.{is_in_order, table_of}
use Rattle.ftp_tree.specs.Map.{Dir}
use Rattle.ftp_tree_nodes.specs.Branch.{IsBranch, NamedMap, behind, part_rows, parts, parts_table, branch_table}
use Rattle.ftp_tree_nodes.specs.declared.holder.Holder.{Ghosts as HolderGhosts}
use Rattle.ftp_tree_nodes.specs.declared.node.Branch.{Branch}
use Rattle.ftp_tree_nodes.specs.declared.node.Branch.TheVariants.{File, Dir as Directory}
use Rattle.ftp_tree_nodes.specs.declared.node.Child.{Child}
use Rattle.ftp_tree_nodes.specs.declared.node.Node.TheDeep.{deep-Branch, deep-Child}
use Rattle.ftp_tree_nodes.specs.declared.node.Node.TheShapes.{weighed-Branch-Dir-0-at-1}
use denote.Param.Weighed.{most}

T-true : (b : Bool) → b ≡ true → T b
T-true b e = subst T (sym e) tt

len-parts : (ps : List NamedMap) → is_in_order (part_rows ps) ≡ true → fin.len (parts_table ps) ≡ suc (length (part_rows ps))
unfolding table_of
len-parts ps sorted = fin.len-entries (parts_table ps) ∙ ap length (fin.entries-from_sorted path_cmp (([], Dir) ∷ part_rows ps) (T-true _ sorted))

module _ (A C : Type 0) (laws : Ghosts A) (holder : HolderGhosts C) where
  most-le : (items : List (Box (Child A C) A)) → most ((weighed-Branch-Dir-0-at-1 A C).weight (Child A C) (deep-Child A C laws holder)) items ≤ suc (length (part_rows (parts items)))
  most-le [] = omega arith
  most-le (x ∷ items) =
      let rest = most-le items in
      let part = fin.len-entries x.value.node in
      let rows : length (behind (x.value.name, x.value.node)) ≡ length (fin.entries x.value.node) = length-map (fin.entries x.value.node) (λ entry. (x.value.name ∷ entry.0, entry.1)) in
      let whole = length-append (behind (x.value.name, x.value.node)) (part_rows (parts items)) in
      omega arith

pub falls : (A C : Type 0) (laws : Ghosts A) (holder : HolderGhosts C) (octets : C → List ℕ) (kept : Branch A C) → IsBranch kept → max (deep-Branch A C laws holder kept) 0 ≤ fin.len (branch_table octets kept)
falls A C laws holder octets (File content moment) h = omega arith
falls A C laws holder octets (Directory children count) h = let few = most-le A C laws holder children.items in let all = len-parts (parts children.items) h.rows in omega arith
