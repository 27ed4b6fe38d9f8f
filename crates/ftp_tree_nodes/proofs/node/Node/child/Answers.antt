use Rattle.std.proofs.Common.{[], ◌∷◌, sym, ap, subst, ◌∙◌}
use Rattle.std.specs.FinMap.Entries.{find}
use Rattle.ftp_tree_nodes.specs.Branch.{IsBranch, branch_table, found, name_cmp, parts}
use Rattle.ftp_tree.specs.Map.{under}
use Rattle.ftp_tree_nodes.proofs.BranchLemmas.{file-below, under-name}
use Rattle.ftp_tree_nodes.proofs.node.Node.child.Goals as goal

pub returns-in-File : goal.returns-in-File
returns-in-File g c =
    sym (file-below (g.C.Holder.octets c.in-File.content) c.in-File.moment.seconds c.args.name.now)
    ∙ ap (λ table. under table (c.args.name.now ∷ [])) (ap (branch_table g.C.Holder.octets) (sym c.in-File.is) ∙ c.self.view_is)

pub returns-in-Dir : goal.returns-in-Dir
returns-in-Dir g c =
    let kept = subst IsBranch c.in-Dir.is c.self.invariant in
    ap found (c.child_of.ensures ∙ ap (λ l. find name_cmp c.args.name.now (parts l)) c.as_slice.ensures.value)
    ∙ sym (under-name (parts c.in-Dir.children.items) kept.sorted c.args.name.now)
    ∙ ap (λ table. under table (c.args.name.now ∷ [])) (ap (branch_table g.C.Holder.octets) (sym c.in-Dir.is) ∙ c.self.view_is)
