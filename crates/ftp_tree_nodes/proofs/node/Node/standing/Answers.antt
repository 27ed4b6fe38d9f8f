use Rattle.std.proofs.Common.{[], sym, ap, subst, ◌∙◌}
use Rattle.ftp_tree_nodes.specs.Branch.{IsBranch, branch_table, parts}
use Rattle.ftp_tree.specs.Map.{node_at}
use Rattle.ftp_tree_nodes.proofs.BranchLemmas.{file-at, at-top}
use Rattle.ftp_tree_nodes.proofs.node.Node.standing.Goals as goal

pub returns-in-File : goal.returns-in-File
returns-in-File g c =
    sym (file-at (g.C.Holder.octets c.in-File.content) c.in-File.moment.seconds []) ∙ ap (λ table. node_at table []) (ap (branch_table g.C.Holder.octets) (sym c.in-File.is) ∙ c.self.view_is)

pub returns-in-Dir : goal.returns-in-Dir
returns-in-Dir g c =
    let kept = subst IsBranch c.in-Dir.is c.self.invariant in
    sym (at-top (parts c.in-Dir.children.items) kept.sorted) ∙ ap (λ table. node_at table []) (ap (branch_table g.C.Holder.octets) (sym c.in-Dir.is) ∙ c.self.view_is)
