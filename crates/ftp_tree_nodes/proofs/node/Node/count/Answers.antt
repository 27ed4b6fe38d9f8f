use Rattle.std.proofs.Common.{sym, ap, ◌∙◌}
use Rattle.ftp_tree_nodes.specs.Branch.{branch_table}
use Rattle.ftp_tree.specs.Map.{octets_in}
use Rattle.ftp_tree_nodes.proofs.BranchLemmas.{file-len, file-octets}
use Rattle.std.specs.FinMap as fin
use Rattle.ftp_tree_nodes.proofs.node.Node.count.Goals as goal

pub returns-in-File-clause-nodes : goal.returns-in-File-clause-nodes
returns-in-File-clause-nodes g c = file-len (g.C.Holder.octets c.in-File.content) c.in-File.moment.seconds ∙ ap fin.len (ap (branch_table g.C.Holder.octets) (sym c.in-File.is) ∙ c.self.view_is)

pub returns-in-File-clause-octets : goal.returns-in-File-clause-octets
returns-in-File-clause-octets g c =
    c.len.ensures ∙ sym (file-octets (g.C.Holder.octets c.in-File.content) c.in-File.moment.seconds) ∙ ap octets_in (ap (branch_table g.C.Holder.octets) (sym c.in-File.is) ∙ c.self.view_is)
