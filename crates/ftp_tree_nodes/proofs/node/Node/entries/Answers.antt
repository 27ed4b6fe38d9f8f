use Rattle.std.proofs.Common.{[], map, sym, ap, subst, ◌∙◌}
use Rattle.std.proofs.lemmas.Result.{IfOk-weaker}
use Rattle.ftp_tree_nodes.specs.Branch.{IsBranch, branch_table, parts}
use Rattle.ftp_tree_nodes.specs.Store.{shown_part}
use Rattle.ftp_tree.specs.Map.{entries_at}
use Rattle.ftp_tree_nodes.proofs.ShownLemmas.{entries-file, entries-top}
use Rattle.ftp_tree_nodes.proofs.node.Node.entries.Goals as goal

pub returns-in-File : goal.returns-in-File
returns-in-File g c =
    c.none.ensures ∙ sym (entries-file (g.C.Holder.octets c.in-File.content) c.in-File.moment.seconds) ∙ ap (λ table. entries_at table []) (ap (branch_table g.C.Holder.octets) (sym c.in-File.is) ∙ c.self.view_is)

pub returns-in-Dir : goal.returns-in-Dir
returns-in-Dir g c =
    let kept = subst IsBranch c.in-Dir.is c.self.invariant in
    IfOk-weaker c.entries_of.result _ _ (λ entries is. is ∙ ap (λ l. map shown_part (parts l)) c.as_slice.ensures.value
    ∙ sym (entries-top (parts c.in-Dir.children.items) c.in-Dir.count.nodes c.in-Dir.count.octets kept)
    ∙ ap (λ table. entries_at table []) (ap (branch_table g.C.Holder.octets) (sym c.in-Dir.is) ∙ c.self.view_is)) c.entries_of.ensures
