use Rattle.std.proofs.Common.{[], map, sym, ap, subst, ◌∙◌}
use Rattle.std.specs.List.{slice_get}
use Rattle.ftp_tree_nodes.specs.Branch.{IsBranch, branch_table, parts}
use Rattle.ftp_tree.specs.Map.{children}
use Rattle.ftp_tree_nodes.proofs.BranchLemmas.{file-names, names-top}
use Rattle.ftp_tree_nodes.proofs.node.Node.nth_name.Goals as goal

pub returns-in-File : goal.returns-in-File
returns-in-File g c =
    ap (λ l. slice_get l c.args.place) (sym (file-names (g.C.Holder.octets c.in-File.content) c.in-File.moment.seconds)) ∙ ap (λ table. slice_get (children table []) c.args.place) (ap (branch_table g.C.Holder.octets) (sym c.in-File.is) ∙ c.self.view_is)

pub returns-in-Dir : goal.returns-in-Dir
returns-in-Dir g c =
    let kept = subst IsBranch c.in-Dir.is c.self.invariant in
    c.name_at.ensures ∙ ap (λ l. slice_get (map (λ part. part.0) (parts l)) c.args.place) c.as_slice.ensures.value
    ∙ ap (λ l. slice_get l c.args.place) (sym (names-top (parts c.in-Dir.children.items) c.in-Dir.count.nodes c.in-Dir.count.octets kept))
    ∙ ap (λ table. slice_get (children table []) c.args.place) (ap (branch_table g.C.Holder.octets) (sym c.in-Dir.is) ∙ c.self.view_is)
