use Rattle.std.proofs.Common.{◌≡◌, [], List, ℕ, Option, Some, sym, ap, subst, ◌∙◌}
use Rattle.ftp_tree_nodes.specs.Branch.{IsBranch, branch_table, parts}
use Rattle.ftp_tree.specs.Map.{Node, Dir, File, node_at, octets_of, of_node}
use Rattle.ftp_tree_nodes.proofs.BranchLemmas.{at-top, file-at}
use Rattle.ftp_tree_nodes.proofs.node.Node.into_content.Goals as goal

no-file : (octets : List ℕ) (moment : ℕ) → ◌≡◌ {A = Option Node} (Some Dir) (Some (File octets moment)) → ⊥
no-file octets moment e = cc

pub returns-in-File : goal.returns-in-File
returns-in-File g c octets moment is =
    let held = g.C.Holder.octets in
    let file = ap (branch_table held) (sym c.in-File.is) ∙ c.self.view_is ∙ is in
    ap (λ content. Some (held content)) c.in-File.content-is
    ∙ ap (of_node octets_of) (sym (file-at (held c.in-File.content) c.in-File.moment.seconds []) ∙ ap (λ table. node_at table []) file ∙ file-at octets moment [])

pub returns : goal.returns
returns g c octets moment is =
    let kept = subst IsBranch c.in-Dir.is c.self.invariant in
    let dir = ap (branch_table g.C.Holder.octets) (sym c.in-Dir.is) ∙ c.self.view_is ∙ is in
    absurd (no-file octets moment (sym (at-top (parts c.in-Dir.children.items) kept.sorted) ∙ ap (λ table. node_at table []) dir ∙ file-at octets moment []))
