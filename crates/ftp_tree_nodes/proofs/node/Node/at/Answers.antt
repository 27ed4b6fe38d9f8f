use Rattle.std.proofs.Common.{[], sym, ap, ◌∙◌}
use Rattle.ftp_path.specs.Kept.{names_of}
use Rattle.ftp_tree.specs.Map.{node_at}
use Rattle.ftp_tree.proofs.RowLemmas.{none-under, under-top}
use Rattle.ftp_tree_nodes.proofs.node.Node.at.Goals as goal

pub returns-in_default : goal.returns-in_default
returns-in_default g c = sym (none-under c.args.self.now (names_of c.args.key.now) (sym c.in_default.ensures))

pub returns : goal.returns
returns g c =
    c.standing.ensures ∙ ap (λ table. node_at table []) c.in-Some.ensures ∙ under-top c.args.self.now (names_of c.args.key.now)
