use Rattle.std.proofs.Common.{sym, ap, ◌∙◌}
use Rattle.ftp_path.specs.Path.{parent}
use Rattle.ftp_tree.specs.Tree.{node_at}
use Rattle.ftp_tree.proofs.LawLemmas.{under-stands}
use Rattle.ftp_tree_nodes.proofs.nodes.Nodes.standing_above.Goals as goal

pub returns-clause-node : goal.returns-clause-node
returns-clause-node g c =
    c.at.ensures ∙ ap (node_at c.args.self.now) (c.key.ensures.names ∙ c.above.ensures.names) ∙ sym (under-stands c.args.self.now c.args.root.now (parent c.args.path.now))
