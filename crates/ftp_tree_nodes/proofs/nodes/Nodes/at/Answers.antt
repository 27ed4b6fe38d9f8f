use Rattle.std.proofs.Common.{ap, ◌∙◌}
use Rattle.ftp_path.specs.Kept.{names_of}
use Rattle.ftp_tree.specs.Tree.{node_at}
use Rattle.ftp_tree_nodes.proofs.nodes.Nodes.at.Goals as goal

pub returns : goal.returns
unfolding node_at
returns g c = c.at.ensures ∙ ap (λ table. node_at table (names_of c.args.key.now)) c.self.view_is
