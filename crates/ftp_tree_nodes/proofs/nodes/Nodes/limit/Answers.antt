use Rattle.ftp_tree.specs.Tree as tables
use Rattle.ftp_tree_nodes.proofs.nodes.Nodes.limit.Goals as goal

-- limits are no part of what is sound
pub invariant_of-self : goal.invariant_of-self
unfolding tables.node_at
invariant_of-self g c = record {
  tree = record { root = c.self.invariant.tree.root; parents = c.self.invariant.tree.parents };
  entries = c.self.invariant.entries;
}
