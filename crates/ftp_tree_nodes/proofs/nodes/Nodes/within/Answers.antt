use Rattle.std.proofs.Common.{sym, subst}
use Rattle.ftp_tree.specs.Sound.{IsSoundTree}
use Rattle.ftp_tree.specs.Rows.{whole}
use Rattle.ftp_tree.specs.Tree.{root_within}
use Rattle.ftp_tree.proofs.KeepLaws.{within-tree}
use Rattle.ftp_tree.proofs.SoundLemmas.{sound-within}
use Rattle.ftp_tree_nodes.proofs.nodes.Nodes.within.Goals as goal

pub invariant_of-result : goal.invariant_of-result
unfolding root_within
invariant_of-result g c =
    subst (λ root. IsSoundTree (whole c.args.limits root)) (sym c.dir.ensures) (record {
      tree = within-tree c.args.limits;
      entries = sound-within c.args.limits;
    })
