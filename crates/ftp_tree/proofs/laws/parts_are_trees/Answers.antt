use Rattle.ftp_tree.proofs.PartLemmas.{parts-trees}
use Rattle.ftp_tree.proofs.laws.parts_are_trees.Goals as goal

pub returns : goal.returns
returns c = parts-trees
