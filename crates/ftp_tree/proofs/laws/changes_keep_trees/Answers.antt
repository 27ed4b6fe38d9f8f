use Rattle.ftp_tree.proofs.KeepLaws.{changes-keep}
use Rattle.ftp_tree.proofs.laws.changes_keep_trees.Goals as goal

pub returns : goal.returns
returns c = changes-keep
