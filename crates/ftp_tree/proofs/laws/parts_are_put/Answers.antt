use Rattle.ftp_tree.proofs.PartLemmas.{parts-put}
use Rattle.ftp_tree.proofs.laws.parts_are_put.Goals as goal

pub returns : goal.returns
returns c = parts-put
