use Rattle.ftp_tree.proofs.PartLemmas.{parts-back}
use Rattle.ftp_tree.proofs.laws.parts_come_back.Goals as goal

pub returns : goal.returns
returns c = parts-back
