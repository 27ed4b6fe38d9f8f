use Rattle.ftp_tree.proofs.LawLemmas.{children-stand}
use Rattle.ftp_tree.proofs.laws.children_stand.Goals as goal

pub returns : goal.returns
returns c = children-stand
