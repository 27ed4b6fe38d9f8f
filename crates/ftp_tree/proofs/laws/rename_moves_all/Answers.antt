use Rattle.ftp_tree.proofs.LawLemmas.{rename-moves}
use Rattle.ftp_tree.proofs.laws.rename_moves_all.Goals as goal

pub returns : goal.returns
returns c = rename-moves
