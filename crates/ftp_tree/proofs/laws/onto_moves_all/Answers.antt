use Rattle.ftp_tree.proofs.OntoLemmas.{onto-moves}
use Rattle.ftp_tree.proofs.laws.onto_moves_all.Goals as goal

pub returns : goal.returns
returns c = onto-moves
