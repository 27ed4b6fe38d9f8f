use Rattle.ftp_tree.proofs.LawLemmas.{names-rise}
use Rattle.ftp_tree.proofs.laws.names_rise.Goals as goal

pub returns : goal.returns
returns c = names-rise
