use Rattle.ftp_tree.proofs.LawLemmas.{under-stands}
use Rattle.ftp_tree.proofs.laws.under_stands_below.Goals as goal

pub returns : goal.returns
returns c = under-stands
