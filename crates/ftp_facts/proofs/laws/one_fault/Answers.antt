use Rattle.ftp_facts.proofs.Theorems.{Refuses-same}
use Rattle.ftp_facts.proofs.laws.one_fault.Goals as goal

pub returns : goal.returns
returns c = Refuses-same c.args.line.now c.args.first c.args.second c.requires.first c.requires.second
