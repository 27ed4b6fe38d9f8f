use Rattle.ftp_facts.proofs.Theorems.{SaysEntry-same}
use Rattle.ftp_facts.proofs.laws.one_entry.Goals as goal

pub returns : goal.returns
returns g c = SaysEntry-same c.args.line.now c.args.first.now c.args.second.now c.requires.first c.requires.second
