use Rattle.ftp_facts.proofs.Theorems.{SaysEntry-Memory}
use Rattle.ftp_facts.proofs.laws.no_fault.Goals as goal

pub returns : goal.returns
returns g c = SaysEntry-Memory c.args.line.now c.args.entry.now c.requires
