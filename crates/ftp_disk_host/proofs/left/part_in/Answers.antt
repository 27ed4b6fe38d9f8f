use Rattle.ftp_disk_host.proofs.LeftLemmas.{part-left}
use Rattle.ftp_disk_host.proofs.left.part_in.Goals as goal

pub returns-clause-left : goal.returns-clause-left
returns-clause-left c = part-left c.args.number
