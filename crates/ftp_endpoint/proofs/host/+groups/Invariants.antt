use Rattle.std.proofs.Common.{◌-◌, length}
use Rattle.ftp_endpoint.proofs.host.+groups.Given as goal

abbrev pub decreases-groups : goal.decreases-groups
decreases-groups l = 8 - length l.out.now.items
