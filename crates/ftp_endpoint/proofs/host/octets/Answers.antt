use Rattle.std.proofs.Common.{sym}
use Rattle.ftp_endpoint.proofs.HostLemmas.{eight}
use Rattle.ftp_endpoint.proofs.host.octets.Goals as goal

pub returns : goal.returns
returns c =
    rw (c.halves.ensures, c.halves-2.ensures, c.halves-3.ensures, c.halves-4.ensures) (sym (eight c.args.groups.now c.requires))
