use Rattle.std.proofs.Common.{sym, subst}
use Rattle.std.specs.Net.Socket.{socket_ip}
use Rattle.ftp_endpoint.specs.declared.host.Host.TheVariants.{V4, V6}
use Rattle.tool_sockets.specs.Host.{IsHostOf}
use Rattle.tool_sockets.proofs.HostLemmas.{Canonical, host_is_v4, host_is_v6}
use Rattle.tool_sockets.proofs.host.host_of.Goals as goal

pub returns-in-V4 : goal.returns-in-V4
returns-in-V4 c =
    let ip = socket_ip c.args.addr in
    subst (λ l. IsHostOf ip (V4 l)) (sym c.octets.ensures)
    (host_is_v4 ip c.to_canonical.result c.in-V4.ip c.in-V4.is (subst (λ i. Canonical i c.to_canonical.result) c.ip.ensures c.to_canonical.ensures))

pub returns-in-V6 : goal.returns-in-V6
returns-in-V6 c =
    let ip = socket_ip c.args.addr in
    subst (λ l. IsHostOf ip (V6 l)) (sym c.octets-in-V6.ensures)
    (host_is_v6 ip c.to_canonical.result c.in-V6.ip c.in-V6.is (subst (λ i. Canonical i c.to_canonical.result) c.ip.ensures c.to_canonical.ensures))
