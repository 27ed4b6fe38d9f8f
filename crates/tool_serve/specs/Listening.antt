-- At which addresses a folder may be served, and which one is named to clients.
use Rattle.std.specs.Prelude.{Option, Some, None, IsSome, ◌⊎◌}
use Rattle.std.specs.declared.net.IpAddr.{IpAddr}
use Rattle.std.specs.declared.net.ip_addr.IpAddr.TheVariants as Ip
use Rattle.std.specs.Net.Addr.{IsLoopbackV4, IsLoopbackV6, MatchIp, ipv4_octets, ipv6_octets}
use Rattle.ftp_endpoint.specs.declared.host.Host.{Host}
use Rattle.ftp_endpoint.specs.declared.host.Host.TheVariants as Hosts

-- 127.0.0.0/8 or ::1 (RFC 1122, section 3.2.1.3; RFC 4291, section 2.5.3)
abbrev pub IsLoopback : IpAddr → Type 0
IsLoopback address = MatchIp address IsLoopbackV4 IsLoopbackV6

-- own choice: who connects may change all that is served unless a file of accounts says who may log in, so without one the loopback alone is listened at
abbrev pub MayListen : {A : Type 0} → Option A → IpAddr → Type 0
MayListen accounts address = IsSome accounts ⊎ IsLoopback address

-- the host that a reply to PASV names: the one that was asked for, where it is of the family of the one that the client reached (RFC 2428, section 1)
abbrev pub told_host : Option IpAddr → Host → Host
told_host (Some (Ip.V4 ip)) (Hosts.V4 octets) = Hosts.V4 (ipv4_octets ip)
told_host (Some (Ip.V6 ip)) (Hosts.V6 octets) = Hosts.V6 (ipv6_octets ip)
told_host (Some (Ip.V4 ip)) (Hosts.V6 octets) = Hosts.V6 octets
told_host (Some (Ip.V6 ip)) (Hosts.V4 octets) = Hosts.V4 octets
told_host None reached = reached
