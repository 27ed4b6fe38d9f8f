-- The host of an address is that of its canonical one.
use Rattle.std.proofs.Common.{◌≡◌, ℕ, List, [], ap, subst}
use Rattle.std.specs.Net.Addr.{IsCanonicalOf, MatchIp, ipv4_octets, ipv6_octets}
use Rattle.std.specs.declared.net.ip_addr.IpAddr.{IpAddr}
use Rattle.std.specs.declared.net.ip_addr.IpAddr.TheVariants as Ip
use Rattle.std.specs.declared.net.ipv4_addr.Ipv4Addr.{Ipv4Addr}
use Rattle.std.specs.declared.net.ipv6_addr.Ipv6Addr.{Ipv6Addr}
use Rattle.ftp_endpoint.specs.declared.host.Host.TheVariants.{V4, V6}
use Rattle.tool_sockets.specs.Host.{IsHostOf}

-- what `to_canonical` says
abbrev pub Canonical : (ip canonical : IpAddr) → Type 0
Canonical ip canonical = MatchIp ip (λ a. canonical ≡ ip) (λ a. IsCanonicalOf a canonical)

-- the octets of an IPv4 address
abbrev v4_of : IpAddr → List ℕ
v4_of (Ip.V4 a) = ipv4_octets a
v4_of (Ip.V6 a) = []

v4_host : (ip : IpAddr) (a : Ipv4Addr) → Canonical ip (Ip.V4 a) → IsHostOf ip (V4 (ipv4_octets a))
v4_host (Ip.V4 b) a is = ap V4 (ap v4_of is)
v4_host (Ip.V6 b) a is = (λ mapped. ap V4 is.1, λ plain. absurd (plain is.0))

v6_host : (ip : IpAddr) (a : Ipv6Addr) → Canonical ip (Ip.V6 a) → IsHostOf ip (V6 (ipv6_octets a))
v6_host (Ip.V4 b) a is = absurd (let e : Ip.V6 a ≡ Ip.V4 b = is in cc)
v6_host (Ip.V6 b) a is = (λ mapped. absurd (is.0 mapped), λ plain. ap (λ i. V6 (ipv6_octets i)) is.1)

pub host_is_v4 : (ip canonical : IpAddr) (a : Ipv4Addr) → canonical ≡ Ip.V4 a → Canonical ip canonical → IsHostOf ip (V4 (ipv4_octets a))
host_is_v4 ip canonical a is canon = v4_host ip a (subst (λ c. Canonical ip c) is canon)

pub host_is_v6 : (ip canonical : IpAddr) (a : Ipv6Addr) → canonical ≡ Ip.V6 a → Canonical ip canonical → IsHostOf ip (V6 (ipv6_octets a))
host_is_v6 ip canonical a is canon = v6_host ip a (subst (λ c. Canonical ip c) is canon)
