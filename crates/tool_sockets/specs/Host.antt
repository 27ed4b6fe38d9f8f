-- The hosts of addresses, and the addresses of hosts: an IPv4 address that is mapped into IPv6 is that IPv4 address (RFC 4291, section 2.5.5.2).
use Rattle.std.specs.Prelude.{◌≡◌}
use Rattle.std.specs.Net.Addr.{IsIpv4Mapped, MatchIp, ipv4_octets, ipv6_octets, ipv6_segments, low_octets, segments_of}
use Rattle.std.specs.declared.net.ip_addr.IpAddr.{IpAddr}
use Rattle.std.specs.declared.net.ip_addr.IpAddr.TheVariants as Ip
use Rattle.std.specs.declared.net.ipv6_addr.Ipv6Addr.{Ipv6Addr}
use Rattle.ftp_endpoint.specs.declared.host.Host.{Host}
use Rattle.ftp_endpoint.specs.declared.host.Host.TheVariants.{V4, V6}

-- the host of an IPv6 address
abbrev pub IsHostOfV6 : Ipv6Addr → Host → Type 0
IsHostOfV6 ip host = (IsIpv4Mapped (ipv6_segments ip) → host ≡ V4 (low_octets ip)) × (¬ (IsIpv4Mapped (ipv6_segments ip)) → host ≡ V6 (ipv6_octets ip))

-- the host of an address
abbrev pub IsHostOf : IpAddr → Host → Type 0
IsHostOf ip host = MatchIp ip (λ ip. host ≡ V4 (ipv4_octets ip)) (λ ip. IsHostOfV6 ip host)

-- the address of a host: that of its octets, in their order (RFC 2428, section 2)
abbrev pub IsAddressOf : Host → IpAddr → Type 0
IsAddressOf (V4 octets) (Ip.V4 ip) = ipv4_octets ip ≡ octets
IsAddressOf (V4 octets) (Ip.V6 ip) = ⊥
IsAddressOf (V6 octets) (Ip.V4 ip) = ⊥
IsAddressOf (V6 octets) (Ip.V6 ip) = ipv6_segments ip ≡ segments_of octets
