-- The data connection between two ends: who wants what of it, and when an event is possible (RFC 959, sections 2.3, 3.2 and
-- 4.1.2). Each transfer has a link of its own (own choice); one end listens and accepts, the other connects.
use Rattle.std.specs.Prelude.{Bool, true, false, ◌||◌, ◌&&◌, nat_eq}
use Rattle.std.specs.Cmp.Lexicographic.{pointwise}
use Rattle.ftp_endpoint.specs.declared.host.Host.{Host}
use Rattle.ftp_endpoint.specs.declared.host.Host.TheVariants.{V4, V6}
use Rattle.ftp_ends.specs.declared.link.Wants.{Wants}
use Rattle.ftp_ends.specs.declared.link.Wants.TheVariants as Want

-- two hosts are one
abbrev pub same_host : Host → Host → Bool
same_host (V4 a) (V4 b) = pointwise nat_eq a b
same_host (V4 a) (V6 b) = false
same_host (V6 a) (V4 b) = false
same_host (V6 a) (V6 b) = pointwise nat_eq a b

-- a host of IPv6
abbrev pub is_v6 : Host → Bool
is_v6 (V4 octets) = false
is_v6 (V6 octets) = true

-- ---- what an end wants: `CloseData` comes before all others

-- the link that the other end opens
abbrev pub is_accepting : Wants → Bool
is_accepting Want.Accept = true
is_accepting wants = false

-- it wants to open a link
abbrev pub is_connecting : Wants → Bool
is_connecting (Want.Connect endpoint) = true
is_connecting wants = false

-- ---- the link between two ends

-- a link is wanted: one end wants to connect, and the other accepts. Only then can it open, or be refused
abbrev pub is_wanted : Wants → Wants → Bool
is_wanted one other = (is_connecting one && is_accepting other) || (is_accepting one && is_connecting other)
