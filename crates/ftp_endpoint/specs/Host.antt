-- The texts of hosts: dotted decimal, and the groups of IPv6 (RFC 2428, section 2; RFC 4291, section 2.2).
use Rattle.std.specs.Prelude.{◌≡◌, ◌≢◌, ◌⊎◌, ◌+◌, ◌/◌, ◌%◌, ◌<◌, ◌≤◌, ℕ, suc, Bool, nat_lt, List, [], ◌∷◌, ◌++◌, length, take, drop, replicate}
use Rattle.std.specs.Char.{digit_value}
use Rattle.std.specs.List.{flat_map, prefix_len}
use Rattle.std.specs.Str.Parse.{IsNumeral, digits_value}
use Rattle.ftp_endpoint.specs.declared.host.Host.{Host}
use Rattle.ftp_endpoint.specs.declared.host.Host.TheVariants.{V4, V6}
use Rattle.ftp_endpoint.specs.Endpoint.{BeginsWith, HasShape}
use Rattle.ftp_endpoint.specs.Number.{colon, point}
use Rattle.ftp_endpoint.specs.declared.endpoint.Endpoint.{Endpoint}
use Rattle.ftp_endpoint.specs.declared.fault.EndpointFault.{EndpointFault}
use Rattle.ftp_endpoint.specs.declared.fault.EndpointFault.TheVariants.{BadText, Protocol}

-- four numbers joined by points
pub record SaysV4 (text octets : List ℕ) : Type 0 where
  pub a : ℕ
  pub b : ℕ
  pub c : ℕ
  pub d : ℕ
  pub numbers : BeginsWith point text (a ∷ b ∷ c ∷ d ∷ []) []
  pub value : octets ≡ a ∷ b ∷ c ∷ d ∷ []

-- a group: one to four hexadecimal digits
abbrev pub IsGroup : List ℕ → Type 0
IsGroup text = IsNumeral 16 text × (length text ≤ 4)

abbrev pub is_hex : ℕ → Bool
is_hex c = nat_lt (digit_value c) 16

-- the hexadecimal digits that a text begins with, as many as stand there, and what is behind them
abbrev pub front_hex : List ℕ → List ℕ
front_hex text = take (prefix_len is_hex text) text

abbrev pub behind_hex : List ℕ → List ℕ
behind_hex text = drop (prefix_len is_hex text) text

-- the text begins with these groups, joined by colons; the rest is behind them
abbrev pub BeginsWithGroups : List ℕ → List ℕ → List ℕ → Type 0
BeginsWithGroups text [] rest = text ≡ rest
BeginsWithGroups text (n ∷ []) rest =
    IsGroup (front_hex text) × (n ≡ digits_value 16 (front_hex text)) × (behind_hex text ≡ rest)
BeginsWithGroups text (n ∷ m ∷ ns) rest =
    IsGroup (front_hex text) × (n ≡ digits_value 16 (front_hex text))
    × ((next : List ℕ) × (behind_hex text ≡ colon ∷ next) × BeginsWithGroups next (m ∷ ns) rest)

-- behind "::" come other groups, or none; it stands for one zero group or more
pub record IsFilled (front behind groups : List ℕ) : Type 0 where
  pub zeros : ℕ
  pub back : List ℕ
  pub after : BeginsWithGroups behind back []
  pub groups_are : groups ≡ front ++ (replicate (suc zeros) 0 ++ back)

-- groups with a "::" in front of them, behind them or among them
pub record IsShortened (text groups : List ℕ) : Type 0 where
  pub front : List ℕ
  pub behind : List ℕ
  pub before : BeginsWithGroups text front (colon ∷ colon ∷ behind)
  pub filled : IsFilled front behind groups

-- eight groups, written out or shortened
abbrev pub Written : List ℕ → List ℕ → Type 0
Written text groups = BeginsWithGroups text groups [] ⊎ IsShortened text groups

-- the octets of groups, the higher of each first
abbrev pub octets_of : List ℕ → List ℕ
octets_of groups = flat_map (λ g. g / 256 ∷ g % 256 ∷ []) groups

-- the octets of eight groups
pub record SaysV6 (text octets : List ℕ) : Type 0 where
  pub groups : List ℕ
  pub eight : length groups ≡ 8
  pub written : Written text groups
  pub value : octets ≡ octets_of groups

-- the address of this protocol's number is this host: 1 for IPv4, 2 for IPv6
abbrev pub SaysHost : ℕ → List ℕ → Host → Type 0
SaysHost proto address (V4 octets) = (proto ≡ 1) × SaysV4 address octets
SaysHost proto address (V6 octets) = (proto ≡ 2) × SaysV6 address octets

-- an extended address says an endpoint: its address is the host of its protocol (RFC 2428, section 2)
pub record SaysExtended (text : List ℕ) (endpoint : Endpoint) : Type 0 where
  pub proto : ℕ
  pub address : List ℕ
  pub shape : HasShape text proto address endpoint.port
  pub host : SaysHost proto address endpoint.host

-- an extended address of another protocol, whatever its address is
pub record IsOtherProtocol (text : List ℕ) : Type 0 where
  pub proto : ℕ
  pub address : List ℕ
  pub port : ℕ
  pub shape : HasShape text proto address port
  pub not_v4 : proto ≢ 1
  pub not_v6 : proto ≢ 2

-- how a text is refused as an extended address: Protocol where it is one of another protocol, BadText where it is none
abbrev pub RefusesExtended : List ℕ → EndpointFault → Type 0
RefusesExtended text Protocol = IsOtherProtocol text
RefusesExtended text BadText = (¬ IsOtherProtocol text) × ((endpoint : Endpoint) → ¬ SaysExtended text endpoint)

-- where a reading of groups may stop: at the end, or before "::"
abbrev pub GroupsMayStop : List ℕ → Type 0
GroupsMayStop rest = (rest ≡ []) ⊎ ((behind : List ℕ) × (rest ≡ colon ∷ colon ∷ behind))

-- one group or more was read behind those of before, up to where a reading may stop
abbrev pub ReadsGroups : List ℕ → List ℕ → List ℕ → List ℕ → Type 0
ReadsGroups text before now rest =
    (ns : List ℕ) × (now ≡ before ++ ns) × (0 < length ns) × BeginsWithGroups text ns rest × GroupsMayStop rest

-- no row of groups that has room behind so many stands in front
abbrev pub NoGroups : List ℕ → ℕ → Type 0
NoGroups text before =
    (ns rest : List ℕ) → 0 < length ns → before + length ns ≤ 8 → GroupsMayStop rest → ¬ BeginsWithGroups text ns rest

-- any number of groups was read behind those of before, up to where a reading may stop
abbrev pub ReadsSome : List ℕ → List ℕ → List ℕ → List ℕ → Type 0
ReadsSome text before now rest = (ns : List ℕ) × (now ≡ before ++ ns) × BeginsWithGroups text ns rest × GroupsMayStop rest

abbrev pub NoSome : List ℕ → ℕ → Type 0
NoSome text before = (ns rest : List ℕ) → before + length ns ≤ 8 → GroupsMayStop rest → ¬ BeginsWithGroups text ns rest

abbrev pub NoneFilled : List ℕ → List ℕ → Type 0
NoneFilled front behind = (groups : List ℕ) → length groups ≡ 8 → ¬ IsFilled front behind groups

abbrev pub NoneWritten : List ℕ → Type 0
NoneWritten text = (groups : List ℕ) → length groups ≡ 8 → ¬ Written text groups
