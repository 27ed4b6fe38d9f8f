-- The texts that endpoints are written as (RFC 959, section 4.1.2; RFC 2428, section 2).
use Rattle.std.specs.Prelude.{◌≡◌, ◌+◌, ◌*◌, ◌/◌, ◌%◌, ◌<◌, ℕ, List, [], ◌∷◌, ◌++◌, length, map, decimal, if◌then◌else◌, nat_lt, codes}
use Rattle.std.specs.Char.{digit_char}
use Rattle.std.specs.List.{AllByRecursion, join_with_byte}
use Rattle.ftp_endpoint.specs.Number.{colon, comma, point}
use Rattle.ftp_endpoint.specs.declared.endpoint.Endpoint.{Endpoint}
use Rattle.ftp_endpoint.specs.declared.host.Host.{Host}
use Rattle.ftp_endpoint.specs.declared.host.Host.TheVariants.{V4, V6}

-- octets as decimal numbers joined by a separator
abbrev pub numbers_text : ℕ → List ℕ → List ℕ
numbers_text separator octets = join_with_byte separator (map decimal octets)

-- h1,h2,h3,h4,p1,p2; of a host of IPv6 there is no such text
abbrev pub six_of : Host → ℕ → List ℕ
six_of (V4 octets) port = numbers_text comma octets ++ (comma ∷ (decimal (port / 256) ++ (comma ∷ decimal (port % 256))))
six_of (V6 octets) port = []

abbrev pub six_text : Endpoint → List ℕ
six_text endpoint = six_of endpoint.host endpoint.port

-- a group in lower case, without leading zeros
abbrev pub hex : ℕ → List ℕ
hex n = if nat_lt n 16 then digit_char n ∷ []
    else (if nat_lt n 256 then digit_char (n / 16) ∷ digit_char (n % 16) ∷ []
    else (if nat_lt n 4096 then digit_char (n / 256) ∷ digit_char (n / 16 % 16) ∷ digit_char (n % 16) ∷ []
    else digit_char (n / 4096) ∷ digit_char (n / 256 % 16) ∷ digit_char (n / 16 % 16) ∷ digit_char (n % 16) ∷ []))

-- the groups of octets, the higher octet of each first
abbrev pub groups_of : List ℕ → List ℕ
groups_of [] = []
groups_of (a ∷ []) = []
groups_of (a ∷ b ∷ octets) = (a * 256 + b) ∷ groups_of octets

-- |1|dotted decimal|port| or |2|eight groups|port|, written without "::" (own choice)
abbrev pub address_text : Host → List ℕ
address_text (V4 octets) = codes "|1|" ++ numbers_text point octets
address_text (V6 octets) = codes "|2|" ++ join_with_byte colon (map hex (groups_of octets))

abbrev pub extended_text : Endpoint → List ℕ
extended_text endpoint = address_text endpoint.host ++ (codes "|" ++ (decimal endpoint.port ++ codes "|"))

abbrev pub IsV4 : Host → Type 0
IsV4 (V4 octets) = Unit {0}
IsV4 (V6 octets) = ⊥

-- what the types of an endpoint's numbers keep: octets below 256, four or sixteen of them, a port below 65,536
abbrev pub IsTypedHost : Host → Type 0
IsTypedHost (V4 octets) = (length octets ≡ 4) × AllByRecursion (λ c. c < 256) octets
IsTypedHost (V6 octets) = (length octets ≡ 16) × AllByRecursion (λ c. c < 256) octets

abbrev pub IsTypedEndpoint : Endpoint → Type 0
IsTypedEndpoint endpoint = IsTypedHost endpoint.host × (endpoint.port < 65536)
