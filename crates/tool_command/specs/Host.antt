-- Which texts say a host (own choice): an address as RFC 2428, section 2, has it, or a name.
use Rattle.std.specs.Prelude.{◌≡◌, ◌==◌, ◌&&◌, ◌||◌, ℕ, Bool, true, false, List}
use Rattle.std.specs.Char.{is_ascii_digit}
use Rattle.std.specs.List.{list_all, list_any}
use Rattle.std.specs.Net.Grammar.{IsIpText}
use Rattle.std.specs.declared.net.IpAddr.{IpAddr}

-- the octet `:`
abbrev pub is_colon : ℕ → Bool
is_colon octet = octet == 58

-- the octet `.`
abbrev pub is_point : ℕ → Bool
is_point octet = octet == 46

-- IPv6 with its last octets in dotted decimal, where it is an address at all
abbrev pub has_both : List ℕ → Bool
has_both text = list_any is_colon text && list_any is_point text

-- four numbers in dotted decimal, without leading zeros, or IPv6 in groups of hexadecimal digits, with one `::` at most
abbrev pub IsAddress : List ℕ → Type 0
IsAddress text = (has_both text ≡ false) × ((address : IpAddr) × IsIpText text address)

-- an octet that may stand in dotted decimal
abbrev pub is_of_numbers : ℕ → Bool
is_of_numbers octet = is_ascii_digit octet || is_point octet

-- a text with a colon, or of digits and points alone, can be meant as an address alone; a resolver reads some that are none, as 127.1
abbrev pub means_address : List ℕ → Bool
means_address text = list_any is_colon text || list_all is_of_numbers text

-- a text that can be meant as an address alone is one; any other is a name
abbrev pub IsHost : List ℕ → Type 0
IsHost text = means_address text ≡ true → IsAddress text
