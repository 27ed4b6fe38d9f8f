-- The salt of random octets (own choice).
use Rattle.std.specs.Prelude.{ℕ, ◌%◌, List, map}
use Rattle.ftp_secret.specs.Crypt.{letter}

-- a letter for the lowest six bits of each octet, so that each of the 64 letters stands for four of the 256 octets
abbrev pub salt_of : List ℕ → List ℕ
salt_of octets = map (λ octet. letter (octet % 64)) octets
