-- What a hasher of either method has taken (FIPS 180-4), piece by piece.
use Rattle.std.specs.Prelude.{ℕ, List, ◌++◌}
use Rattle.sha2.specs.Hashers.{Holds256, Holds512}
use Rattle.ftp_secret.specs.Crypt.{cycled}
use Rattle.ftp_secret.specs.declared.crypt.Sequence.{Sequence}
use Rattle.ftp_secret.specs.declared.method.Method.{Method}
use Rattle.ftp_secret.specs.declared.method.Method.TheVariants.{Sha256, Sha512}
use Rattle.ftp_secret.specs.declared.hashing.Hasher.{Hasher}
use Rattle.ftp_secret.specs.declared.hashing.Hasher.TheVariants.{Small, Large}
use Rattle.ftp_secret.specs.declared.hashing.Digest.{Digest}
use Rattle.ftp_secret.specs.declared.hashing.Digest.TheVariants as Is

-- a hasher of this method has taken these octets
abbrev pub HoldsOctets : Hasher → Method → List ℕ → Type 0
HoldsOctets (Small hasher) Sha256 octets = Holds256 hasher octets
HoldsOctets (Small hasher) Sha512 octets = ⊥
HoldsOctets (Large hasher) Sha256 octets = ⊥
HoldsOctets (Large hasher) Sha512 octets = Holds512 hasher octets

-- it takes these octets behind those before
abbrev pub Takes : (old : Hasher) → List ℕ → (new : Hasher) → Type 0
Takes old octets new = (method : Method) (before : List ℕ) → HoldsOctets old method before → HoldsOctets new method (before ++ octets)

-- the octets of a digest
abbrev pub octets_of : Digest → List ℕ
octets_of (Is.Small octets) = octets
octets_of (Is.Large octets) = octets

-- the octets of a sequence
abbrev pub sequence : Sequence → List ℕ
sequence s = cycled (octets_of s.digest) s.count
