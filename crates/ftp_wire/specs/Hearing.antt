-- What was heard of the octets that a decoder took, octet by octet.
use Rattle.std.specs.Prelude.{◌≡◌, ℕ, ◌<◌, ◌≤◌, List, [], ◌∷◌, length, Option, Some, None}
use Rattle.ftp_mode.specs.Said.{Said, says, marker}
use Rattle.ftp_wire.specs.Decoder.{Decoder, read_on, octet_says, decoded_octet, fault_of}
use Rattle.ftp_wire.specs.declared.decoded.Decoded.{Decoded}
use Rattle.ftp_wire.specs.declared.decoded.Decoded.TheVariants.{More, Faulty, Over, NoMemory}

-- a decoder, and the restart marker that came last
pub record Decoding : Type 0 where
  pub decoder : Decoder
  pub marker : List ℕ

-- no restart marker is among it
abbrev pub HasNoMarker : List Said → Type 0
HasNoMarker [] = Unit {0}
HasNoMarker (says sign ∷ more) = HasNoMarker more
HasNoMarker (marker text ∷ more) = ⊥

-- an octet of which nothing is to be told: no fault, no marker, and the file has at most so many octets
pub record IsQuietOctet (most : ℕ) (d : Decoder) (octet : ℕ) : Type 0 where
  pub fine : fault_of (read_on d octet) ≡ None
  pub unmarked : HasNoMarker (octet_says d octet)
  pub within : length (decoded_octet d octet).content ≤ most

-- a row of them
abbrev pub AreQuiet : ℕ → Decoder → List ℕ → Type 0
AreQuiet most d [] = Unit {0}
AreQuiet most d (octet ∷ octets) = IsQuietOctet most d octet × AreQuiet most (decoded_octet d octet) octets

-- an octet says no marker; or one, and before anything else, when so many octets were settled
abbrev pub Marks : Option ℕ → List ℕ → Decoder → List Said → Type 0
Marks None text d said = HasNoMarker said
Marks (Some held) text d said = (rest : List Said) × (said ≡ marker text ∷ rest) × HasNoMarker rest × (held ≡ length d.content)

-- how it ended: more may follow; a fault was met; the file passes its most; or there was no memory for what it settles
abbrev pub EndsBy : ℕ → Decoder → ℕ → Decoded → Decoder → Type 0
EndsBy most d octet More new = (fault_of (read_on d octet) ≡ None) × (length (decoded_octet d octet).content ≤ most) × (new ≡ decoded_octet d octet)
EndsBy most d octet (Faulty fault) new = (fault_of (read_on d octet) ≡ Some fault) × (new ≡ decoded_octet d octet)
EndsBy most d octet Over new = (fault_of (read_on d octet) ≡ None) × (most < length (decoded_octet d octet).content)
EndsBy most d octet NoMemory new = fault_of (read_on d octet) ≡ None

-- of the octets that were taken all but the last are quiet, and the last tells this
abbrev pub Hears : ℕ → Decoder → List ℕ → Option ℕ → List ℕ → Decoded → Decoder → Type 0
Hears most d [] mark text heard new = (mark ≡ None) × (heard ≡ More) × (new ≡ d)
Hears most d (octet ∷ []) mark text heard new = Marks mark text d (octet_says d octet) × EndsBy most d octet heard new
Hears most d (octet ∷ next ∷ octets) mark text heard new = IsQuietOctet most d octet × Hears most (decoded_octet d octet) (next ∷ octets) mark text heard new

-- the last told nothing either
abbrev pub TellsNothing : Option ℕ → Decoded → Type 0
TellsNothing mark heard = (mark ≡ None) × (heard ≡ More)
