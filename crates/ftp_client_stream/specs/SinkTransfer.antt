-- What comes of a download, and whether more of it may follow.
use Rattle.std.specs.Prelude.{◌≡◌, Bool, true, false, ℕ, List, Option}
use Rattle.std.specs.Io.KnownBytes.{Consumes}
use Rattle.ftp_wire.specs.Decoder.{Decoder, decoded}
use Rattle.ftp_wire.specs.declared.decoded.Decoded.{Decoded}
use Rattle.ftp_wire.specs.declared.decoded.Decoded.TheVariants.{More, Faulty, Over, NoMemory}

-- behind a fault they may: they change nothing
abbrev pub goes_on : Decoded → Bool
goes_on More = true
goes_on (Faulty fault) = true
goes_on Over = false
goes_on NoMemory = false

-- octets came over a link, and what they say is what a decoder has more
pub record Pours (before after : Option (List ℕ)) (old new : Decoder) : Type 0 where
  pub came : List ℕ
  pub taken : Consumes before after came
  pub heard : new ≡ decoded old came
