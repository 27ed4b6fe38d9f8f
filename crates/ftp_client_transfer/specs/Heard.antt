-- Whether more octets may follow.
use Rattle.std.specs.Prelude.{Bool, true, false}
use Rattle.ftp_wire.specs.declared.decoded.Decoded.{Decoded}
use Rattle.ftp_wire.specs.declared.decoded.Decoded.TheVariants.{More, Faulty, Over, NoMemory}

-- behind a fault they may: they change nothing
abbrev pub goes_on : Decoded → Bool
goes_on More = true
goes_on (Faulty fault) = true
goes_on Over = false
goes_on NoMemory = false
