-- Which data connections may be closed by an end: in stream mode that is the end of the file (RFC 959, section 3.4.1).
use Rattle.std.specs.Prelude.{◌≡◌, ◌⊎◌, ◌<◌, ℕ, Bool, true, false}
use Rattle.ftp_ports.specs.declared.whole.Fate.{Fate}
use Rattle.ftp_ports.specs.declared.whole.Fate.TheVariants.{Sound, Failed, Broken, Over}
use Rattle.ftp_ports.specs.declared.whole.Rest.{Rest}
use Rattle.ftp_ports.specs.declared.whole.Rest.TheVariants.{Nothing, More}

-- no read or write of it failed
abbrev pub is_well : Fate → Bool
is_well Sound = true
is_well Failed = false
is_well Broken = false
is_well Over = true

-- of the octets that were taken from the end that sends, up to `end`, all are written, up to `at`, and it has no more of them; and no read or
-- write failed
abbrev pub IsWhole : (at end : ℕ) → Rest → Fate → Type 0
IsWhole at end rest fate = (at ≡ end) × (rest ≡ Nothing) × (is_well fate ≡ true)

-- octets were taken that are not written, or are still to be taken, or a read or a write failed
abbrev pub IsCut : (at end : ℕ) → Rest → Fate → Type 0
IsCut at end rest fate = (at < end) ⊎ (rest ≡ More) ⊎ (is_well fate ≡ false)
