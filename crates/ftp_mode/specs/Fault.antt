-- The first unit of a wire that stands in no text.
use Rattle.std.specs.Prelude.{◌≡◌, ℕ, ◌+◌, ◌<◌, ◌⊎◌, List, ◌∷◌, ◌++◌, length, Bool, true, false, ◌||◌, ◌==◌, nat_lt}
use Rattle.std.specs.List.{AllByRecursion}
use Rattle.ftp_settings.specs.declared.representation.Structure.{Structure}
use Rattle.ftp_settings.specs.declared.representation.Structure.TheVariants.{File, Record}
use Rattle.ftp_settings.specs.declared.representation.Mode.{Mode}
use Rattle.ftp_settings.specs.declared.representation.Mode.TheVariants.{Stream, Block as Blocks}
use Rattle.ftp_mode.specs.declared.fault.FrameFault.{FrameFault}
use Rattle.ftp_mode.specs.declared.fault.FrameFault.TheVariants.{BadEscape, Suspect, BadMarker}
use Rattle.ftp_mode.specs.Stream.{is_code}
use Rattle.ftp_mode.specs.Block.{has, block_count}
use Rattle.ftp_settings.specs.Marker.{is_marker_octet}
use Rattle.ftp_settings.specs.declared.marker.TheConstants.{MARKER_LIMIT}
use Rattle.ftp_mode.specs.Units.{WireUnit, GoesOn, units_octets}
use Rattle.ftp_mode.specs.declared.descriptor.TheConstants.{SUSPECTED_ERRORS, RESTART_MARKER}
use Rattle.ftp_mode.specs.declared.escape.TheConstants.{ESCAPE}

-- own choice: an escape octet before an octet that is no code, at the place of that octet
pub record IsBadEscape (place : ℕ) (w : List ℕ) (fault : FrameFault) : Type 0 where
  pub code : ℕ
  pub rest : List ℕ
  pub is : w ≡ ESCAPE ∷ code ∷ rest
  pub wrong : is_code code ≡ false
  pub named : fault ≡ BadEscape (place + 1)

-- own choice: a block of suspected errors, at the place of its descriptor
pub record IsSuspect (place : ℕ) (w : List ℕ) (fault : FrameFault) : Type 0 where
  pub descriptor : ℕ
  pub rest : List ℕ
  pub is : w ≡ descriptor ∷ rest
  pub wrong : has descriptor SUSPECTED_ERRORS ≡ true
  pub named : fault ≡ Suspect place

-- the counts that no marker has
abbrev pub is_no_length : ℕ → Bool
is_no_length n = (n == 0) || nat_lt MARKER_LIMIT n

-- a marker of no octets or of more than 255, at the place of its descriptor
pub record IsBadLength (place : ℕ) (w : List ℕ) (fault : FrameFault) : Type 0 where
  pub descriptor : ℕ
  pub high : ℕ
  pub low : ℕ
  pub rest : List ℕ
  pub is : w ≡ descriptor ∷ high ∷ low ∷ rest
  pub sound : has descriptor SUSPECTED_ERRORS ≡ false
  pub marker : has descriptor RESTART_MARKER ≡ true
  pub wrong : is_no_length (block_count high low) ≡ true
  pub named : fault ≡ BadMarker place

-- an octet in a marker that is not printable, at its place
pub record IsBadOctet (place : ℕ) (w : List ℕ) (fault : FrameFault) : Type 0 where
  pub descriptor : ℕ
  pub high : ℕ
  pub low : ℕ
  pub good : List ℕ
  pub bad : ℕ
  pub rest : List ℕ
  pub is : w ≡ descriptor ∷ high ∷ low ∷ (good ++ bad ∷ rest)
  pub sound : has descriptor SUSPECTED_ERRORS ≡ false
  pub marker : has descriptor RESTART_MARKER ≡ true
  pub fits : is_no_length (block_count high low) ≡ false
  pub within : length good < block_count high low
  pub each : AllByRecursion (λ c. is_marker_octet c ≡ true) good
  pub wrong : is_marker_octet bad ≡ false
  pub named : fault ≡ BadMarker (place + 3 + length good)

-- what begins at a place and stands in no text
abbrev pub Begins : Mode → Structure → ℕ → List ℕ → FrameFault → Type 0
Begins Stream File place w fault = ⊥
Begins Stream Record place w fault = IsBadEscape place w fault
Begins Blocks s place w fault = IsSuspect place w fault ⊎ IsBadLength place w fault ⊎ IsBadOctet place w fault

-- the first fault of a wire: whole units that something follows, and then what stands in no text
pub record IsFault (m : Mode) (s : Structure) (w : List ℕ) (fault : FrameFault) : Type 0 where
  pub units : List WireUnit
  pub each : AllByRecursion (GoesOn m s) units
  pub rest : List ℕ
  pub is : w ≡ units_octets units ++ rest
  pub begins : Begins m s (length (units_octets units)) rest fault
