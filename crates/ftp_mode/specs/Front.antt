-- What a wire settles that was cut: its longest row of whole units.
use Rattle.std.specs.Prelude.{◌≡◌, ℕ, ◌<◌, ◌⊎◌, List, [], ◌∷◌, ◌++◌, length, true, false}
use Rattle.std.specs.List.{AllByRecursion}
use Rattle.ftp_settings.specs.declared.representation.Structure.{Structure}
use Rattle.ftp_settings.specs.declared.representation.Structure.TheVariants.{File, Record}
use Rattle.ftp_settings.specs.declared.representation.Mode.{Mode}
use Rattle.ftp_settings.specs.declared.representation.Mode.TheVariants.{Stream, Block as Blocks}
use Rattle.ftp_mode.specs.declared.fault.FrameFault.{FrameFault}
use Rattle.ftp_mode.specs.Said.{Said, octets_said}
use Rattle.ftp_mode.specs.Block.{has, block_count}
use Rattle.ftp_settings.specs.Marker.{is_marker_octet}
use Rattle.ftp_mode.specs.Units.{WireUnit, GoesOn, units_octets, units_said, IsText}
use Rattle.ftp_mode.specs.Fault.{is_no_length, IsFault}
use Rattle.ftp_mode.specs.declared.descriptor.TheConstants.{SUSPECTED_ERRORS, RESTART_MARKER}
use Rattle.ftp_mode.specs.declared.escape.TheConstants.{ESCAPE}

-- a cut header: a descriptor without suspected errors, and perhaps half of the count
abbrev pub IsCutHeader : List ℕ → Type 0
IsCutHeader w = ((d : ℕ) × (has d SUSPECTED_ERRORS ≡ false) × (w ≡ d ∷ [])) ⊎ ((d high : ℕ) × (has d SUSPECTED_ERRORS ≡ false) × (w ≡ d ∷ high ∷ []))

-- a cut block of data: its octets count
pub record IsCutData (w : List ℕ) (said : List Said) : Type 0 where
  pub descriptor : ℕ
  pub high : ℕ
  pub low : ℕ
  pub octets : List ℕ
  pub is : w ≡ descriptor ∷ high ∷ low ∷ octets
  pub sound : has descriptor SUSPECTED_ERRORS ≡ false
  pub plain : has descriptor RESTART_MARKER ≡ false
  pub short : length octets < block_count high low
  pub says : said ≡ octets_said octets

-- a cut marker says nothing
pub record IsCutMarker (w : List ℕ) : Type 0 where
  pub descriptor : ℕ
  pub high : ℕ
  pub low : ℕ
  pub octets : List ℕ
  pub is : w ≡ descriptor ∷ high ∷ low ∷ octets
  pub sound : has descriptor SUSPECTED_ERRORS ≡ false
  pub marker : has descriptor RESTART_MARKER ≡ true
  pub fits : is_no_length (block_count high low) ≡ false
  pub short : length octets < block_count high low
  pub each : AllByRecursion (λ c. is_marker_octet c ≡ true) octets

-- a unit that was cut, and what it says
abbrev pub IsCutUnit : Mode → Structure → List ℕ → List Said → Type 0
IsCutUnit Stream File w said = ⊥
IsCutUnit Stream Record w said = (w ≡ ESCAPE ∷ []) × (said ≡ [])
IsCutUnit Blocks s w said = (IsCutHeader w × (said ≡ [])) ⊎ IsCutData w said ⊎ (IsCutMarker w × (said ≡ []))

-- a wire that something may still follow: whole units, and perhaps one that was cut
pub record IsOpenWire (m : Mode) (s : Structure) (w : List ℕ) (said : List Said) : Type 0 where
  pub units : List WireUnit
  pub each : AllByRecursion (GoesOn m s) units
  pub rest : List ℕ
  pub cut : List Said
  pub is : w ≡ units_octets units ++ rest
  pub says : said ≡ units_said units ++ cut
  pub kind : ((rest ≡ []) × (cut ≡ [])) ⊎ IsCutUnit m s rest cut

-- a wire with a fault settles what stands before it
pub record IsFaultyWire (m : Mode) (s : Structure) (w : List ℕ) (said : List Said) : Type 0 where
  pub fault : FrameFault
  pub is : IsFault m s w fault
  pub says : said ≡ units_said is.units

-- what a wire settles: all that it says up to where it was cut, ended or stands in no text
abbrev pub Front : Mode → Structure → List ℕ → List Said → Type 0
Front m s w said = IsOpenWire m s w said ⊎ IsText m s w said ⊎ IsFaultyWire m s w said
