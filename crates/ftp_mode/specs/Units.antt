-- The units of a wire, in each mode and structure, and what a whole wire reads as (RFC 959, section 3.4).
use Rattle.std.specs.Prelude.{◌≡◌, ℕ, List, [], ◌∷◌, ◌++◌, Bool, true, false, ◌==◌}
use Rattle.std.specs.List.{flat_map, AllByRecursion}
use Rattle.ftp_repr.specs.Signs.{octet, end_file}
use Rattle.ftp_settings.specs.declared.representation.Structure.{Structure}
use Rattle.ftp_settings.specs.declared.representation.Structure.TheVariants.{File, Record}
use Rattle.ftp_settings.specs.declared.representation.Mode.{Mode}
use Rattle.ftp_settings.specs.declared.representation.Mode.TheVariants.{Stream, Block as Blocks}
use Rattle.ftp_mode.specs.Said.{Said, says, octets_said}
use Rattle.ftp_mode.specs.Stream.{is_code, code_said, code_ends}
use Rattle.ftp_mode.specs.Block.{Block, block_octets, block_said, IsBlock, has}
use Rattle.ftp_mode.specs.declared.descriptor.TheConstants.{END_OF_FILE}
use Rattle.ftp_mode.specs.declared.escape.TheConstants.{ESCAPE}

-- an octet, an escape octet and its code, or a block
pub data WireUnit : Type 0 where
  one : (c : ℕ) → WireUnit
  escape : (code : ℕ) → WireUnit
  whole : (b : Block) → WireUnit

abbrev pub unit_octets : WireUnit → List ℕ
unit_octets (one c) = c ∷ []
unit_octets (escape code) = ESCAPE ∷ code ∷ []
unit_octets (whole b) = block_octets b

abbrev pub unit_said : WireUnit → List Said
unit_said (one c) = says (octet c) ∷ []
unit_said (escape code) = code_said code
unit_said (whole b) = block_said b

-- the file ends with it
abbrev pub unit_ends : WireUnit → Bool
unit_ends (one c) = false
unit_ends (escape code) = code_ends code
unit_ends (whole b) = has b.descriptor END_OF_FILE

-- which units a mode and a structure have
abbrev pub IsUnit : Mode → Structure → WireUnit → Type 0
IsUnit Stream File (one c) = Unit {0}
IsUnit Stream Record (one c) = (c == ESCAPE) ≡ false
IsUnit Blocks s (one c) = ⊥
IsUnit Stream File (escape code) = ⊥
IsUnit Stream Record (escape code) = is_code code ≡ true
IsUnit Blocks s (escape code) = ⊥
IsUnit Stream s (whole b) = ⊥
IsUnit Blocks s (whole b) = IsBlock b

-- a unit that something follows
abbrev pub GoesOn : Mode → Structure → WireUnit → Type 0
GoesOn m s u = IsUnit m s u × (unit_ends u ≡ false)

abbrev pub units_octets : List WireUnit → List ℕ
units_octets us = flat_map unit_octets us

abbrev pub units_said : List WireUnit → List Said
units_said us = flat_map unit_said us

-- a text: units, then one with which the file ends; anything may follow
pub record IsText (m : Mode) (s : Structure) (w : List ℕ) (said : List Said) : Type 0 where
  pub units : List WireUnit
  pub each : AllByRecursion (GoesOn m s) units
  pub last : WireUnit
  pub fits : IsUnit m s last
  pub ends : unit_ends last ≡ true
  pub rest : List ℕ
  pub is : w ≡ units_octets units ++ (unit_octets last ++ rest)
  pub says : said ≡ units_said units ++ unit_said last

-- what a wire reads as that has ended. In stream mode and file structure the end of the connection is the end of
-- file; else the wire has to be a text
abbrev pub Reads : Mode → Structure → List ℕ → List Said → Type 0
Reads Stream File w said = said ≡ octets_said w ++ says end_file ∷ []
Reads Stream Record w said = IsText Stream Record w said
Reads Blocks s w said = IsText Blocks s w said
