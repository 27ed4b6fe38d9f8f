-- The letters of types, structures and modes (RFC 959, section 5.3.2).
use Rattle.std.specs.Prelude.{ℕ, List, codes, ◌≡◌}
use Rattle.ftp_settings.specs.declared.representation.Kind.{Kind}
use Rattle.ftp_settings.specs.declared.representation.Kind.TheVariants.{Ascii, Image}
use Rattle.ftp_settings.specs.declared.representation.Structure.{Structure}
use Rattle.ftp_settings.specs.declared.representation.Structure.TheVariants.{File, Record}
use Rattle.ftp_settings.specs.declared.representation.Mode.{Mode}
use Rattle.ftp_settings.specs.declared.representation.Mode.TheVariants.{Stream, Block}
use Rattle.ftp_settings.specs.declared.representation.Representation.{Representation}

-- the letter is that of the type
abbrev pub IsKind : List ℕ → Kind → Type 0
IsKind letter Ascii = letter ≡ codes "A"
IsKind letter Image = letter ≡ codes "I"

-- the letter is that of the structure
abbrev pub IsStructure : List ℕ → Structure → Type 0
IsStructure letter File = letter ≡ codes "F"
IsStructure letter Record = letter ≡ codes "R"

-- the letter is that of the mode
abbrev pub IsMode : List ℕ → Mode → Type 0
IsMode letter Stream = letter ≡ codes "S"
IsMode letter Block = letter ≡ codes "B"

-- the three letters name the type, the structure and the mode
abbrev pub Names : (kind structure mode : List ℕ) → Representation → Type 0
Names kind structure mode form = IsKind kind form.kind × IsStructure structure form.structure × IsMode mode form.mode
