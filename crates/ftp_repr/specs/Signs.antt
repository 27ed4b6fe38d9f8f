-- What lies between a file and its wire: octets, ends of records and the end of file (RFC 959, section 3.4).
use Rattle.std.specs.Prelude.{ℕ, List, [], ◌∷◌, ◌++◌, map, if◌then◌else◌, ◌==◌}
use Rattle.std.specs.List.{flat_map}
use Rattle.ftp_repr.specs.Ascii.{ascii_octet}
use Rattle.ftp_settings.specs.Representation.{Form}
use Rattle.ftp_settings.specs.declared.representation.Kind.{Kind}
use Rattle.ftp_settings.specs.declared.representation.Kind.TheVariants.{Ascii, Image}
use Rattle.ftp_settings.specs.declared.representation.Structure.{Structure}
use Rattle.ftp_settings.specs.declared.representation.Structure.TheVariants.{File, Record}

pub data Sign : Type 0 where
  octet : (c : ℕ) → Sign
  end_record end_file : Sign

-- what an octet of the file goes as (RFC 959, sections 3.1.1.1 and 3.1.1.3)
abbrev pub wire_octets : Kind → ℕ → List ℕ
wire_octets Ascii c = ascii_octet c
wire_octets Image c = c ∷ []

-- what octets of the file go as
abbrev pub wire_row : Kind → List ℕ → List ℕ
wire_row k b = flat_map (wire_octets k) b

-- the signs of an octet of the file: in records an LF is an end of record (RFC 959, section 3.1.2.2)
abbrev pub octet_signs : Kind → Structure → ℕ → List Sign
octet_signs k File c = map octet (wire_octets k c)
octet_signs k Record c = if c == 10 then end_record ∷ [] else map octet (wire_octets k c)

abbrev pub signs_of_octet : Form → ℕ → List Sign
signs_of_octet f c = octet_signs f.kind f.structure c

-- the signs of a file: those of its octets, and the end of file
abbrev pub signs_of : Form → List ℕ → List Sign
signs_of f b = flat_map (signs_of_octet f) b ++ end_file ∷ []
