-- Type, structure and mode, the three settings of a transfer (RFC 959, sections 3.1 to 3.4 and 4.1.2).
use Rattle.std.specs.Prelude.{Bool, true, false, ◌&&◌}
use Rattle.ftp_settings.specs.declared.representation.Kind.{Kind}
use Rattle.ftp_settings.specs.declared.representation.Kind.TheVariants.{Ascii, Image}
use Rattle.ftp_settings.specs.declared.representation.Structure.{Structure}
use Rattle.ftp_settings.specs.declared.representation.Structure.TheVariants.{File, Record}
use Rattle.ftp_settings.specs.declared.representation.Mode.{Mode}
use Rattle.ftp_settings.specs.declared.representation.Mode.TheVariants.{Stream, Block}
use Rattle.ftp_settings.specs.declared.representation.Representation.{Representation}

-- the defaults: ASCII, file, stream (RFC 959, section 5.1)
abbrev pub defaults : Representation
defaults = record { kind = Ascii; structure = File; mode = Stream }

-- the form of a file: type and structure, by which it is octets and ends of records, whatever the mode
pub record Form : Type 0 where
  pub kind : Kind
  pub structure : Structure

abbrev pub form_of : Representation → Form
form_of r = record { kind = r.kind; structure = r.structure }

-- two types, two structures, two modes are the same
abbrev pub same_kind : Kind → Kind → Bool
same_kind Ascii Ascii = true
same_kind Ascii Image = false
same_kind Image Ascii = false
same_kind Image Image = true

abbrev pub same_structure : Structure → Structure → Bool
same_structure File File = true
same_structure File Record = false
same_structure Record File = false
same_structure Record Record = true

abbrev pub same_mode : Mode → Mode → Bool
same_mode Stream Stream = true
same_mode Stream Block = false
same_mode Block Stream = false
same_mode Block Block = true

-- own choice: restart markers are written in type I, file structure and block mode alone (RFC 959, section 3.5)
abbrev pub has_markers : Representation → Bool
has_markers r = same_kind r.kind Image && same_structure r.structure File && same_mode r.mode Block
