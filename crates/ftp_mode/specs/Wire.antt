-- The one text of a file, in each mode, type and structure.
use Rattle.std.specs.Prelude.{ℕ, List, []}
use Rattle.ftp_repr.specs.Signs.{Sign, signs_of}
use Rattle.ftp_settings.specs.Representation.{Form}
use Rattle.ftp_settings.specs.declared.representation.Kind.TheVariants.{Image}
use Rattle.ftp_settings.specs.declared.representation.Structure.{Structure}
use Rattle.ftp_settings.specs.declared.representation.Structure.TheVariants.{File, Record}
use Rattle.ftp_settings.specs.declared.representation.Mode.{Mode}
use Rattle.ftp_settings.specs.declared.representation.Mode.TheVariants.{Stream, Block as Blocks}
use Rattle.ftp_mode.specs.Stream.{plain_text, record_text}
use Rattle.ftp_mode.specs.Block.{rows_text}

-- the one text of a row of signs without own markers
abbrev pub wire_text : Mode → Structure → List Sign → List ℕ
wire_text Stream File ss = plain_text ss
wire_text Stream Record ss = record_text ss
wire_text Blocks s ss = rows_text [] ss

-- the wire of a file
abbrev pub wire : Mode → Form → List ℕ → List ℕ
wire m f b = wire_text m f.structure (signs_of f b)

-- type I and file structure
abbrev pub image_file : Form
image_file = record { kind = Image; structure = File }
