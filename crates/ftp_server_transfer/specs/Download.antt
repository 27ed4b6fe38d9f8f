-- What is still to be given of a download.
use Rattle.std.specs.Prelude.{ℕ, List, Bool, ◌&&◌, Option, Some, None, drop}
use Rattle.ftp_settings.specs.Representation.{same_kind, same_structure, same_mode}
use Rattle.ftp_settings.specs.declared.representation.Kind.TheVariants.{Image}
use Rattle.ftp_settings.specs.declared.representation.Structure.TheVariants.{File}
use Rattle.ftp_settings.specs.declared.representation.Mode.TheVariants.{Stream}
use Rattle.ftp_settings.specs.declared.representation.Representation.{Representation}
use Rattle.ftp_wire.specs.Encoding.{still_to_give}
use Rattle.ftp_wire.specs.declared.encoder.Encoder.{Encoder}
use Rattle.ftp_server_transfer.specs.declared.download.Download.{Download}

-- the octets of the wire are those of the file: type I and file structure in stream mode (RFC 959, sections 3.1.1.3 and 3.4.1)
abbrev pub is_plain : Representation → Bool
is_plain r = same_kind r.kind Image && same_structure r.structure File && same_mode r.mode Stream

-- the octets of the wire that are still to come, where these of the file are: through its encoder, or as they are where it has none
abbrev pub wire_given_by : Option Encoder → List ℕ → List ℕ
wire_given_by None file = file
wire_given_by (Some encoder) file = still_to_give encoder file

-- the octets of the wire that are still to come, where `opened` are the octets of an open file
abbrev pub rest_of : {A T O D : Type 0} → (O → List ℕ) → Download A T O D → List ℕ
rest_of opened d = wire_given_by d.encoder (drop d.at (opened d.file))
