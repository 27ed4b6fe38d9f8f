-- What is written of a file on a data connection (RFC 959, sections 3.1, 3.4 and 3.5).
use Rattle.std.specs.Prelude.{◌≡◌, ℕ, List, Bool, ◌&&◌, if◌then◌else◌, Option}
use Rattle.std.specs.Io.KnownBytes.{Appends, Consumes, IsAtEnd}
use Rattle.ftp_settings.specs.Representation.{form_of, has_markers}
use Rattle.ftp_settings.specs.declared.representation.Representation.{Representation}
use Rattle.ftp_mode.specs.Block.{marked_text}
use Rattle.ftp_mode.specs.Wire.{wire}
use Rattle.ftp_ports.specs.Beginning.{AppendsFront}

-- the one text of a file, with own markers from its start where they are asked for
abbrev pub frame_text : Representation → Bool → List ℕ → List ℕ
frame_text r marks file =
    if marks && has_markers r then marked_text 0 file else wire r.mode (form_of r) file

-- it went well: these octets were read, up to the input's end, and their text was written
pub record Frames (r : Representation) (marks : Bool) (before after : Option (List ℕ)) (old new : Option (List ℕ)) (status : ℕ) : Type 0 where
  pub file : List ℕ
  pub read : Consumes before after file
  pub whole : IsAtEnd after
  pub wrote : Appends old new (frame_text r marks file)
  pub says : status ≡ 0

-- it broke off: these octets were read, and a beginning of their text was written
pub record FramesFront (r : Representation) (marks : Bool) (before after : Option (List ℕ)) (old new : Option (List ℕ)) : Type 0 where
  pub file : List ℕ
  pub read : Consumes before after file
  pub wrote : AppendsFront old new (frame_text r marks file)
