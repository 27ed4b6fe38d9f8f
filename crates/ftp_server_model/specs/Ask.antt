-- What is asked of a path: SIZE, MDTM, MLST (RFC 3659, sections 3, 4 and 7).
use Rattle.std.specs.Prelude.{ℕ, Bool, ◌&&◌, List, [], Option, if◌then◌else◌}
use Rattle.std.specs.Option.{unwrap_or}
use Rattle.ftp_tree.specs.Tree.{stamp_at}
use Rattle.ftp_facts.specs.Moment.{moment_digits}
use Rattle.ftp_direct.specs.Direct.{refusal, file_of, named_or_here, size_in}
use Rattle.ftp_operation.specs.declared.op.Op.TheVariants as Ops
use Rattle.ftp_settings.specs.Representation.{same_structure, same_mode}
use Rattle.ftp_settings.specs.declared.representation.Structure.TheVariants as Structures
use Rattle.ftp_settings.specs.declared.representation.Mode.TheVariants as Modes
use Rattle.ftp_server_model.specs.View.{Session, direct_of, how_in_force, seen}
use Rattle.ftp_server_model.specs.Replies.{Turn, tells}
use Rattle.ftp_server_model.specs.Walk.{unless, path_of}
use Rattle.ftp_settings.specs.declared.representation.Representation.{Representation}
use Rattle.ftp_server_model.specs.declared.reply.FixedReply.TheVariants as Texts
use Rattle.ftp_server_model.specs.declared.reply.ReplyKind.TheVariants as Replies

-- the octets that a transfer of the file would have, in the type in force
abbrev pub size_of : Session → List ℕ → ℕ
size_of s text = size_in s.settings.kind (file_of (direct_of s) text)

-- the settings in which a size is told
abbrev pub has_size : Representation → Bool
has_size settings = same_structure settings.structure Structures.File && same_mode settings.mode Modes.Stream

-- SIZE; own choice: a size is told in file structure and stream mode alone
abbrev pub size : List ℕ → Session → Turn
size text s =
    if has_size s.settings then unless (refusal (direct_of s) (Ops.Size text (how_in_force s.settings))) s (s, Replies.Size (size_of s text))
    else tells Texts.Refused s

-- MDTM: the second in which a file was installed
abbrev pub stamp_of : Session → List ℕ → ℕ
stamp_of s text = unwrap_or (stamp_at (seen s) (path_of s text)) 0

-- MDTM: YYYYMMDDHHMMSS in UTC (RFC 3659, section 3)
abbrev pub mdtm : List ℕ → Session → Turn
mdtm text s = unless (refusal (direct_of s) (Ops.Modified text)) s (s, Replies.Stamp (moment_digits (stamp_of s text)))

-- an argument that may be left out; an empty text names the current directory
abbrev pub or_empty : Option (List ℕ) → List ℕ
or_empty text = unwrap_or text []

-- MLST: the entry of what stands at a path
abbrev pub mlst : Option (List ℕ) → Session → Turn
mlst text s = unless (refusal (direct_of s) (Ops.Facts (or_empty text))) s (s, Replies.Entry (named_or_here (direct_of s) (or_empty text)))
