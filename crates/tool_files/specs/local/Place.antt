-- Where the octets of a file go (own choice).
use Rattle.std.specs.Prelude.{Bool, true, false, Some, None}
use Rattle.tool_files.specs.declared.local.place.FileKind.{FileKind}
use Rattle.tool_files.specs.declared.local.place.FileKind.TheVariants as Stands
use Rattle.tool_files.specs.declared.local.place.WriteMode.{WriteMode}
use Rattle.tool_files.specs.declared.local.place.WriteMode.TheVariants as Ways

-- what stands at the name, and whether links lead to what a process has open: a file is replaced, whose permissions the next one has; what is none is
-- written as it stands; a directory takes no octets, and a pipe only where a process has it open: by its name, whoever reads it would be waited for
abbrev pub way_of : FileKind → Bool → WriteMode
way_of Stands.Directory is_open = Ways.Nowhere
way_of Stands.Other is_open = Ways.Into
way_of (Stands.File mode) true = Ways.Into
way_of (Stands.File mode) false = Ways.Over (Some mode)
way_of Stands.Pipe true = Ways.Into
way_of Stands.Pipe false = Ways.Unread
way_of Stands.Nothing true = Ways.Into
way_of Stands.Nothing false = Ways.Over None
