-- Which file a name leads to, and into which one a part goes on (own choice).
use Rattle.std.specs.Prelude.{◌==◌, ◌&&◌, Bool, true, false, nat_lt, Option, Some, None}
use Rattle.tool_files.specs.declared.local.identity.FileId.{FileId}
use Rattle.tool_files.specs.declared.local.identity.FileStatus.{FileStatus}
use Rattle.tool_files.specs.declared.local.place.FileKind.{FileKind}
use Rattle.tool_files.specs.declared.local.place.FileKind.TheVariants as Stands

-- the file that has the name, if one has it, is the one that is open: device and inode are the same
abbrev pub is_same_file : FileId → Option FileId → Bool
is_same_file opened (Some named) = opened.device == named.device && opened.inode == named.inode
is_same_file opened None = false

-- a regular file stands there
abbrev pub is_file : FileKind → Bool
is_file (Stands.File mode) = true
is_file Stands.Directory = false
is_file Stands.Pipe = false
is_file Stands.Other = false
is_file Stands.Nothing = false

-- a regular file that has one name at most: no link, no pipe, and no file that is called otherwise too
abbrev pub is_lone_file : FileStatus → Bool
is_lone_file look = is_file look.standing && nat_lt look.links 2

-- a part that was opened again is written to: it is a file of one name, and the name leads to it still
abbrev pub is_own_part : FileStatus → Option FileId → Bool
is_own_part opened named = is_lone_file opened && is_same_file opened.id named
