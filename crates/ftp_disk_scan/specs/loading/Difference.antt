-- How what stands at a place of the disk differs from what the tree has there (own choice).
use Rattle.std.specs.Prelude.{◌≡◌, ℕ, Bool, true, false, ◌&&◌, ◌==◌, nat_le, if◌then◌else◌}
use Rattle.std.proofs.Common.{int_eq}
use Rattle.ftp_disk_host.specs.declared.host.Found.{Found}
use Rattle.ftp_disk_host.specs.declared.host.Found.TheVariants.{Nothing, Dir, File, Other}
use Rattle.ftp_disk_host.specs.declared.host.Look.{Look}
use Rattle.ftp_disk_host.specs.declared.host.Stamp.{Stamp}
use Rattle.ftp_disk_scan.specs.declared.loading.tree_entry.TreeEntry.{TreeEntry}
use Rattle.ftp_disk_scan.specs.declared.loading.tree_entry.TreeEntry.TheVariants as Entries

-- nothing; what the tree has is gone; one of another kind is there; another file, with no more octets; a longer file, or what the tree has not
pub data Difference : Type 0 where
  Same Gone Replaced NotLonger More : Difference

-- the same time of a system
abbrev pub same_stamp : Stamp → Stamp → Bool
same_stamp one other = int_eq one.seconds other.seconds && int_eq one.nanos other.nanos

-- a file is the one that looked so: the same device and inode, as many octets, changed at the same moment
abbrev pub same_file : Look → Look → Bool
same_file look before =
    (look.device == before.device) && (look.inode == before.inode) && (look.len == before.len) && same_stamp look.modified before.modified

-- where both have a file
abbrev pub difference_of_files : Look → Look → Difference
difference_of_files look before = if same_file look before then Same else if nat_le look.len before.len then NotLonger else More

-- of what was found on the disk from what the tree has; what can't be served is nothing to a tree
unfoldable pub difference_of : Found → TreeEntry → Difference
difference_of Nothing Entries.Nothing = Same
difference_of Other Entries.Nothing = Same
difference_of (Dir look) Entries.Nothing = More
difference_of (File look) Entries.Nothing = More
difference_of (Dir look) Entries.Dir = Same
difference_of (File look) Entries.Dir = Replaced
difference_of (File look) (Entries.File before) = difference_of_files look before
difference_of (Dir look) (Entries.File before) = Replaced
difference_of found entry = Gone

-- there is none
abbrev pub is_same : Difference → Bool
is_same Same = true
is_same other = false

-- what the tree has does not stand there any more: nothing does, or one of another kind
abbrev pub is_away : Difference → Bool
is_away Gone = true
is_away Replaced = true
is_away other = false
