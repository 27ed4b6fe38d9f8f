-- What stands in a tree: at every path a list of names, and of every file a moment.
use Rattle.std.specs.Prelude.{ℕ, ◌&&◌, Bool, true, nat_le, IsTrue}
use Rattle.std.specs.List.{list_all}
use Rattle.ftp_path.specs.Path.{Names, is_name}
use Rattle.ftp_tree.specs.Map.{Node, Dir, File, Map}
use Rattle.ftp_tree.specs.Tree.{Table, IsTree}
use Rattle.std.specs.FinMap as fin

-- the last second of a moment (own choice: the end of the year 9999)
abbrev pub last_second : ℕ
last_second = 253402300799

-- of a file a moment
abbrev pub is_sound_node : Node → Bool
is_sound_node Dir = true
is_sound_node (File octets moment) = nat_le moment last_second

-- what stands at a path is sound, and the path is a list of names
abbrev pub is_sound_entry : Names × Node → Bool
is_sound_entry entry = list_all is_name entry.0 && is_sound_node entry.1

-- each of the entries is
abbrev pub IsSoundMap : Map → Type 0
IsSoundMap all = IsTrue (list_all is_sound_entry (fin.entries all))

abbrev pub IsSoundTable : Table → Type 0
IsSoundTable table = IsSoundMap table.map

-- a tree, and what stands in it is sound
pub record IsSoundTree (table : Table) : Type 0 where
  pub tree : IsTree table
  pub entries : IsSoundTable table
