-- What a look compared (own choice): what stood at places of the disk, and what the tree had there.
use Rattle.std.specs.Prelude.{◌≡◌, ℕ, Bool, Option, Some, None, List, length, ◌&&◌, ◌==◌}
use Rattle.std.specs.List.{list_all}
use Rattle.ftp_tree.specs.Map.{Node}
use Rattle.ftp_tree.specs.Map as map
use Rattle.ftp_disk_host.specs.declared.host.Found.{Found}
use Rattle.ftp_disk_scan.specs.declared.loading.tree_entry.TreeEntry.{TreeEntry}
use Rattle.ftp_disk_scan.specs.declared.loading.tree_entry.TreeEntry.TheVariants as Entries
use Rattle.ftp_disk_scan.specs.loading.Difference.{difference_of, is_same}

-- what was found at a place, and what the tree had there
abbrev pub Pair : Type 0
Pair = Found × TreeEntry

-- both as one value
abbrev pub pair_of : Found → TreeEntry → Pair
pair_of found entry = (found, entry)

-- the disk is as the tree has it
abbrev pub agrees : Found → TreeEntry → Bool
agrees found entry = is_same (difference_of found entry)

-- so it is at each place
unfoldable pub all_agree : List Pair → Bool
all_agree = list_all (λ pair. agrees pair.0 pair.1)

-- nothing is in three lists that have so many
abbrev pub are_none : (gone not_longer more : ℕ) → Bool
are_none gone not_longer more = (gone == 0) && (not_longer == 0) && (more == 0)

-- what a tree has at a place, of a file how long it is
abbrev pub IsEntry : TreeEntry → Option Node → Type 0
IsEntry Entries.Nothing node = node ≡ None
IsEntry Entries.Dir node = node ≡ Some map.Dir
IsEntry (Entries.File look) (Some (map.File octets moment)) = look.len ≡ length octets
IsEntry (Entries.File look) other = ⊥
