-- What a folder keeps outside memory, and how it stands to the tree that is mirrored to it (RFC 959, section 4.1.3).
use Rattle.std.specs.Prelude.{◌≡◌, ℕ, Option, Some, None}
use Rattle.std.specs.Option.{option_map}
use Rattle.ftp_path.specs.Path.{Names}
use Rattle.ftp_tree.specs.Change.{next_count}
use Rattle.ftp_tree.specs.Tree.{Table, node_at, under, with_part}

-- the map with a change of the part below a root
abbrev pub changed_below : Names → (Table → Table) → Table → Table
changed_below root change table = with_part table root (change (under table root))

-- done: the map that it keeps has changed, where it is known, and no failure is counted
abbrev pub IsKept : (Table → Table) → (old new : Option Table) → (before after : ℕ) → Type 0
IsKept change old new before after = (new ≡ option_map change old) × (after ≡ before)

-- failed: the map that it keeps is as it was, where it is known, and one failure more is counted, by wrapping
abbrev pub HasFailed : (old new : Option Table) → (before after : ℕ) → Type 0
HasFailed old new before after = (new ≡ old) × (after ≡ next_count before)

-- a folder mirrors a map where it keeps just that map, if what it keeps is known
abbrev pub Mirrors : Option Table → Table → Type 0
Mirrors kept table = (its : Table) → kept ≡ Some its → its ≡ table

-- what it keeps has nothing at a path below a root, if what it keeps is known
abbrev pub IsPathFree : (kept : Option Table) → (root path : Names) → Type 0
IsPathFree kept root path = (its : Table) → kept ≡ Some its → node_at (under its root) path ≡ None

-- A file is written over what stands in the folder only where the map has something at that path too: where the map has nothing, it is written
-- where nothing stands, so what came into the folder meanwhile is not replaced.
abbrev pub SparesUnknown : Table → (kept : Option Table) → (root path : Names) → Type 0
SparesUnknown table kept root path = node_at (under table root) path ≡ None → IsPathFree kept root path
