-- What stands at a path of a tree of a disk.
use Rattle.std.proofs.Common.{◌≡◌, ℕ, List, Option, Some, sym, subst}
use Rattle.ftp_tree.specs.Map.{Node}
use Rattle.ftp_tree.specs.Map as map
use Rattle.ftp_disk_scan.specs.loading.Held.{fit}
use Rattle.ftp_disk_tree.specs.Since.{IsThing}
use Rattle.ftp_disk_tree.specs.declared.thing.Thing.TheVariants as Things

-- a file whose octets are held of a version is that version
pub version_is : (holds : ℕ → List ℕ) (number len : ℕ) (octets : List ℕ) (moment : ℕ) (node : Option Node) → node ≡ Some (map.File octets moment)
    → octets ≡ fit len (holds number) → IsThing holds (Things.Version number) node
version_is holds number len octets moment node is held = subst (IsThing holds (Things.Version number)) (sym is) (len, held)

-- a directory is one
pub dir_is : (holds : ℕ → List ℕ) (node : Option Node) → node ≡ Some map.Dir → IsThing holds Things.Dir node
dir_is holds node is = is
