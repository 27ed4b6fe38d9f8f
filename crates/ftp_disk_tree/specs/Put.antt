-- What the tree of a disk holds once a file was put.
use Rattle.std.specs.Prelude.{◌≡◌, ℕ, ◌+◌, List, length}
use Rattle.ftp_path.specs.Path.{Names}
use Rattle.ftp_tree.specs.Change.{Failures}
use Rattle.ftp_tree.specs.Tree.{Table, installed, under, with_part}
use Rattle.ftp_disk_tree.specs.Stray.{strays_between}
use Rattle.ftp_disk_scan.specs.loading.Held.{fit}

-- A file stands at a path that has as many octets as were put, those that are held of its version: a stray, where they are others. No failure was told.
pub record IsPut (holds : ℕ → List ℕ) (version : ℕ) (old new : Table) (root path : Names) (octets : List ℕ) (moment : ℕ)
    (before after : Failures) : Type 0 where
  pub table : new ≡ with_part old root (installed (under old root) path (fit (length octets) (holds version)) moment)
  pub strays : after.strays ≡ before.strays + strays_between (fit (length octets) (holds version)) octets
  pub told : after.told ≡ before.told
