-- Where a path of a tree lies on a disk (own choice): below its folder, since no name of a path is `.` or `..` or has a `/`.
use Rattle.std.specs.Prelude.{◌≡◌, ℕ, List, IsTrue}
use Rattle.std.specs.List.{list_all}
use Rattle.ftp_path.specs.Path.{Names, is_component, joined}

-- a `/` before each of some names, each of which names something
pub record IsBelow (text : List ℕ) : Type 0 where
  pub names : Names
  pub whole : text ≡ joined names
  pub components : IsTrue (list_all is_component names)
