-- How long the names of entries are at most.
use Rattle.std.proofs.Common.{ℕ, ◌≤◌, List, length}
use Rattle.std.specs.Prelude.{IsTrue, nat_le}
use Rattle.std.proofs.lemmas.Bool.{and_parts, leb-true}
use Rattle.ftp_path.specs.Path.{is_component, is_name}

pub name_short : (name : List ℕ) → IsTrue (is_name name) → length name ≤ 255
name_short name is = leb-true (length name) 255 (and_parts (is_component name) (nat_le (length name) 255) is).1
