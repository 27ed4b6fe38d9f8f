-- What a session begins with, as theorems speak of it.
use Rattle.std.specs.Prelude.{ℕ, List}
use Rattle.ftp_endpoint.specs.declared.host.Host.{Host}
use Rattle.ftp_operation.specs.Account.{Account}
use Rattle.ftp_tree.specs.Tree.{Table}
use Rattle.laws_world.specs.Claims.{Beginning}

-- who logs in, the accounts, the map, and the hosts of the two ends
abbrev pub begun : (user pass : List ℕ) → List Account → Table → (near_host far_host : Host) → Beginning
begun user pass accounts table near_host far_host = record {
  user = user;
  pass = pass;
  accounts = accounts;
  table = table;
  near_host = near_host;
  far_host = far_host;
}
