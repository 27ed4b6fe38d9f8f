-- A server that has another tree (own choice).
use Rattle.std.specs.Prelude.{Option}
use Rattle.ftp_tree.specs.Change.{Failures}
use Rattle.ftp_tree.specs.Tree.{Table}
use Rattle.ftp_server_model.specs.Far.{Server}
use Rattle.ftp_server_model.specs.declared.session.Standing.{Standing}
use Rattle.laws_server.specs.several.Several.{exchanged, lent_as}

-- its map is that of the tree, and it counts the failures of that tree's device; all else stays, the count of refused growths too
abbrev pub swapped : Table → Failures → Server → Server
swapped table failures server = record server {
  view = exchanged table server.view;
  counts = record server.counts { failures = failures };
}

-- the same of a tree that is lent for calls: an upload is overtaken unless what stood at its path still stands there
abbrev pub lent : (stood : Option Standing) → Table → Failures → Server → Server
lent stood table failures server = record server {
  view = lent_as stood (exchanged table server.view);
  counts = record server.counts { failures = failures };
}
