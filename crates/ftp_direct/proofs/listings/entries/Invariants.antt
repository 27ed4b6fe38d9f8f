use Rattle.std.proofs.Common.{◌≡◌, map, take}
use Rattle.std.specs.List.{filter_map}
use Rattle.ftp_operation.specs.Answer.{listed_of}
use Rattle.ftp_tree.specs.Tree.{under}
use Rattle.ftp_direct.specs.Direct.{entry_in}
use Rattle.ftp_direct.proofs.listings.entries.Given as goal

abbrev pub invariant-loop-name : goal.invariant-loop-name
invariant-loop-name g l = map listed_of l.entries.items ≡ filter_map (entry_in (under (g.T.Tree.table l.tree) l.root) l.path) (take l.name-index l.name-items)
