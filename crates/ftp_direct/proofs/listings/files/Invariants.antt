use Rattle.std.proofs.Common.{◌≡◌, take}
use Rattle.std.specs.List.{filter_map}
use Rattle.ftp_tree.specs.Tree.{under}
use Rattle.ftp_direct.specs.Direct.{file_in}
use Rattle.ftp_direct.proofs.listings.files.Given as goal

abbrev pub invariant-loop-name : goal.invariant-loop-name
invariant-loop-name g l = l.files.items ≡ filter_map (file_in (under (g.T.Tree.table l.tree) l.root) l.path l.text) (take l.name-index l.name-items)
