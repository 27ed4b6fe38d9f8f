use Rattle.std.proofs.Common.{◌≡◌, take}
use Rattle.std.specs.List.{filter_map}
use Rattle.ftp_tree.specs.Tree.{under}
use Rattle.ftp_direct.specs.Listing.{child_line}
use Rattle.ftp_direct.proofs.texts.child_lines.Given as goal

abbrev pub invariant-loop-name : goal.invariant-loop-name
invariant-loop-name g l = l.lines.items ≡ filter_map (child_line (under (g.T.Tree.table l.tree) l.root) l.path) (take l.name-index l.name-items)
