use Rattle.std.proofs.Common.{◌≡◌, ◌≤◌, ◌-◌, length, take, IsTrue, vec_len}
use Rattle.std.specs.List.{list_all}
use Rattle.ftp_path.specs.Path.{is_name}
use Rattle.ftp_tree.specs.Tree.{children, under}
use Rattle.ftp_direct.proofs.listings.names_in.Given as goal

abbrev pub invariant-loop-name : goal.invariant-loop-name
invariant-loop-name g l =
    let all = children (under (g.T.Tree.table l.tree) l.root) l.path in
    record { so_far : l.names.items ≡ take (vec_len l.names) all; within : vec_len l.names ≤ length all; named : IsTrue (list_all is_name l.names.items) }

abbrev pub decreases-loop-name : goal.decreases-loop-name
decreases-loop-name g l = length (children (under (g.T.Tree.table l.tree) l.root) l.path) - vec_len l.names
