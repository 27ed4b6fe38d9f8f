use Rattle.ftp_tree.specs.Tree.{node_at, octets_at, size_at, stamp_at, under}
use Rattle.ftp_direct.proofs.EntryLemmas.{shown_some, shown_undated, shown_unsized}
use Rattle.ftp_direct.proofs.entry.file_at.Goals as goal

pub returns-in_default : goal.returns-in_default
unfolding size_at octets_at
returns-in_default g c = shown_unsized (node_at (under (g.T.Tree.table c.args.tree.now) c.args.root.now) c.args.path.now) c.in_default.ensures

pub returns-in_default-stamp : goal.returns-in_default-stamp
unfolding stamp_at
returns-in_default-stamp g c = shown_undated (node_at (under (g.T.Tree.table c.args.tree.now) c.args.root.now) c.args.path.now) c.in_default-stamp.ensures

pub returns : goal.returns
unfolding size_at octets_at stamp_at
returns g c =
    shown_some (node_at (under (g.T.Tree.table c.args.tree.now) c.args.root.now) c.args.path.now) c.in-Some.size c.in-Some-stamp.moment.seconds c.in-Some.ensures c.in-Some-stamp.ensures
