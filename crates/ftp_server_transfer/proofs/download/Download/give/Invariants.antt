use Rattle.std.proofs.Common.{◌≡◌, ◌++◌, ◌+◌, ◌-◌, ◌≤◌, length, take}
use Rattle.ftp_server_transfer.specs.Download.{rest_of}
use Rattle.ftp_tree.specs.Change.{IsSteady, NoStray}
use Rattle.ftp_server_transfer.proofs.download.Download.give.Given as goal

abbrev pub invariant-loop-made : goal.invariant-loop-made
invariant-loop-made g l = record {
  made : l.made ≤ length l.room;
  room : length l.room ≡ length l.fn.room;
  len : l.len ≡ length (g.T.Tree.opened l.self.file);
  text : NoStray (g.T.Tree.failures l.fn.tree) (g.T.Tree.failures l.tree) → rest_of g.T.Tree.opened l.fn.self ≡ take l.made l.room ++ rest_of g.T.Tree.opened l.self;
  table : g.T.Tree.table l.tree ≡ g.T.Tree.table l.fn.tree;
  failures : IsSteady (g.T.Tree.failures l.fn.tree) (g.T.Tree.failures l.tree);
}

abbrev pub decreases-loop-made : goal.decreases-loop-made
decreases-loop-made g l = (length l.room - l.made) + (length (g.T.Tree.opened l.self.file) - l.self.at)
