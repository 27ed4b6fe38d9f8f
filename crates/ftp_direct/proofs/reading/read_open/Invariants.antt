use Rattle.std.proofs.Common.{◌≡◌, ◌++◌, ◌-◌, drop, take}
use Rattle.ftp_tree.specs.Change.{IsSteady, NoStray}
use Rattle.ftp_direct.proofs.reading.read_open.Given as goal

abbrev pub invariant-loop-at : goal.invariant-loop-at
invariant-loop-at g l =
    let front = take l.end (g.T.Tree.opened l.fn.file) in
    record {
      gives : NoStray (g.T.Tree.failures l.fn.tree) (g.T.Tree.failures l.tree) → l.octets.items ++ drop l.at front ≡ drop l.from front;
      file : g.T.Tree.opened l.file ≡ g.T.Tree.opened l.fn.file;
      table : g.T.Tree.table l.tree ≡ g.T.Tree.table l.fn.tree;
      steady : IsSteady (g.T.Tree.failures l.fn.tree) (g.T.Tree.failures l.tree);
    }

abbrev pub decreases-loop-at : goal.decreases-loop-at
decreases-loop-at g l = l.end - l.at
