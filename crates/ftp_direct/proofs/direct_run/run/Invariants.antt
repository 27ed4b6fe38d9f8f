use Rattle.std.proofs.Common.{◌≤◌, take, []}
use Rattle.std.specs.Prelude.{map}
use Rattle.ftp_operation.specs.Answer.{said_of}
use Rattle.ftp_tree.specs.Change.{NoStray}
use Rattle.ftp_direct.specs.Direct.{standing}
use Rattle.ftp_direct.specs.Run.{orders_of}
use Rattle.ftp_direct.proofs.RunLemmas.{RunsTo}
use Rattle.ftp_direct.proofs.direct_run.run.Given as goal

abbrev pub invariant-loop-op : goal.invariant-loop-op
invariant-loop-op g l =
    let before = g.T.Tree.failures l.fn.tree in
    let after = g.T.Tree.failures l.tree in
    record {
      runs : NoStray before after → RunsTo before.told (standing (g.T.Tree.table l.fn.tree) l.root [] l.known l.rights) (take l.op-index (orders_of l.list)) (map said_of l.answers.items)
          after.told (standing (g.T.Tree.table l.tree) l.root l.cwd l.known l.rights);
      strays : before.strays ≤ after.strays;
    }
