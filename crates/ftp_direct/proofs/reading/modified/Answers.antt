use Rattle.std.proofs.Common.{◌∙◌, ap}
use Rattle.ftp_path.specs.Path.{fits}
use Rattle.ftp_tree.specs.Tree.{Table}
use Rattle.ftp_operation.specs.declared.op.Op.TheVariants as Ops
use Rattle.ftp_direct.specs.Direct.{State, due, here}
use Rattle.ftp_direct.proofs.LookLemmas.{looked_still}
use Rattle.ftp_direct.proofs.NodeLemmas.{stamp_said, stamp_none}
use Rattle.ftp_direct.proofs.RefusalLemmas.{as_told}
use Rattle.ftp_direct.proofs.reading.modified.Goals as goal

pub returns-in-Some-clause-answer : goal.returns-in-Some-clause-answer
returns-in-Some-clause-answer g c =
    let found = rw c.in-Ok.is at c.in_ok-path.ensures.seen in
    let at : Table → State = λ table. here table c.args.root.now c.args.cwd.now in
    looked_still _ _ _ (g.T.Tree.table c.see.new.tree) found.2 c.in_ok-path.ensures.same (λ table. due (at table) (Ops.Modified c.args.text.now) 0) at _ _
    (stamp_said _ _ _ c.args.text.now _ _ found.0 (ap fits found.0 ∙ found.1) c.in-Some.ensures)

pub returns-clause-answer : goal.returns-clause-answer
returns-clause-answer g c =
    let found = rw c.in-Ok.is at c.in_ok-path.ensures.seen in
    let at : Table → State = λ table. here table c.args.root.now c.args.cwd.now in
    looked_still _ _ _ (g.T.Tree.table c.see.new.tree) found.2 c.in_ok-path.ensures.same (λ table. due (at table) (Ops.Modified c.args.text.now) 0) at _ _
    (as_told _ _ _ _ c.tell-in-None.ensures (stamp_none _ _ _ c.args.text.now _ found.0 (ap fits found.0 ∙ found.1) c.in-None.ensures))
