use Rattle.std.proofs.Common.{◌∙◌, ap, min}
use Rattle.ftp_tree.specs.Tree.{Table}
use Rattle.ftp_operation.specs.declared.op.Op.TheVariants as Ops
use Rattle.ftp_direct.specs.Direct.{State, due, here}
use Rattle.ftp_direct.proofs.DueLemmas.{peek_due}
use Rattle.ftp_direct.proofs.LookLemmas.{if_looked}
use Rattle.ftp_direct.proofs.RefusalLemmas.{if_due}
use Rattle.ftp_direct.proofs.reading.peek.Goals as goal

pub returns-clause-answer : goal.returns-clause-answer
returns-clause-answer g c = λ how.
    let found = rw c.in-Ok.is at c.in_ok-path.ensures.seen in
    let at : Table → State = λ table. here table c.args.root.now c.args.cwd.now in
    if_looked _ _ _ _ (g.T.Tree.table c.find_file.new.tree) found.2 c.in_ok-path.ensures.same c.say_octets.result (λ table. due (at table) (Ops.Peek c.args.text.now c.args.count how) 0) at _
    (if_due c.say_octets.result _ _ _ _ _ _
    (peek_due _ _ c.args.cwd.now c.args.text.now c.in-Ok.path found.0 how c.args.count _ found.1 (c.lesser-end.ensures ∙ ap (λ n. min c.args.count n) c.len_at.ensures))
    (c.say_octets.ensures.answer c.args.cwd.now))
