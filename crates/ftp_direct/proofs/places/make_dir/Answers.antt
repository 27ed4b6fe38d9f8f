use Rattle.std.proofs.Common.{◌∙◌, ap, is_some, sym}
use Rattle.ftp_tree.specs.Tree.{make_refusal, under}
use Rattle.ftp_tree.proofs.DeviceLemmas.{make-no}
use Rattle.ftp_operation.specs.declared.op.Op.TheVariants as Ops
use Rattle.ftp_direct.specs.Direct.{due, here}
use Rattle.ftp_direct.proofs.LookLemmas.{if_looked}
use Rattle.ftp_direct.proofs.RefusalLemmas.{gives_refused, if_refused, there_some}
use Rattle.ftp_direct.proofs.places.make_dir.Goals as goal
use Rattle.ftp_direct.specs.declared.refusal.Refusal.TheVariants.{Unavailable}

pub returns-clause-answer : goal.returns-clause-answer
returns-clause-answer g c =
    let found = rw c.in-Ok.is at c.in_ok-path.ensures.seen in
    let root = c.args.root.now in
    let cwd = c.args.cwd.now in
    let now = g.T.Tree.table c.see.new.tree in
    let op = Ops.MakeDir c.args.text.now in
    if_looked _ _ _ _ now found.2 c.in_ok-path.ensures.same c.refused.result (λ table. due (here table root cwd) op 0) (λ table. here table root cwd) _
    (if_refused c.refused.result _ _ Unavailable _ _ now _ root cwd _ c.refused.ensures.said c.refused.ensures.other c.in-Err-make_dir.ensures.refused (make-no _ _)
    (λ why e. gives_refused (here now root cwd) op 0 Unavailable
    (there_some _ _ found.1 (ap (λ p. is_some (make_refusal (under now root) p)) (sym found.0) ∙ ap is_some e))))
