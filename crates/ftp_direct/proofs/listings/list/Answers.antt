use Rattle.std.proofs.Common.{◌≡◌, ◌∙◌, None, Some, ap, sym, if◌then◌else◌}
use Rattle.ftp_tree.specs.Tree.{directory_refusal, node_at, under}
use Rattle.ftp_tree.specs.declared.fault.TreeFault.TheVariants.{TooBig}
use Rattle.ftp_operation.specs.declared.op.Op.TheVariants as Ops
use Rattle.ftp_operation.specs.Answer.{Entries}
use Rattle.ftp_direct.specs.Direct.{due, entries_in, here, place, refusal, refused_listing}
use Rattle.ftp_direct.proofs.LookLemmas.{looked_still}
use Rattle.ftp_direct.proofs.RefusalLemmas.{gives_done}
use Rattle.ftp_direct.proofs.listings.list.Goals as goal

pub returns-in-None-clause-answer : goal.returns-in-None-clause-answer
returns-in-None-clause-answer g c = λ how.
    let found = rw c.in-Ok.is at c.in_ok-path.ensures.seen in
    let root = c.args.root.now in
    let cwd = c.args.cwd.now in
    let now = g.T.Tree.table c.see_here.new.tree in
    let op = Ops.List c.args.text.now how in
    let named = place cwd c.args.text.now in
    let free : refusal (here now root cwd) op ≡ None =
    ap (λ fit. refused_listing (if fit then directory_refusal (node_at (under now root) named) else Some TooBig)) found.1
    ∙ ap (λ path. refused_listing (directory_refusal (node_at (under now root) path))) (sym found.0) ∙ ap refused_listing (sym c.in-None.ensures) in
    let gives = gives_done (here now root cwd) op 0 free in
    looked_still _ _ _ now found.2 c.in_ok-path.ensures.same (λ table. due (here table root cwd) op 0) (λ table. here table root cwd) _ _
    (ap Entries (c.in_ok-entries-in-None.ensures ∙ ap (entries_in (under now root)) found.0) ∙ gives.0, gives.1)
