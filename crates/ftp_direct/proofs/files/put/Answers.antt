use Rattle.std.proofs.Common.{◌∙◌, ap, length, zero-add, []}
use Rattle.ftp_direct.specs.Direct.{chosen, here, put, put_refusal}
use Rattle.ftp_direct.proofs.RefusalLemmas.{if_due}
use Rattle.ftp_direct.proofs.files.put.Goals as goal

pub returns-clause-answer : goal.returns-clause-answer
returns-clause-answer g c = λ how.
    let found = rw c.in-Some.is at c.in_ok-path.ensures in
    let old = here (g.T.Tree.table c.args.tree.now) c.args.root.now c.args.cwd.now in
    let octets = c.args.octets.now in
    let moment = c.args.moment.seconds in
    if_due c.put_behind.result _ _ _ _ _ _
    (ap (λ n. chosen (put_refusal old c.in-Some.path n) old (put old c.in-Some.path [] octets moment)) (zero-add (length octets))
    ∙ ap (λ path. chosen (put_refusal old path (length octets)) old (put old path [] octets moment)) found.0)
    (c.put_behind.ensures.answer c.args.cwd.now)
