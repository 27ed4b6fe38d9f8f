use Rattle.std.proofs.Common.{◌∙◌, ◌+◌, ap, length, take}
use Rattle.std.proofs.Math.Seq.{take-length}
use Rattle.ftp_tree.specs.Tree.{octets_or_none, under}
use Rattle.ftp_direct.specs.Direct.{chosen, here, put, put_refusal}
use Rattle.ftp_direct.proofs.RefusalLemmas.{if_due}
use Rattle.ftp_direct.proofs.files.append.Goals as goal

pub returns-clause-answer : goal.returns-clause-answer
returns-clause-answer g c = λ how.
    let found = rw c.in-Some.is at c.in_ok-path.ensures in
    let table = under (g.T.Tree.table c.args.tree.now) c.args.root.now in
    let old = here (g.T.Tree.table c.args.tree.now) c.args.root.now c.args.cwd.now in
    let octets = c.args.octets.now in
    let moment = c.args.moment.seconds in
    let file = octets_or_none table c.in-Some.path in
    if_due c.put_behind.result _ _ _ _ _ _
    (ap (λ n. chosen (put_refusal old c.in-Some.path (n + length octets)) old (put old c.in-Some.path (take n file) octets moment)) c.len_at-kept.ensures
    ∙ ap (λ kept. chosen (put_refusal old c.in-Some.path (length file + length octets)) old (put old c.in-Some.path kept octets moment)) (take-length file)
    ∙ ap (λ path. chosen (put_refusal old path (length (octets_or_none table path) + length octets)) old (put old path (octets_or_none table path) octets moment)) found.0)
    (c.put_behind.ensures.answer c.args.cwd.now)
