use Rattle.std.proofs.Common.{◌≡◌, ◌∙◌, ◌+◌, ap, length, sym, subst, take, IfOk, None, Some, if◌then◌else◌}
use Rattle.ftp_tree.specs.Tree.{Table, octets_or_none, under}
use Rattle.ftp_operation.specs.Answer.{said_of}
use Rattle.ftp_direct.specs.Direct.{chosen, counted_place, here, put, put_refusal}
use Rattle.ftp_direct.specs.Run.{IsAnswer}
use Rattle.ftp_direct.proofs.DueLemmas.{put_from_due}
use Rattle.ftp_direct.proofs.LookLemmas.{if_counted, if_looked_once}
use Rattle.ftp_direct.proofs.RefusalLemmas.{if_due}
use Rattle.ftp_direct.proofs.files.put_from.Goals as goal
use Rattle.ftp_direct.specs.declared.refusal.Refusal.TheVariants.{BadParameter}

pub returns-in-Ok-Some-clause-answer : goal.returns-in-Ok-Some-clause-answer
returns-in-Ok-Some-clause-answer g c =
    let found = rw c.in-Some.is at c.in_ok-path.ensures in
    let path = c.in-Some.path in
    let root = c.args.root.now in
    let cwd = c.args.cwd.now in
    let octets = c.args.octets.now in
    let moment = c.args.moment.seconds in
    let at = c.in-Ok-Some.ensures in
    let place = c.in-Ok-Some.place in
    let old = g.T.Tree.table c.args.tree.now in
    let new = g.T.Tree.table c.put_behind.new.tree in
    let counts = g.T.Tree.failures c.place_at.new.tree in
    let after = g.T.Tree.failures c.put_behind.new.tree in
    let Puts : Table → Type 0 = λ table. IfOk c.put_behind.result (λ answer.
    IsAnswer counts after (chosen (put_refusal (here table root cwd) path (place + length octets)) (here table root cwd)
    (put (here table root cwd) path (take place (octets_or_none (under table root) path)) octets moment))
    (here table root cwd) (said_of answer) (here new root cwd)) in
    let done : Puts (g.T.Tree.table c.place_at.new.tree) = c.put_behind.ensures.answer cwd in
    let takes = c.takes_offset.ensures ∙ ap (λ b. if b then None else Some BadParameter) c.if-not-takes_offset.false in
    if_looked_once (g.T.Tree.failures c.args.tree.now) counts after old (g.T.Tree.table c.place_at.new.tree) at.told (λ _. at.table) c.put_behind.result _ _ _
    (if_counted c.put_behind.result counts after _ _ _ done)
    (λ none same.
    if_due c.put_behind.result _ _ _ _ _ _ (put_from_due old root cwd c.args.text.now path found.0 c.args.offset c.args.how place octets moment takes (sym c.in-Ok-Some.field-0-is ∙ at.place none))
    (subst Puts same done))
