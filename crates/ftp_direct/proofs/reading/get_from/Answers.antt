use Rattle.std.proofs.Common.{◌≡◌, ◌∙◌, ap, drop, length, sym, subst, take, IfOk, None, Some, if◌then◌else◌}
use Rattle.ftp_tree.specs.Tree.{Table, octets_or_none, under}
use Rattle.ftp_operation.specs.Answer.{Octets, said_of}
use Rattle.ftp_direct.specs.Direct.{counted_place, here, refused_file}
use Rattle.ftp_direct.specs.Run.{IsAnswer}
use Rattle.ftp_direct.proofs.DueLemmas.{from_due}
use Rattle.ftp_direct.proofs.LookLemmas.{if_counted, if_looked_twice}
use Rattle.ftp_direct.proofs.RefusalLemmas.{if_due}
use Rattle.ftp_direct.proofs.reading.get_from.Goals as goal
use Rattle.ftp_direct.specs.declared.refusal.Refusal.TheVariants.{BadParameter}

pub returns-in-Ok-Some-clause-answer : goal.returns-in-Ok-Some-clause-answer
returns-in-Ok-Some-clause-answer g c =
    let found = rw c.in-Ok.is at c.in_ok-path.ensures.seen in
    let path = c.in-Ok.path in
    let root = c.args.root.now in
    let cwd = c.args.cwd.now in
    let at = c.in-Ok-Some.ensures in
    let place = c.in-Ok-Some.place in
    let end = c.len_at-end.result in
    let old = g.T.Tree.table c.args.tree.now in
    let counts = g.T.Tree.failures c.place_at.new.tree in
    let after = g.T.Tree.failures c.say_octets.new.tree in
    let Says : Table → Type 0 = λ table. IfOk c.say_octets.result (λ answer.
    IsAnswer counts after (Octets (drop place (take end (octets_or_none (under table root) path))), here table root cwd)
    (here table root cwd) (said_of answer) (here (g.T.Tree.table c.say_octets.new.tree) root cwd)) in
    let said : Says (g.T.Tree.table c.place_at.new.tree) = c.say_octets.ensures.answer cwd in
    let takes = c.takes_offset.ensures ∙ ap (λ b. if b then None else Some BadParameter) c.if-not-takes_offset.false in
    if_looked_twice _ _ counts after old _ (g.T.Tree.table c.place_at.new.tree) found.2 c.in_ok-path.ensures.same at.told (λ _. at.table) c.say_octets.result _ _ _
    (if_counted c.say_octets.result counts after _ _ _ said)
    (λ second still again.
    let free = subst (λ table. refused_file (here table root cwd) c.args.text.now ≡ None) still found.1 in
    let led = subst (λ table. Some place ≡ counted_place c.args.how.representation.kind (octets_or_none (under table root) path) c.args.offset) still (sym c.in-Ok-Some.field-0-is ∙ at.place second) in
    let all = subst (λ table. end ≡ length (octets_or_none (under table root) path)) again c.len_at-end.ensures in
    if_due c.say_octets.result _ _ _ _ _ _ (from_due old root cwd c.args.text.now path found.0 c.args.offset c.args.how place end takes free led all) (subst Says again said))
