use Rattle.std.proofs.Common.{◌≡◌, ◌∙◌, ap, true}
use Rattle.ftp_tree.specs.Tree.{under, make_refusal}
use Rattle.ftp_tree.proofs.DeviceLemmas.{make-no}
use Rattle.ftp_server_model.specs.Walk.{mkd}
use Rattle.ftp_server_model.specs.declared.reply.FixedReply.TheVariants as Texts
use Rattle.ftp_server_session.proofs.LookLemmas.{looked_turns}
use Rattle.ftp_server_session.proofs.RefusedLemmas.{may_due, there_due, tree_refused}
use Rattle.ftp_server_session.specs.Session.{session_of}
use Rattle.ftp_server_session.proofs.session.Session.make_dir.Goals as goal

pub returns-in-Err-clause-turn : goal.returns-in-Err-clause-turn
returns-in-Err-clause-turn g c =
    let table = g.T.Tree.table in let failures = g.T.Tree.failures in let view = g.J.ServerTransfer.view in
    let row = mkd c.args.text.now in let seen = c.see.new.self in
    let s = session_of table view seen in
    let found = rw c.in-Some.is at c.in_ok-path.ensures.found in
    let may : s.rights.make_dir ≡ true = ap (λ held. held.rights.make_dir) c.in_ok-path.ensures.looked.0 ∙ c.if-not-self.false in
    looked_turns table failures view row c.args.self.now seen (record seen { tree = c.make_dir.new.self }) c.in_ok-path.field-0 c.refused.result c.in_ok-path.ensures.looked
    (tree_refused table failures view row seen c.make_dir.new.self _ _ Texts.Refused _ c.in-Err.ensures.refused (make-no _ _)
    c.refused.ensures (λ why e. may_due s _ _ s.rights.make_dir _ may (there_due s _ _ _ (λ path. make_refusal (under s.table s.root) path) why found.0 found.1 e)))
