use Rattle.std.proofs.Common.{◌∙◌, ap, refl}
use Rattle.ftp_tree.proofs.DeviceLemmas.{same-steady}
use Rattle.ftp_server_model.specs.Ask.{mdtm}
use Rattle.std.specs.Prelude.{Ok}
use Rattle.ftp_server_model.specs.declared.reply.ReplyKind.TheVariants as Replies
use Rattle.ftp_server_model.specs.declared.reply.FixedReply.TheVariants as Texts
use Rattle.ftp_server_session.specs.Session.{session_of}
use Rattle.ftp_server_session.proofs.LookLemmas.{looked_turns}
use Rattle.ftp_server_session.proofs.AskLemmas.{stamp_none, stamp_said}
use Rattle.ftp_server_session.proofs.session.Session.modified.Goals as goal

pub returns-in-Some-stamp-clause-turn : goal.returns-in-Some-stamp-clause-turn
returns-in-Some-stamp-clause-turn g c =
    let table = g.T.Tree.table in let failures = g.T.Tree.failures in let view = g.J.ServerTransfer.view in
    let seen = c.see.new.self in let s = session_of table view seen in
    let found = rw c.in-Some.is at c.in_ok-path.ensures.found in
    looked_turns table failures view (mdtm c.args.text.now) c.args.self.now seen seen c.in_ok-path.field-0 (Ok (Replies.Stamp c.moment_text.result)) c.in_ok-path.ensures.looked
    (λ none. ap (λ digits. (s, Replies.Stamp digits)) c.moment_text.ensures.digits ∙ stamp_said s c.args.text.now _ _ found.0 found.1 c.in-Some-stamp.ensures, same-steady (failures seen.tree) (failures seen.tree) refl)

pub returns-clause-turn : goal.returns-clause-turn
returns-clause-turn g c =
    let table = g.T.Tree.table in let failures = g.T.Tree.failures in let view = g.J.ServerTransfer.view in
    let seen = c.see.new.self in let s = session_of table view seen in
    let found = rw c.in-Some.is at c.in_ok-path.ensures.found in
    looked_turns table failures view (mdtm c.args.text.now) c.args.self.now seen seen c.in_ok-path.field-0 (Ok (Replies.Fixed Texts.Refused)) c.in_ok-path.ensures.looked
    (λ none. stamp_none s c.args.text.now _ found.0 found.1 c.in-None.ensures, same-steady (failures seen.tree) (failures seen.tree) refl)
