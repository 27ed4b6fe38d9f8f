use Rattle.std.proofs.Common.{◌≡◌, ◌∙◌, List, Option, Some, ap, arith, false, subst, sym, ℕ}
use Rattle.ftp_server_model.specs.Failing.{LineFails}
use Rattle.ftp_server_model.specs.Heard.{Heard, reply_code_said, unanswered}
use Rattle.ftp_server_model.specs.Machine.{completed, obeyed, replied, turned, with_session}
use Rattle.ftp_server_model.specs.View.{Session, View}
use Rattle.ftp_server_model.specs.declared.heard.HeardLine.{HeardLine}
use Rattle.ftp_server_model.specs.declared.heard.HeardLine.TheVariants.{TooLong, Bad, Asks}
use Rattle.ftp_server_model.specs.declared.reply.FixedReply.TheVariants.{LocalFault}
use Rattle.ftp_server_session.specs.Line.{LineLost}
use Rattle.ftp_server_session.specs.Session.{session_of}
use Rattle.ftp_server.proofs.CountingLemmas.{by_fault, none_told}
use Rattle.ftp_server.proofs.BusyLemmas.{busy_seen, idle_calm, idle_free, idle_room}
use Rattle.ftp_server.proofs.NameLemmas.{keeps_named}
use Rattle.ftp_server.specs.Busy.{heard_name_len, is_busy}
use Rattle.ftp_server.specs.Server.{view_of}
use Rattle.ftp_server.proofs.server.Server.obey.Goals as goal

pub invariant_of-self : goal.invariant_of-self
invariant_of-self g c =
    let view = g.J.ServerTransfer.view in
    let v : View = view_of g.T.Tree.table view c.args.self.now in
    let free : is_busy c.args.self.now.session.connection ≡ false = sym (busy_seen view c.args.self.now.session.connection) ∙ idle_calm v c.requires.idle in
    record {
      room = λ busy. omega (arith, c.say.ensures.short (c.in-Ok.ensures.little free busy), idle_room v c.requires.idle);
      paths = c.args.self.now.paths;
      named = keeps_named (heard_name_len c.args.heard) c.args.self.now.session.access c.decide.new.self.access c.in-Ok.ensures.named c.args.self.now.named c.requires.named;
    }

pub invariant_of-self-in-Err : goal.invariant_of-self-in-Err
invariant_of-self-in-Err g c =
    let v : View = view_of g.T.Tree.table g.J.ServerTransfer.view c.args.self.now in
    record {
      room = λ busy. omega (arith, idle_room v c.requires.idle, c.put_fixed.ensures.room);
      paths = c.args.self.now.paths;
      named = keeps_named (heard_name_len c.args.heard) c.args.self.now.session.access c.decide.new.self.access c.in-Err.ensures.named c.args.self.now.named c.requires.named;
    }

pub returns-in-Ok-clause-done : goal.returns-in-Ok-clause-done
unfolding obeyed
returns-in-Ok-clause-done g c = λ course.
    let table = g.T.Tree.table in let view = g.J.ServerTransfer.view in
    let v : View = view_of table view c.args.self.now in
    let free = idle_free view c.args.self.now.session.connection (idle_calm v c.requires.idle) in
    let session = session_of g.T.Tree.table g.J.ServerTransfer.view c.decide.new.self in
    c.complete.ensures.done ∙ ap (λ owed. completed (record (with_session session v) { owed = owed })) c.say.ensures.said
    ∙ ap (λ turn. completed (turned turn v)) ((c.in-Ok.ensures.idle free).0 (ap (λ n. n.failures.strays) (sym c.complete.ensures.steady) ∙ course))

pub returns-in-Ok-clause-steady : goal.returns-in-Ok-clause-steady
returns-in-Ok-clause-steady g c =
    let v : View = view_of g.T.Tree.table g.J.ServerTransfer.view c.args.self.now in
    let free = idle_free g.J.ServerTransfer.view c.args.self.now.session.connection (idle_calm v c.requires.idle) in
    let steady = (c.in-Ok.ensures.idle free).1 in let strays = ap (λ n. n.failures.strays) c.complete.ensures.steady in
    (ap (λ n. n.failures.told) c.complete.ensures.steady ∙ steady.0, omega (arith, steady.1, strays))

-- a line that could not be done leaves its session, and is answered 451
line_fails : (heard : HeardLine (List ℕ)) (v : View) (session : Session) → LineLost heard v.session session → LineFails heard v (replied LocalFault session v)
line_fails TooLong v session lost = lost
line_fails (Bad fault) v session lost = lost
line_fails (Asks command) v session lost = (lost.0, lost.1, ap (λ s. replied LocalFault s v) lost.2)

pub returns-in-Err-clause-lost : goal.returns-in-Err-clause-lost
returns-in-Err-clause-lost g c = λ course.
    let table = g.T.Tree.table in let view = g.J.ServerTransfer.view in
    let v : View = view_of table view c.args.self.now in
    let free = idle_free view c.args.self.now.session.connection (idle_calm v c.requires.idle) in
    let session = session_of g.T.Tree.table g.J.ServerTransfer.view c.decide.new.self in
    subst (λ owed. LineFails c.args.heard v (record (with_session session v) { owed = owed })) (sym c.put_fixed.ensures.octets)
    (line_fails c.args.heard v session ((c.in-Err.ensures.idle free).0 course))

pub returns-in-Ok-clause-few : goal.returns-in-Ok-clause-few
returns-in-Ok-clause-few g c =
    let v : View = view_of g.T.Tree.table g.J.ServerTransfer.view c.args.self.now in
    let free = idle_free g.J.ServerTransfer.view c.args.self.now.session.connection (idle_calm v c.requires.idle) in
    let steady = (c.in-Ok.ensures.idle free).1 in let strays = ap (λ n. n.failures.strays) c.complete.ensures.steady in
    none_told 1 _ _ (ap (λ n. n.failures.told) c.complete.ensures.steady ∙ steady.0, omega (arith, steady.1, strays))

pub returns-in-Err-clause-few : goal.returns-in-Err-clause-few
returns-in-Err-clause-few g c =
    let v : View = view_of g.T.Tree.table g.J.ServerTransfer.view c.args.self.now in
    let free = idle_free g.J.ServerTransfer.view c.args.self.now.session.connection (idle_calm v c.requires.idle) in
    by_fault c.in-Err.field-0 _ _ (c.in-Err.ensures.idle free).1

-- a line with a code
abbrev coded : Heard → Option ℕ → Heard
coded line code = record line { code = code }

pub returns-in-Ok-clause-told : goal.returns-in-Ok-clause-told
returns-in-Ok-clause-told g c = λ course.
    let table = g.T.Tree.table in let view = g.J.ServerTransfer.view in
    let v : View = view_of table view c.args.self.now in
    let free = idle_free view c.args.self.now.session.connection (idle_calm v c.requires.idle) in
    let session = session_of table view c.decide.new.self in
    ap Some (c.answered.ensures ∙ ap (λ line. coded line c.reply_code.result) c.of-told.ensures
    ∙ ap (coded (unanswered c.args.heard)) (c.reply_code.ensures session
    ∙ ap reply_code_said ((c.in-Ok.ensures.idle free).0 (ap (λ n. n.failures.strays) (sym c.complete.ensures.steady) ∙ course))))
