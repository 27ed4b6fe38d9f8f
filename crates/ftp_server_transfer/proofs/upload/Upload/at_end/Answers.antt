use Rattle.std.proofs.Common.{sym}
use Rattle.ftp_server_transfer.proofs.EndLemmas.{at_whole, at_part}
use Rattle.ftp_server_transfer.proofs.upload.Upload.at_end.Goals as goal

pub returns-then-not-is_whole : goal.returns-then-not-is_whole
returns-then-not-is_whole g c = λ s same at may.
    let u = c.args.self in
    at_part c.args.moment.seconds u.path u.keep u.decoder.decoder s (g.T.Tree.table c.at_break.new.tree) c.at_break.result
    (g.T.Tree.failures c.args.tree.now) (g.T.Tree.failures c.at_break.new.tree) (sym c.if-not-is_whole.ensures) (c.at_break.ensures s same at may)

pub returns : goal.returns
returns g c = λ s same at may.
    let u = c.args.self in
    at_whole c.args.moment.seconds u.path u.keep u.decoder.decoder c.end.new.self.decoder s (g.T.Tree.table c.install.new.tree) c.install.result
    (g.T.Tree.failures c.args.tree.now) (g.T.Tree.failures c.install.new.tree) (sym c.if-not-is_whole.ensures) c.in-Ok.ensures.ok (c.install.ensures s same at may)
