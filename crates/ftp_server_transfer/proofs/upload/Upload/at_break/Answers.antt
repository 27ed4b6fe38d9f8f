use Rattle.std.proofs.Common.{sym}
use Rattle.ftp_server_transfer.proofs.EndLemmas.{own_ends}
use Rattle.ftp_server_transfer.proofs.upload.Upload.at_break.Goals as goal

pub returns : goal.returns
returns g c = λ s same at may.
    let u = c.args.self in
    own_ends c.args.moment.seconds u.path u.keep u.decoder.decoder s (g.T.Tree.table c.install.new.tree) c.install.result (g.T.Tree.failures c.args.tree.now)
    (g.T.Tree.failures c.install.new.tree) (sym c.if-is_overtaken.ensures) (c.install.ensures s same at may)
