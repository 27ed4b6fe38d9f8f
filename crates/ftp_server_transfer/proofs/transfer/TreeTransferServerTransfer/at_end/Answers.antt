use Rattle.std.proofs.Common.{sym, ap, subst}
use Rattle.ftp_server_model.specs.Machine.{at_end}
use Rattle.ftp_server_model.specs.View.{Transfer}
use Rattle.ftp_server_replies.specs.ServerTransfer.{Ends}
use Rattle.ftp_server_transfer.specs.TreeTransfer.{transfer_of}
use Rattle.ftp_server_transfer.proofs.transfer.TreeTransferServerTransfer.at_end.Goals as goal

pub returns-in-Upload-clause-ends : goal.returns-in-Upload-clause-ends
returns-in-Upload-clause-ends g c = λ s same at may.
    let call = c.at_end in
    let P : Transfer → Type 0 = λ t. Ends (at_end c.args.moment.seconds t s) s (g.T.Tree.table call.new.tree) call.result
    (g.T.Tree.failures c.args.tree.now) (g.T.Tree.failures call.new.tree) in
    subst P (sym (ap (λ x. transfer_of g.T.Tree.opened x) c.in-Upload.is)) (call.ensures s same at may)
