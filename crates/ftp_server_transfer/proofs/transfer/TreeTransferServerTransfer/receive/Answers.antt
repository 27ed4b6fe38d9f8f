use Rattle.std.proofs.Common.{length, take, sym, ap, subst}
use Rattle.ftp_tree.specs.Tree.{under}
use Rattle.ftp_server_model.specs.View.{Transfer}
use Rattle.ftp_server_replies.specs.ServerTransfer.{Comes}
use Rattle.ftp_server_replies.specs.declared.transfer.Told.TheVariants as Tells
use Rattle.ftp_server_transfer.proofs.ReceiveLemmas.{over_comes}
use Rattle.ftp_server_transfer.specs.TreeTransfer.{transfer_of}
use Rattle.ftp_server_transfer.proofs.transfer.TreeTransferServerTransfer.receive.Goals as goal

pub returns-in-OverLimit-clause-comes : goal.returns-in-OverLimit-clause-comes
returns-in-OverLimit-clause-comes g c =
    let part = under (g.T.Tree.table c.args.tree.now) c.args.root.now in
    let octets = take (length c.args.piece.now) c.args.piece.now in
    let P : Transfer → Type 0 = λ t. Comes part t octets Tells.Nothing t in
    subst P (sym (ap (λ x. transfer_of g.T.Tree.opened x) c.in-OverLimit.is)) (over_comes part octets)
