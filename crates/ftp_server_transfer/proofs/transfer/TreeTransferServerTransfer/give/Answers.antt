use Rattle.std.proofs.Common.{refl, arith}
use Rattle.ftp_server_transfer.proofs.DownloadLemmas.{tells_few, tells_none}
use Rattle.ftp_server_transfer.proofs.transfer.TreeTransferServerTransfer.give.Goals as goal

pub returns-in-Download-clause-few : goal.returns-in-Download-clause-few
returns-in-Download-clause-few g c =
    let call = c.give in
    tells_few call.result.lost (g.T.Tree.failures c.args.tree.now) (g.T.Tree.failures call.new.tree) call.ensures.steady call.ensures.failed

pub returns-in-Listing-clause-few : goal.returns-in-Listing-clause-few
returns-in-Listing-clause-few g c = tells_none (g.T.Tree.failures c.args.tree.now) (g.T.Tree.failures c.args.tree.now) (refl, omega arith)

pub returns-in-Upload-clause-few : goal.returns-in-Upload-clause-few
returns-in-Upload-clause-few g c = tells_none (g.T.Tree.failures c.args.tree.now) (g.T.Tree.failures c.args.tree.now) (refl, omega arith)
