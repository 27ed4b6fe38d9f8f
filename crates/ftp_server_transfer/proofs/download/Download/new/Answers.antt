use Rattle.std.proofs.Common.{drop, arith}
use Rattle.ftp_server_transfer.proofs.DownloadLemmas.{counts}
use Rattle.ftp_server_transfer.proofs.download.Download.new.Goals as goal

pub returns : goal.returns
returns g c =
    let file = g.T.Tree.opened c.args.file in
    c.encoder_of.ensures (drop c.args.at file) (counts file c.args.at c.open_len-len.result c.open_len-len.ensures (omega arith) (omega arith))
