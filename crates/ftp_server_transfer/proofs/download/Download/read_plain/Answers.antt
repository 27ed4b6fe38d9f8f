use Rattle.ftp_server_transfer.proofs.DownloadLemmas.{read_as_is}
use Rattle.ftp_server_transfer.proofs.download.Download.read_plain.Goals as goal

pub returns-clause-text : goal.returns-clause-text
returns-clause-text g c = λ stays. read_as_is (g.T.Tree.opened c.args.file.now) c.read.new.room c.args.at c.in_ok-count.count (c.in_ok-count.ensures.octets stays)
